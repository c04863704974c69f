-- `replay::events::cuts` meets its contract.
use Rattle.state.specs.View.{memory}
use Rattle.replay.proofs.Laws.{cut_off}
use Rattle.replay.proofs.events.cuts.Goals as goal

pub returns : goal.returns
returns c = let a = c.args in
    cut_off (memory a.words.now a.strings.now) _ a.frames.now a.out.now _
    c.requires
    c.hislip_cut-a.auto.out a.connection _ _ c.hislip_cut-a.ensures
    c.compared.ensures

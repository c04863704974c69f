-- `replay::events::reads_clock` meets its contract.
use Rattle.state.specs.View.{memory}
use Rattle.replay.proofs.Laws.{clock_read}
use Rattle.replay.proofs.events.reads_clock.Goals as goal

pub returns : goal.returns
returns c = let a = c.args in
    clock_read (memory a.words.now a.strings.now) _ a.frames.now a.out.now _
    c.requires
    c.hislip_clock-a.auto.out a.milliseconds _ _ c.hislip_clock-a.ensures
    c.compared.ensures

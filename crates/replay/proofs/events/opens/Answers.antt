-- `replay::events::opens` meets its contract.
use Rattle.state.specs.View.{memory}
use Rattle.replay.proofs.Laws.{opened}
use Rattle.replay.proofs.events.opens.Goals as goal

pub returns : goal.returns
returns c = let a = c.args in
    opened (memory a.words.now a.strings.now) _ a.frames.now a.connection _ _ c.hislip_open-a.ensures c.silent.ensures

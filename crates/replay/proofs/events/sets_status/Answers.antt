-- `replay::events::sets_status` meets its contract.
use Rattle.state.specs.View.{memory}
use Rattle.replay.proofs.Laws.{status_set}
use Rattle.replay.proofs.events.sets_status.Goals as goal

pub returns : goal.returns
returns c = let a = c.args in
    status_set (memory a.words.now a.strings.now) _ a.frames.now a.byte _ c.hislip_status.ensures.0 c.silent.ensures

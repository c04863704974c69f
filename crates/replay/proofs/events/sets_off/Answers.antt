-- `replay::events::sets_off` meets its contract.
use Rattle.state.specs.View.{memory}
use Rattle.replay.proofs.Laws.{set_off}
use Rattle.replay.proofs.events.sets_off.Goals as goal

pub returns : goal.returns
returns c = let a = c.args in
    set_off (memory a.words.now a.strings.now) _ a.frames.now a.session _ _ c.hislip_watch_off-a.ensures c.silent.ensures

-- `replay::events::sets_list` meets its contract.
use Rattle.state.specs.View.{memory}
use Rattle.replay.proofs.Laws.{set_list}
use Rattle.replay.proofs.events.sets_list.Goals as goal

pub returns : goal.returns
returns c = let a = c.args in
    set_list (memory a.words.now a.strings.now) _ a.frames.now a.text.now _ _ c.hislip_patterns-a.ensures c.silent.ensures

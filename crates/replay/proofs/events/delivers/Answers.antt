-- `replay::events::delivers` meets its contract.
use Rattle.state.specs.View.{memory}
use Rattle.replay.proofs.Laws.{delivered}
use Rattle.replay.proofs.events.delivers.Goals as goal

pub returns : goal.returns
returns c = let a = c.args in
    delivered (memory a.words.now a.strings.now) _ a.frames.now a.out.now _
    c.requires
    c.hislip_deliver-a.auto.out a.connection a.bytes.now _ _
    c.hislip_deliver-a.ensures c.compared.ensures

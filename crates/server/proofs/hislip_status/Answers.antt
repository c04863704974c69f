-- `hislip_status` meets its contract: it is never refused.
use Rattle.state.specs.View.{memory}
use Rattle.server.specs.Events.{status_call}
use Rattle.server.proofs.hislip_status.Goals as goal

pub returns : goal.returns
returns c = let a = c.args in
    let s = a.strings.now in
    (status_call a.status (memory a.words.now s) _ (c.set_status.ensures.0 s), c.set_status.ensures.1 s)

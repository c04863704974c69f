-- `sessions::close_slot` meets its contract.
use Rattle.holding.specs.Sessions.{closed}
use Rattle.holding.proofs.sessions.close_slot.Goals as goal

pub returns : goal.returns
returns c = let a = c.args in
    let s = a.strings.now in
    let o = c.close_session.ensures in
    let x = c.drop_locks.ensures in
    let y = c.drop_request.ensures in
    closed _ _ _ _ a.i (o.0 s) x.0 y.0 (λ t. y.1 (x.1 (o.1 s t)))

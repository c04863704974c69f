-- `sessions::enter_slot` meets its contract.
use Rattle.holding.specs.Sessions.{entered}
use borrow.Author.Rules.{rules}
use Rattle.holding.proofs.sessions.enter_slot.Goals as goal

pub open_session-requires : goal.open_session-requires
open_session-requires c = let p = c.requires in (search rules, p.1, search rules, p.3)

pub returns : goal.returns
returns c = let a = c.args in
    let s = a.strings.now in
    let o = c.open_session.ensures in
    let x = c.drop_locks.ensures in
    entered _ _ _ a.i a.n a.c (o.0 s) x.0 (λ t. x.1 (o.1 s c.requires.4 t))

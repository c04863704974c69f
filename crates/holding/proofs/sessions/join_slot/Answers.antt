-- `sessions::join_slot` meets its contract.
use Rattle.holding.specs.Sessions.{joining}
use borrow.Author.Rules.{rules}
use Rattle.holding.proofs.sessions.join_slot.Goals as goal

pub join_session-requires : goal.join_session-requires
join_session-requires c = let p = c.requires in (search rules, p.1, search rules, p.3)

pub returns : goal.returns
returns c = let a = c.args in λ s. joining _ _ a.i a.c (c.join_session.ensures.0 s) (c.join_session.ensures.1 s c.requires.4)

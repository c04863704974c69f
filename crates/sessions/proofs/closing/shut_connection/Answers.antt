-- `closing::shut_connection` meets its contract: two stores, or nothing past the connections.
use native.Mathlib.Omega.{arith}
use Rattle.sessions.specs.Closing.{shut_past, shut_stored}
use borrow.Author.Rules.{rules}
use Rattle.sessions.proofs.closing.shut_connection.Goals as goal

pub returns-then-x-ge-CONNECTIONS : goal.returns-then-x-ge-CONNECTIONS
returns-then-x-ge-CONNECTIONS c = let a = c.args in (
  λ s. shut_past a.w.now s a.x (search rules),
  λ s t. t,
)

pub returns : goal.returns
returns c = let a = c.args in (
  λ s. shut_stored a.x _ _ _ (c.set_connection.ensures.0 s) (c.set_connection-2.ensures.0 s),
  λ s t. c.set_connection-2.ensures.1 s (omega arith) (c.set_connection.ensures.1 s (omega arith) t),
)

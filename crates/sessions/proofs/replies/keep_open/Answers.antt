-- `replies::keep_open` meets its contract: two stores write the row.
use native.Mathlib.Omega.{arith}
use Rattle.sessions.specs.Replies.{connection_written}
use Rattle.sessions.proofs.replies.keep_open.Goals as goal

pub returns : goal.returns
returns c = let a = c.args in (
  λ s. connection_written a.c 1 a.left _ _ _ (c.set_connection.ensures.0 s) (c.set_connection-2.ensures.0 s),
  λ s t. c.set_connection-2.ensures.1 s (omega arith) (c.set_connection.ensures.1 s (omega arith) t),
)

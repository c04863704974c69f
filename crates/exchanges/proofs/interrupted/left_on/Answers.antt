-- `interrupted::left_on` meets its contract: past the connections nothing is skipped.
use Rattle.model.specs.State.{connection_at}
use Rattle.exchanges.specs.Interrupted.{remainder_past, remainder_read}
use Rattle.state.specs.View.{rest_of}
use Rattle.exchanges.proofs.interrupted.left_on.Goals as goal

pub returns-then-c-ge-CONNECTIONS : goal.returns-then-c-ge-CONNECTIONS
returns-then-c-ge-CONNECTIONS c = let a = c.args in remainder_past a.w.now a.c c.if-c-ge-CONNECTIONS.true

pub returns : goal.returns
returns c = let a = c.args in remainder_read (connection_at (rest_of a.w.now) a.c) c.connection.result c.connection.ensures.0

-- `synchronous::in_clear` meets its contract: the word that was read is the flag.
use Rattle.model.specs.State.{exchange_at}
use Rattle.checks.specs.Synchronous.{clear_read}
use Rattle.state.specs.View.{rest_of}
use Rattle.checks.proofs.synchronous.in_clear.Goals as goal

pub returns : goal.returns
returns c = let a = c.args in clear_read (exchange_at (rest_of a.w.now) a.i) c.exchange.result c.exchange.ensures.0

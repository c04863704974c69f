-- `synchronous::is_expected` meets its contract: the word that was read, within its range.
use mathlib.Core.Path.{ap}
use lib.Dec.{eqb}
use Rattle.model.specs.State.{exchange_at}
use Rattle.checks.specs.Synchronous.{number_read}
use Rattle.state.specs.View.{rest_of}
use Rattle.checks.proofs.synchronous.is_expected.Goals as goal

pub returns : goal.returns
returns c = let a = c.args in ap (eqb a.param) (number_read (exchange_at (rest_of a.w.now) a.i) c.exchange-expected.result c.exchange-expected.ensures.0)

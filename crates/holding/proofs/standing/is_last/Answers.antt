-- `standing::is_last` meets its contract.
use mathlib.Core.Path.{ap}
use Prim.Native.Nat.{ℕ}
use lib.Dec.{eqb}
use Rattle.model.specs.State.{at}
use Rattle.holding.specs.Standing.{last_read}
use Rattle.state.specs.View.{locks_of}
use Rattle.holding.proofs.standing.is_last.Goals as goal

pub returns : goal.returns
returns c = let a = c.args in λ s. ap (λ (x : ℕ). eqb x a.n) (last_read (at (locks_of a.w.now s).entries a.i) c.order.result (c.order.ensures.0 s))

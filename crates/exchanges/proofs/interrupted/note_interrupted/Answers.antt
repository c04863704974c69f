-- `interrupted::note_interrupted` meets its contract: two stores.
use native.Mathlib.Omega.{arith}
use Rattle.exchanges.specs.Interrupted.{both_off}
use Rattle.state.specs.View.{memory, view}
use Rattle.exchanges.proofs.interrupted.note_interrupted.Goals as goal

pub returns : goal.returns
returns c = let a = c.args in (
  λ s. both_off (view (memory a.w.now s)) _ _ a.i (c.set_exchange.ensures.0 s) (c.set_exchange-2.ensures.0 s),
  λ s t. c.set_exchange-2.ensures.1 s (omega arith) (c.set_exchange.ensures.1 s (omega arith) t),
)

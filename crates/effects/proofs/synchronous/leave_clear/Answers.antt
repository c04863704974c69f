-- `synchronous::leave_clear` meets its contract: two stores.
use native.Mathlib.Omega.{arith}
use Rattle.sessions.specs.Synchronous.{clear_left}
use Rattle.state.specs.View.{memory, view}
use Rattle.effects.proofs.synchronous.leave_clear.Goals as goal

pub returns : goal.returns
returns c = let a = c.args in (
  λ s. clear_left (view (memory a.w.now s)) _ _ a.i a.code (c.set_exchange.ensures.0 s) (c.set_exchange-2.ensures.0 s),
  λ s t. c.set_exchange-2.ensures.1 s (omega arith) (c.set_exchange.ensures.1 s (omega arith) t),
)

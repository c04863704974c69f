-- `asynchronous::enter_clear` meets its contract: five stores, and the count.
use native.Mathlib.Omega.{arith}
use Rattle.effects.specs.LockMessages.{clear_entered}
use Rattle.effects.proofs.asynchronous.enter_clear.Goals as goal

pub returns : goal.returns
returns c = let a = c.args in (
  λ s. clear_entered a.i _ _ _ _ _ _ _ (c.set_exchange.ensures.0 s)
      (c.set_exchange-2.ensures.0 s)
      (c.set_exchange-3.ensures.0 s) (c.set_exchange-4.ensures.0 s)
      (c.set_exchange-5.ensures.0 s) (c.reset_count.ensures.0 s),
  λ s t. c.reset_count.ensures.1 s (c.set_exchange-5.ensures.1 s (omega arith)
      (c.set_exchange-4.ensures.1 s (omega arith)
      (c.set_exchange-3.ensures.1 s (omega arith)
      (c.set_exchange-2.ensures.1 s (omega arith)
      (c.set_exchange.ensures.1 s (omega arith) t))))),
)

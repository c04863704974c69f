-- `closing::renew_exchange` meets its contract: a store for each field, and the count.
use native.Mathlib.Omega.{arith}
use Rattle.sessions.specs.Closing.{renewed}
use Rattle.sessions.proofs.closing.renew_exchange.Goals as goal

pub returns : goal.returns
returns c = let a = c.args in (
  λ s. renewed a.i a.mode _ _ _ _ _ _ _ _ _
      (c.set_exchange.ensures.0 s)
      (c.set_exchange-2.ensures.0 s)
      (c.set_exchange-3.ensures.0 s)
      (c.set_exchange-4.ensures.0 s)
      (c.set_exchange-5.ensures.0 s)
      (c.set_exchange-6.ensures.0 s) (c.set_exchange-7.ensures.0 s) (c.reset_count.ensures.0 s),
  λ s m t. c.reset_count.ensures.1 s (c.set_exchange-7.ensures.1 s (omega arith)
      (c.set_exchange-6.ensures.1 s (omega arith)
      (c.set_exchange-5.ensures.1 s m
      (c.set_exchange-4.ensures.1 s (omega arith)
      (c.set_exchange-3.ensures.1 s (omega arith)
      (c.set_exchange-2.ensures.1 s (omega arith)
      (c.set_exchange.ensures.1 s
      (omega arith) t))))))),
)

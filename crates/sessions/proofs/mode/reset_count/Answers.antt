-- `mode::reset_count` meets its contract: two stores.
use native.Mathlib.Omega.{arith}
use Rattle.sessions.specs.Mode.{count_reset}
use Rattle.sessions.proofs.mode.reset_count.Goals as goal

pub returns : goal.returns
returns c = let a = c.args in (
  λ s. count_reset a.i _ _ _ (c.set_exchange.ensures.0 s) (c.set_exchange-2.ensures.0 s),
  λ s t. c.set_exchange-2.ensures.1 s (omega arith) (c.set_exchange.ensures.1 s (omega arith) t),
)

-- `interrupted::withhold` meets its contract: the number is the header's.
use mathlib.Core.Path.{ap}
use Rattle.wire.specs.declared.Header.{Header}
use Rattle.exchanges.specs.Interrupted.{noted_number}
use Rattle.state.specs.View.{memory, view}
use Rattle.exchanges.proofs.interrupted.withhold.Goals as goal

pub returns : goal.returns
returns c = let a = c.args in (
  λ s. noted_number (view (memory a.w.now s)) a.i _ _ _ _ _ _
      (ap (λ (h : Header). h.param) c.header_at-h.ensures) (c.interrupt.ensures.1 s),
  c.interrupt.ensures.2,
)

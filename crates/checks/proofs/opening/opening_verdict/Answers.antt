-- `opening::opening_verdict` meets its contract: check after check, in the order of the row of rules.
use mathlib.Core.Path.{ap, ap, ◌∙◌}
use Prim.Native.Nat.{ℕ}
use Rattle.model.specs.Checks.{first, opening_rules}
use Rattle.state.specs.View.{memory, view}
use Rattle.checks.specs.Verdicts.{message}
use Rattle.checks.specs.Opening.{open_other, join_payload, join_unknown, join_session}
use Rattle.checks.proofs.opening.opening_verdict.Goals as goal

pub returns-then-kind-eq-INITIALIZE : goal.returns-then-kind-eq-INITIALIZE
returns-then-kind-eq-INITIALIZE c = let a = c.args in
    λ s m. ap (λ (k : ℕ). first (opening_rules (view (memory a.w.now s)) (message k m a.param a.len) a.payload.now))
    c.if-kind-eq-INITIALIZE.true ∙ c.initialize_verdict.ensures s m a.param a.len

pub returns-then-kind-ne-ASYNC_INITIALIZE : goal.returns-then-kind-ne-ASYNC_INITIALIZE
returns-then-kind-ne-ASYNC_INITIALIZE c = let a = c.args in
    λ s m. open_other (view (memory a.w.now s)) a.kind m a.param a.len a.payload.now c.if-kind-eq-INITIALIZE.false c.if-kind-ne-ASYNC_INITIALIZE.true

pub returns-then-len-gt0 : goal.returns-then-len-gt0
returns-then-len-gt0 c = let a = c.args in
    λ s m. join_payload (view (memory a.w.now s)) a.kind m a.param a.len a.payload.now c.if-kind-ne-ASYNC_INITIALIZE.false c.if-len-gt0.true

pub returns-then-not-is_half_open : goal.returns-then-not-is_half_open
returns-then-not-is_half_open c = let a = c.args in
    λ s m. join_unknown (view (memory a.w.now s)) a.kind m a.param a.len a.payload.now c.if-kind-ne-ASYNC_INITIALIZE.false
    c.if-len-gt0.false (c.is_half_open.ensures s ∙ c.if-not-is_half_open.true)

pub returns : goal.returns
returns c = let a = c.args in
    λ s m. join_session (view (memory a.w.now s)) a.kind m a.param a.len a.payload.now c.if-kind-ne-ASYNC_INITIALIZE.false
    c.if-len-gt0.false (c.is_half_open.ensures s ∙ c.if-not-is_half_open.false)

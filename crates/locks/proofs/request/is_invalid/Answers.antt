-- `request::is_invalid` meets its contract: the tests of the code, in its order.
use mathlib.Core.Path.{sym, ◌∙◌}
use mathlib.Core.Bool.{true≢false}
use native.Mathlib.Omega.{arith}
use borrow.Author.Tests.{lt-ltb}
use Rattle.model.specs.Sizes.{string_limit}
use Rattle.locks.specs.Asking.{unable_holds, unable_long, unable_stands, unable_waits}
use Rattle.state.specs.View.{locks_of}
use Rattle.locks.proofs.request.is_invalid.Goals as goal
use Rattle.locks.proofs.request.is_invalid.Goals.{then-n-gt-STRING_LIMIT, else-n-gt-STRING_LIMIT, then-stands, else-stands}

pub returns-then-holds_kind : goal.returns-then-holds_kind
returns-then-holds_kind c = let a = c.args in
    λ s k n. elim c.if-n-gt-STRING_LIMIT.branch [
      | then-n-gt-STRING_LIMIT z ↦ unable_long (locks_of a.w.now s) a.i k (omega arith)
      | else-n-gt-STRING_LIMIT z ↦ elim c.if-stands.branch [
        | then-stands y ↦ unable_stands (locks_of a.w.now s) a.i k (omega arith) (z.stands.ensures s ∙ sym z.value-is ∙ y.if-stands.true)
        | else-stands y ↦ unable_holds (locks_of a.w.now s) a.i k (omega arith) (z.stands.ensures s ∙ sym z.value-is ∙ y.if-stands.false)
            (y.holds_kind.ensures s k n ∙ sym y.value-is ∙ c.if-holds_kind.true)
      ]
    ]
    ∙ sym c.if-holds_kind.true

pub returns-else-holds_kind : goal.returns-else-holds_kind
returns-else-holds_kind c = let a = c.args in
    λ s k n. elim c.if-stands.branch [
      | then-stands y ↦ absurd (true≢false (sym y.if-stands.true ∙ sym y.value-is ∙ c.if-holds_kind.false))
      | else-stands y ↦ elim c.if-n-gt-STRING_LIMIT.branch [
        | then-n-gt-STRING_LIMIT z ↦ absurd (true≢false (sym (lt-ltb string_limit a.n z.if-n-gt-STRING_LIMIT.true) ∙ sym z.value-is ∙ y.if-stands.false))
        | else-n-gt-STRING_LIMIT z ↦ unable_waits (locks_of a.w.now s) a.i k _ (omega arith)
            (z.stands.ensures s ∙ sym z.value-is ∙ y.if-stands.false)
            (y.holds_kind.ensures s k n ∙ sym y.value-is ∙ c.if-holds_kind.false) (c.is_idle.ensures s)
      ]
    ]

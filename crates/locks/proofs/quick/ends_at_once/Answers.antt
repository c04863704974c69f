-- `quick::ends_at_once` meets its contract: each test says one of the four.
use mathlib.Core.Path.{sym, ap, ◌∙◌}
use mathlib.Core.Bool.{not, true≢false}
use borrow.Author.Tests.{eqb-true}
use Rattle.queue.specs.Queue.{count_is}
use Rattle.locks.proofs.quick.ends_at_once.Goals as goal
use Rattle.locks.proofs.quick.ends_at_once.Goals.{then-not-stands, else-not-stands, then-is_exclusive, else-is_exclusive}

pub returns-then-is_last : goal.returns-then-is_last
returns-then-is_last c = λ e s.
    elim c.if-is_exclusive.branch [
      | then-is_exclusive y ↦ elim c.if-not-stands.branch [
        | then-not-stands z ↦ record {
          settles = c.stands.ensures s ∙ z.if-not-stands.true;
          exclusive = z.is_exclusive.ensures s ∙ sym z.value-is ∙ y.if-is_exclusive.true;
          last = y.is_last.ensures s ∙ sym y.value-is ∙ c.if-is_last.true;
          waiting = sym (count_is c.args.w.now s) ∙ sym c.waiting_count.ensures.0 ∙ eqb-true _ _ e;
        }
        | else-not-stands z ↦ absurd (true≢false (sym y.if-is_exclusive.true ∙ z.value-is ∙ ap not z.if-not-stands.false))
      ]
      | else-is_exclusive y ↦ absurd (true≢false (sym c.if-is_last.true ∙ y.value-is ∙ y.if-is_exclusive.false))
    ]

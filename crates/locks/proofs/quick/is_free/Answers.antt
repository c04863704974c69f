-- `quick::is_free` meets its contract: each test says one of the four.
use mathlib.Core.Path.{sym, ap, ◌∙◌}
use mathlib.Core.Bool.{not, true≢false}
use borrow.Author.Tests.{eqb-true}
use Rattle.queue.specs.Queue.{count_is}
use Rattle.locks.proofs.quick.is_free.Goals as goal
use Rattle.locks.proofs.quick.is_free.Goals.{then-not-stands, else-not-stands, then-nobody_exclusive, else-nobody_exclusive}

pub returns-then-nobody_shares : goal.returns-then-nobody_shares
returns-then-nobody_shares c = λ e s.
    elim c.if-nobody_exclusive.branch [
      | then-nobody_exclusive y ↦ elim c.if-not-stands.branch [
        | then-not-stands z ↦ record {
          settles = c.stands.ensures s ∙ z.if-not-stands.true;
          exclusive = z.nobody_exclusive.ensures s ∙ sym z.value-is ∙ y.if-nobody_exclusive.true;
          shared = y.nobody_shares.ensures s ∙ sym y.value-is ∙ c.if-nobody_shares.true;
          waiting = sym (count_is c.args.w.now s) ∙ sym c.waiting_count.ensures.0 ∙ eqb-true _ _ e;
        }
        | else-not-stands z ↦ absurd (true≢false (sym y.if-nobody_exclusive.true ∙ z.value-is ∙ ap not z.if-not-stands.false))
      ]
      | else-nobody_exclusive y ↦ absurd (true≢false (sym c.if-nobody_shares.true ∙ y.value-is ∙ y.if-nobody_exclusive.false))
    ]

-- `waiting::answer_leaving` meets its contract. The invariant: answering those from place j on ends where answering all does.
use Prim.Native.Nat.{ℕ, ◌<◌}
use Rattle.model.specs.Locks.{Answer}
use Rattle.holding.specs.Outcome.{ends, ends_nil}
use Rattle.holding.specs.Waiting.{answer_leave, refuse_end, refuse_stay, slot_is, stays}
use Rattle.queue.specs.Queue.{count_is}
use Rattle.state.specs.View.{locks_of, request_at}
use mathlib.Core.Path.{refl, ap, ◌∙◌}
use mathlib.Core.List.{List}
use Prim.Native.Nat.{ℕ}
use native.Mathlib.Omega.{arith}
use lib.ListN.{length}
use Rattle.holding.specs.Outcome.{ends}
use Rattle.holding.specs.Waiting.{stays}
use Rattle.state.specs.View.{locks_of}
use Rattle.holding.proofs.waiting.answer_leaving.Goals as goal
use Rattle.holding.proofs.waiting.answer_leaving.Goals.{then-not-may_stay, else-not-may_stay}

pub loop-j-init : goal.loop-j-init
loop-j-init c = (omega arith, refl, λ s. refl)

pub loop-j-preserved : goal.loop-j-preserved
loop-j-preserved c = let a = c.args in
    let l = c.loop-j in
    let x = c.waiting_slot-x in
    let h : (s : List ℕ) → l.j < length (locks_of a.w.now s).waiting = (λ s. omega (arith, count_is a.w.now s)) in
    elim c.if-not-may_stay.branch [
      | then-not-may_stay y ↦ (
        omega (arith, ap length y.out-is),
        omega (arith, ap length y.out-is),
        λ s.
            l.invariant.2 s
            ∙ rw (y.out-is, y.at-is, y.put_answer-at.ensures.0, y.put_answer-at.ensures.1 s)
            (answer_leave (locks_of a.w.now s).entries (stays a.leaving) (locks_of a.w.now s).waiting l.j (request_at a.w.now s x.result)
            (h s) (x.ensures.1 s) x.result l.out l.at (slot_is a.w.now s x.result)
            (c.may_stay.ensures s ∙ y.if-not-may_stay.true) (omega arith)),
      )
      | else-not-may_stay y ↦ (
        omega (arith, ap length y.out-is),
        omega (arith, ap length y.out-is),
        λ s.
            l.invariant.2 s
            ∙ rw (y.out-is, y.at-is)
            (ap (λ (xs : List Answer). ends xs l.out l.at)
            (refuse_stay (locks_of a.w.now s).entries (stays a.leaving) (locks_of a.w.now s).waiting l.j (request_at a.w.now s x.result)
            (h s) (x.ensures.1 s) (c.may_stay.ensures s ∙ y.if-not-may_stay.false))),
      )
    ]

pub returns : goal.returns
returns c = let a = c.args in
    let l = c.loop-j in
    λ s.
    l.invariant.2 s
    ∙ ap (λ (xs : List Answer). ends xs l.out l.at) (refuse_end (locks_of a.w.now s).entries (stays a.leaving) (locks_of a.w.now s).waiting
    l.j (omega (arith, count_is a.w.now s)))
    ∙ ends_nil l.out l.at

-- `waiting::keep_staying` meets its contract. The invariant: those kept so far and those that stay from place j on are all that stay.
use mathlib.Core.List.{[]}
use Prim.Native.Nat.{◌<◌}
use Rattle.holding.specs.Waiting.{count_moved, halfway_end, halfway_leave, halfway_stay, stays}
use Rattle.queue.specs.Queue.{count_is}
use Rattle.state.specs.View.{locks_of, memory, request_at, view}
use mathlib.Core.Path.{refl, sym, ◌∙◌}
use native.Mathlib.Omega.{arith}
use lib.ListN.{length}
use Rattle.holding.specs.Waiting.{stays}
use Rattle.state.specs.View.{locks_of, memory, view}
use borrow.Author.Rules.{rules}
use Rattle.holding.proofs.waiting.keep_staying.Goals as goal
use Rattle.holding.proofs.waiting.keep_staying.Goals.{then-may_stay, else-may_stay}

pub loop-j-init : goal.loop-j-init
loop-j-init c = (search rules, sym c.waiting_count-n.ensures.0, refl, λ t. t)

pub loop-j-preserved : goal.loop-j-preserved
loop-j-preserved c = let a = c.args in
    let l = c.loop-j in
    let x = c.waiting_slot-x in
    let s = a.strings.now in
    let h : l.j < length (locks_of l.w s).waiting = omega (arith, count_is l.w s) in
    elim c.if-may_stay.branch [
      | then-may_stay y ↦ (
        omega arith,
        rw y.w-is (count_moved l.w _ l.j l.k (y.swap_waiting.ensures.0 []) ∙ l.invariant.1),
        l.invariant.2
            ∙ rw (y.w-is, y.k-is)
            (sym (halfway_stay (stays a.leaving) (view (memory l.w s)) l.j l.k (request_at l.w s x.result) h (x.ensures.1 s) _
            (y.swap_waiting.ensures.0 s) l.invariant.0 (c.may_stay.ensures s ∙ y.if-may_stay.true))),
        λ t. rw y.w-is (y.swap_waiting.ensures.1 s (l.invariant.3 t)),
      )
      | else-may_stay y ↦ (
        omega arith,
        rw y.w-is l.invariant.1,
        l.invariant.2
            ∙ rw (y.w-is, y.k-is)
            (sym (halfway_leave (stays a.leaving) (view (memory l.w s)) l.j l.k (request_at l.w s x.result) h (x.ensures.1 s) (c.may_stay.ensures s ∙ y.if-may_stay.false))),
        λ t. rw y.w-is (l.invariant.3 t),
      )
    ]

pub returns : goal.returns
returns c = let a = c.args in
    let l = c.loop-j in
    let s = a.strings.now in (
      halfway_end (stays a.leaving) (view (memory l.w s)) _ l.j l.k (omega (arith, count_is l.w s)) c.keep_first.ensures.0
          ∙ sym l.invariant.2,
      λ t. c.keep_first.ensures.1 (l.invariant.3 t),
    )

-- `grant_pass::pass_waiting` meets its contract. The invariant: the pass over those from place j on ends where the whole pass does.
use Rattle.grants.specs.Pass.{count_granted, pass_end, pass_grant, pass_keep, pass_met}
use Rattle.holding.specs.Waiting.{count_moved, slot_is}
use Rattle.queue.specs.Queue.{count_is}
use mathlib.Core.Path.{refl, sym, ap, ◌∙◌}
use mathlib.Core.List.{[]}
use Prim.Native.Nat.{◌<◌}
use native.Mathlib.Omega.{arith}
use lib.ListN.{length}
use Rattle.state.specs.View.{locks_of, memory, request_at, view}
use borrow.Author.Rules.{rules}
use Rattle.grants.proofs.grant_pass.pass_waiting.Goals as goal
use Rattle.grants.proofs.grant_pass.pass_waiting.Goals.{then-may_grant, else-may_grant}

pub loop-j-init : goal.loop-j-init
loop-j-init c = (search rules, sym c.waiting_count-n.ensures.0, omega arith, refl, refl, λ t. t)

pub grant_and_answer-at-requires : goal.grant_and_answer-at-requires
grant_and_answer-at-requires c = (search rules, omega arith, c.may_grant.ensures ∙ c.if-may_grant.true)

pub loop-j-preserved : goal.loop-j-preserved
loop-j-preserved c = let l = c.loop-j in
    let d = view (memory l.w l.strings) in
    let x = c.waiting_slot-x in
    let q = request_at l.w l.strings x.result in
    let h : l.j < length (locks_of l.w l.strings).waiting = omega (arith, count_is l.w l.strings) in
    elim c.if-may_grant.branch [
      | then-may_grant y ↦ (
        omega arith,
        rw y.w-is (count_granted _ _ _ _ _ _ _ _ _ y.grant_and_answer-at.ensures ∙ l.invariant.1),
        omega (arith, ap length y.out-is),
        omega (arith, ap length y.out-is),
        l.invariant.4
            ∙ rw (y.w-is, y.strings-is, y.out-is, y.at-is, y.k-is, y.grant_and_answer-at.ensures.place, y.grant_and_answer-at.ensures.buffer)
            (pass_grant d l.j l.k q x.result l.out l.at h (x.ensures.1 l.strings) (slot_is l.w l.strings x.result) _
            y.grant_and_answer-at.ensures.server (c.may_grant.ensures ∙ y.if-may_grant.true) (omega arith)),
        λ t. rw (y.w-is, y.strings-is) (y.grant_and_answer-at.ensures.tidy (l.invariant.5 t)),
      )
      | else-may_grant y ↦ (
        omega arith,
        rw y.w-is (count_moved l.w _ l.j l.k (y.swap_waiting.ensures.0 []) ∙ l.invariant.1),
        omega (arith, ap length y.out-is),
        omega (arith, ap length y.out-is),
        l.invariant.4
            ∙ rw (y.w-is, y.strings-is, y.out-is, y.at-is, y.k-is)
            (pass_keep d l.j l.k q x.result l.out l.at h (x.ensures.1 l.strings) (slot_is l.w l.strings x.result) _
            (y.swap_waiting.ensures.0 l.strings) l.invariant.0 (c.may_grant.ensures ∙ y.if-may_grant.false)),
        λ t. rw (y.w-is, y.strings-is) (y.swap_waiting.ensures.1 l.strings (l.invariant.5 t)),
      )
    ]

pub returns : goal.returns
returns c = let a = c.args in
    let l = c.loop-j in
    pass_met (memory a.w.now a.strings.now) _ _ _ _ _
    (l.invariant.4 ∙ pass_end (view (memory l.w l.strings)) _ l.j l.k l.out l.at (omega (arith, count_is l.w l.strings)) c.keep_first.ensures.0)
    (λ t. c.keep_first.ensures.1 (l.invariant.5 t))

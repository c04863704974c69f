-- `request::is_idle` meets its contract. The invariant: none among those from place j on is none at all.
use mathlib.Core.Path.{◌≡◌, refl, sym, ◌∙◌}
use native.Mathlib.Omega.{arith}
use borrow.Author.Tests.{eqb-true}
use Rattle.locks.specs.Asking.{idle_end, idle_on, idle_stop}
use Rattle.holding.specs.Waiting.{slot_is}
use Rattle.queue.specs.Queue.{count_is}
use Rattle.queue.specs.Requests.{count_of}
use Rattle.state.specs.View.{locks_of, request_at}
use Rattle.locks.proofs.request.is_idle.Goals as goal

pub returns-then-nobody_waits : goal.returns-then-nobody_waits
returns-then-nobody_waits c = let w = c.args.w.now in
    let z : count_of w ≡ 0 = eqb-true (count_of w) 0 (c.nobody_waits.ensures ∙ c.if-nobody_waits.true) in
    λ s. idle_end c.args.i (locks_of w s).waiting 0 (omega (arith, count_is w s))

pub loop-j-init : goal.loop-j-init
loop-j-init c = λ s. refl

pub returns-then-waiting_slot-i : goal.returns-then-waiting_slot-i
returns-then-waiting_slot-i c = let a = c.args in
    let l = c.loop-j in
    let x = c.waiting_slot in
    λ s.
    l.invariant s
    ∙ idle_stop a.i (locks_of a.w.now s).waiting l.j (request_at a.w.now s x.result) (omega (arith, count_is a.w.now s)) (x.ensures.1 s)
    (slot_is a.w.now s x.result ∙ c.if-waiting_slot-i.true)

pub loop-j-preserved : goal.loop-j-preserved
loop-j-preserved c = let a = c.args in
    let l = c.loop-j in
    let x = c.waiting_slot in (
    λ s.
    l.invariant s
    ∙ idle_on a.i (locks_of a.w.now s).waiting l.j (request_at a.w.now s x.result) (omega (arith, count_is a.w.now s))
    (x.ensures.1 s) (λ e. c.if-waiting_slot-i.false (sym (slot_is a.w.now s x.result) ∙ e))
    )

pub returns : goal.returns
returns c = let a = c.args in
    let l = c.loop-j in
    λ s. l.invariant s ∙ idle_end a.i (locks_of a.w.now s).waiting l.j (omega (arith, count_is a.w.now s))

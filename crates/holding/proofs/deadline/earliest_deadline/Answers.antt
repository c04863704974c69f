-- `deadline::earliest_deadline` meets its contract. The invariant: with the earliest so far, those from place j on give the earliest of all.
use mathlib.Core.Path.{sym, ap, ◌∙◌}
use mathlib.Core.List.{List}
use Prim.Native.Nat.{ℕ, ◌+◌, ◌<◌, min}
use native.Mathlib.Omega.{arith}
use lib.ListN.{length, drop}
use Rattle.model.specs.Asking.{earliest_of}
use Rattle.queue.specs.Queue.{count_is}
use Rattle.state.specs.View.{locks_of, request_at}
use Rattle.holding.specs.Deadline.{none_waits, earliest_first, earliest_next, earliest_last}
use Rattle.holding.proofs.deadline.earliest_deadline.Goals as goal

pub returns-then-n-eq0 : goal.returns-then-n-eq0
returns-then-n-eq0 c = let a = c.args in
    λ s. none_waits (locks_of a.w.now s).waiting (omega (arith, count_is a.w.now s, c.waiting_count-n.ensures.0, c.if-n-eq0.true))

pub loop-j-init : goal.loop-j-init
loop-j-init c = let a = c.args in
    let x = c.waiting_slot-first in
    let h : (s : List ℕ) → 0 < length (locks_of a.w.now s).waiting =
    (λ s. omega (arith, count_is a.w.now s, c.waiting_count-n.ensures.0, c.if-n-eq0.false)) in (
    λ s.
    earliest_first (locks_of a.w.now s).waiting (request_at a.w.now s x.result) (h s) (x.ensures.1 s)
    ∙ ap (λ (b : ℕ). earliest_of b (drop 1 (locks_of a.w.now s).waiting)) (c.deadline_of-best.ensures s)
    )

pub loop-j-preserved : goal.loop-j-preserved
loop-j-preserved c = let l = c.loop-j in
    let a = c.args in
    let x = c.waiting_slot-x in
    let h : (s : List ℕ) → l.j < length (locks_of a.w.now s).waiting =
    (λ s. omega (
      arith,
      count_is a.w.now s,
      c.waiting_count-n.ensures.0,
    )) in (
    λ s.
    l.invariant s
    ∙ earliest_next (locks_of a.w.now s).waiting l.best l.j (request_at a.w.now s x.result) (h s) (x.ensures.1 s)
    ∙ ap (λ (b : ℕ). earliest_of b (drop (l.j + 1) (locks_of a.w.now s).waiting)) (ap (min l.best) (c.deadline_of.ensures s) ∙ sym c.min-best.ensures)
    )

pub returns : goal.returns
returns c = let l = c.loop-j in
    let a = c.args in
    λ s. l.invariant s ∙ earliest_last (locks_of a.w.now s).waiting l.best l.j
    (omega (arith, count_is a.w.now s, c.waiting_count-n.ensures.0))

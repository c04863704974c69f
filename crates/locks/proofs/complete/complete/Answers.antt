-- `complete::complete` meets its contract: one answer, and three stores.
use mathlib.Core.Path.{ap, ◌∙◌}
use Prim.Native.Nat.{ℕ}
use native.Mathlib.Omega.{arith}
use Rattle.wire.specs.Frame.{frame_bytes}
use Rattle.wire.specs.Splice.{splice}
use Rattle.locks.specs.Complete.{completed_due, ended_stored}
use Rattle.holding.specs.Outcome.{lock_answer_frame, met_one}
use Rattle.holding.specs.Standing.{kind_of}
use Rattle.state.specs.View.{locks_of, memory, view}
use borrow.Author.Rules.{rules}
use Rattle.locks.proofs.complete.complete.Goals as goal

pub returns : goal.returns
returns c = let a = c.args in
    let s = a.strings.now in
    let p = c.put_answer-r.ensures in
    let f = c.free_lock.ensures in
    let o₁ = c.set_order.ensures in
    let o₂ = c.set_order-2.ensures in (
      p.0,
      met_one _ _ _ _ _ _ _ _ _ (completed_due (locks_of a.w.now s) a.i a.n (kind_of a.kind))
          (ended_stored (view (memory a.w.now s)) _ _ _ a.i a.n (kind_of a.kind)
          c.requires.2 f.0 (o₁.0 _) (o₂.0 _))
          (p.1 s ∙ ap (λ (x : ℕ). splice a.out.now a.at (frame_bytes (lock_answer_frame (locks_of a.w.now s).entries a.i x)))
          c.code.ensures) p.0 (search rules)
          (λ t. o₂.1 _ (omega arith) (o₁.1 _ c.requires.2 (f.1 t))),
    )

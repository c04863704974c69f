-- `holders::holders` meets its contract. The invariant: the panel has the rows of the slots from i on.
use mathlib.Core.Path.{◌≡◌, refl, ap, ◌∙◌}
use Prim.Native.Nat.{◌+◌, ◌-◌}
use native.Mathlib.Omega.{arith}
use Rattle.model.specs.State.{at}
use Rattle.state.specs.View.{locks_of}
use Rattle.questions.specs.Holders.{one_row, rows_from, rows_none, rows_next, rows_all}
use Rattle.questions.proofs.holders.holders.Goals as goal

pub loop-i-init : goal.loop-i-init
loop-i-init c = (omega (arith, c.nobody-panel.ensures), rw c.nobody-panel.ensures refl, λ s. rw c.nobody-panel.ensures (rows_none c.args.w.now s c.nobody-panel.result.rows))

pub loop-i-preserved : goal.loop-i-preserved
loop-i-preserved c = let e = c.with_slot-panel.ensures in
    let w = c.args.w.now in
    let i = c.loop-i.i in
    let z : i ≡ i - 1 + 1 = omega arith in (
      omega (arith, e.0),
      e.1,
      λ s. e.2 s ∙ ap (one_row (at (locks_of w s).entries (i - 1))) (c.loop-i.invariant.2 s ∙ ap (rows_from (locks_of w s).entries) z) ∙ rows_next w s (i - 1) (omega arith),
    )

pub returns : goal.returns
returns c = let l = c.loop-i in
    let w = c.args.w.now in
    let z : l.i ≡ 0 = omega arith in
    (omega arith, l.invariant.1, λ s. l.invariant.2 s ∙ ap (rows_from (locks_of w s).entries) z ∙ rows_all w s)

-- `sharing::leave_sharers` meets its contract: it did not share, others share still, or the string goes with it.
use mathlib.Core.Path.{ap, ◌∙◌}
use mathlib.Core.List.{List}
use Prim.Native.Nat.{ℕ}
use lib.ListN.{set}
use Rattle.state.specs.Granting.{shared_dropped}
use Rattle.state.specs.Layout.{SHARERS}
use Rattle.queue.specs.Unsharing.{none_left, others_left}
use Rattle.state.specs.View.{memory, view}
use Rattle.shares.proofs.sharing.leave_sharers.Goals as goal

pub returns-then-left-before : goal.returns-then-left-before
returns-then-left-before c = let a = c.args in
    let w : List ℕ = a.w.now in
    let s : List ℕ = a.strings.now in
    let e = c.taken_out-left.ensures in
    (ap (λ (x : ℕ). view (memory (set w SHARERS x) s)) e ∙ shared_dropped w s a.i c.requires c.told-w, λ t. none_left w s a.i _ t e c.if-left-before.true)

pub returns-then-left-ne0 : goal.returns-then-left-ne0
returns-then-left-ne0 c = let a = c.args in
    let w : List ℕ = a.w.now in
    let s : List ℕ = a.strings.now in
    let e = c.taken_out-left.ensures in
    (ap (λ (x : ℕ). view (memory (set w SHARERS x) s)) e ∙ shared_dropped w s a.i c.requires c.told-w, λ t. others_left w s a.i _ t e c.if-left-ne0.true)

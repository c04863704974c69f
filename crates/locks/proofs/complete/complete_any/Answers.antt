-- `complete::complete_any` meets its contract: nothing stands, or what stands is due.
use mathlib.Core.Path.{ap, sym, ◌∙◌}
use native.Mathlib.Omega.{arith}
use Rattle.model.specs.Locks.{completed, Due}
use Rattle.model.specs.Sizes.{before_first}
use Rattle.model.specs.State.{at}
use Rattle.locks.specs.Asking.{met_none}
use Rattle.locks.specs.Complete.{completed_not, due_any_lem, due_any_none, noted_stored}
use Rattle.holding.specs.Outcome.{met_is}
use Rattle.state.specs.View.{locks_of, memory, view}
use Rattle.locks.proofs.complete.complete_any.Goals as goal

pub returns-in_default : goal.returns-in_default
returns-in_default c = let a = c.args in (
  omega arith,
  let s = a.strings.now in
      met_none _ _ _ _ _ _
      (ap (λ (x : Due). completed x (locks_of a.w.now s) a.i before_first)
      (due_any_none (at (locks_of a.w.now s).entries a.i).standing c.standing_at.result 0 (c.standing_at.ensures s) c.in_default.is)
      ∙ completed_not (locks_of a.w.now s) a.i before_first)
      (noted_stored (view (memory a.w.now s)) _ a.i before_first (omega arith) (c.set_order.ensures.0 s)) (c.set_order.ensures.1 s (omega arith)),
)

pub returns : goal.returns
returns c = let a = c.args in (
  omega (arith, c.complete.ensures.0),
  let s = a.strings.now in
      met_is _ _ _ _ _ _ _ _
      (ap (λ (x : Due). completed x (locks_of a.w.now s) a.i before_first)
      (sym (due_any_lem (at (locks_of a.w.now s).entries a.i).standing c.standing_at.result 0 (c.standing_at.ensures s) c.in-Some.release c.in-Some.is)))
      c.complete.ensures.1,
)

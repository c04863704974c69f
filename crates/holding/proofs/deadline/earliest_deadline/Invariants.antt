-- `deadline::earliest_deadline` meets its contract. The invariant: with the earliest so far, those from place j on give the earliest of all.
use mathlib.Core.Path.{◌≡◌}
use mathlib.Core.List.{List}
use Prim.Native.Nat.{ℕ}
use lib.ListN.{drop}
use Rattle.model.specs.Asking.{earliest_of, earliest}
use Rattle.state.specs.View.{locks_of}
use Rattle.holding.proofs.deadline.earliest_deadline.Given as goal

abbrev pub invariant-loop-j : goal.invariant-loop-j
invariant-loop-j l = ((s : List ℕ) → earliest (locks_of l.w s).waiting ≡ earliest_of l.best (drop l.j (locks_of l.w s).waiting))

-- `request::is_idle` meets its contract. The invariant: none among those from place j on is none at all.
use mathlib.Core.Path.{◌≡◌}
use mathlib.Core.List.{List}
use Prim.Native.Nat.{ℕ}
use lib.ListN.{drop}
use Rattle.model.specs.Lists.{all}
use Rattle.model.specs.Locks.{elsewhere}
use Rattle.state.specs.View.{locks_of}
use Rattle.locks.proofs.request.is_idle.Given as goal

abbrev pub invariant-loop-j : goal.invariant-loop-j
invariant-loop-j l = ((s : List ℕ) → all (elsewhere l.i) (locks_of l.w s).waiting ≡ all (elsewhere l.i) (drop l.j (locks_of l.w s).waiting))

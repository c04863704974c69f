-- `info::holder_count` meets its contract. The invariant: those counted and those among the slots still to come are all.
use mathlib.Core.Path.{◌≡◌}
use mathlib.Core.List.{List}
use Prim.Native.Nat.{ℕ, ◌+◌, ◌≤◌}
use lib.ListN.{drop}
use Rattle.model.specs.Acts.{holder}
use Rattle.model.specs.Lists.{tally}
use Rattle.state.specs.View.{locks_of}
use Rattle.holding.proofs.info.holder_count.Given as goal

abbrev pub invariant-loop-k : goal.invariant-loop-k
invariant-loop-k l = (l.n ≤ l.k) × ((s : List ℕ) → tally holder (locks_of l.w s).entries ≡ l.n + tally holder (drop l.k (locks_of l.w s).entries))

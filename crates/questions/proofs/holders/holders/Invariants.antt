-- `holders::holders` meets its contract. The invariant: the panel has the rows of the slots from i on.
use mathlib.Core.Path.{◌≡◌}
use mathlib.Core.List.{List}
use Prim.Native.Nat.{ℕ, ◌≤◌, ◌+◌}
use lib.ListN.{length}
use Rattle.state.specs.View.{locks_of}
use Rattle.questions.specs.Holders.{listed, rows_from}
use Rattle.questions.proofs.holders.holders.Given as goal

abbrev pub invariant-loop-i : goal.invariant-loop-i
invariant-loop-i l = (l.panel.count + l.i ≤ 32) × (length (listed l.panel) ≡ l.panel.count) × ((s : List ℕ) → listed l.panel ≡ rows_from (locks_of l.w s).entries l.i)

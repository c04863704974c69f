-- `listing::line_count` meets its contract. The invariant: the lines so far and those that are left are all.
use mathlib.Core.Path.{◌≡◌}
use Prim.Native.Nat.{◌+◌, ◌-◌, ◌≤◌}
use lib.ListN.{length, drop}
use Rattle.commands.specs.Lists.{lines_of}
use Rattle.commands.proofs.listing.line_count.Given as goal

abbrev pub invariant-loop-at : goal.invariant-loop-at
invariant-loop-at l = (l.n ≤ l.at) × (l.at ≤ length l.text + 1) × (l.n + length (lines_of (drop l.at l.text)) ≡ length (lines_of l.text))

abbrev pub decreases-loop-at : goal.decreases-loop-at
decreases-loop-at l = length l.text + 1 - l.at

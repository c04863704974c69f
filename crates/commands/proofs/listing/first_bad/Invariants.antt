-- `listing::first_bad` meets its contract. The invariant: the patterns that are left, counted on from k, are judged as the whole list is.
use mathlib.Core.Path.{◌≡◌}
use Prim.Native.Nat.{◌+◌, ◌-◌, ◌≤◌}
use lib.ListN.{length, drop}
use Rattle.commands.specs.Lists.{lines_of}
use Rattle.commands.specs.Rulings.{judged_from}
use Rattle.commands.proofs.listing.first_bad.Given as goal

abbrev pub invariant-loop-at : goal.invariant-loop-at
invariant-loop-at l = (l.pattern ≤ l.at) × (l.at ≤ length l.text + 1) × (judged_from l.pattern (lines_of (drop l.at l.text)) ≡ judged_from 0 (lines_of l.text))

abbrev pub decreases-loop-at : goal.decreases-loop-at
decreases-loop-at l = length l.text + 1 - l.at

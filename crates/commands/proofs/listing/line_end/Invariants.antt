-- `listing::line_end` meets its contract. The invariant of both loops: what is left of the line ends where the whole line does.
use Rattle.std.specs.Prelude.{◌≡◌, ◌+◌, ◌-◌, ◌≤◌, length, drop}
use Rattle.commands.specs.Lists.{line_length}
use Rattle.commands.proofs.listing.line_end.Given as goal

abbrev pub invariant-loop-i : goal.invariant-loop-i
invariant-loop-i l = (l.i ≤ length l.s) × (l.i + line_length (drop l.i l.s) ≡ l.at + line_length (drop l.at l.s))

abbrev pub decreases-loop-i : goal.decreases-loop-i
decreases-loop-i l = length l.s - l.i

abbrev pub invariant-loop-k : goal.invariant-loop-k
invariant-loop-k l = l.k + line_length (drop l.k l.s) ≡ l.at + line_length (drop l.at l.s)

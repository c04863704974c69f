-- `allowing::opening_from` meets its contract. The invariant of the three loops: no place that was passed opens a line.
use Rattle.std.specs.Prelude.{◌-◌, ◌≤◌, length}
use Rattle.commands.specs.Refusing.{Shut}
use Rattle.commands.proofs.allowing.opening_from.Given as goal

abbrev pub invariant-loop-i : goal.invariant-loop-i
invariant-loop-i l = (l.at ≤ l.i) × (l.i ≤ length l.text) × Shut l.text l.f l.g l.at l.i

abbrev pub decreases-loop-i : goal.decreases-loop-i
decreases-loop-i l = length l.text - l.i

abbrev pub invariant-loop-i-2 : goal.invariant-loop-i-2
invariant-loop-i-2 l = (l.at ≤ l.i) × (l.i ≤ length l.text) × Shut l.text l.f l.g l.at l.i

abbrev pub decreases-loop-i-2 : goal.decreases-loop-i-2
decreases-loop-i-2 l = length l.text - l.i

abbrev pub invariant-loop-k : goal.invariant-loop-k
invariant-loop-k l = Shut l.text l.f l.g l.at l.k

-- `put_steps` meets its contract: the bytes before i are in place.
use Rattle.std.proofs.Common.{◌≡◌, ◌≤◌, ◌-◌, ◌%◌, length}
use Rattle.moves.specs.Moves.{moved}
use Rattle.moves.proofs.put_steps.Given as goal

abbrev pub invariant-loop-i : goal.invariant-loop-i
invariant-loop-i l = (l.i ≤ length l.src) × (l.i % 16 ≡ 0) × (l.book ≡ moved l.initial.book l.at l.src 0 l.i)

abbrev pub decreases-loop-i : goal.decreases-loop-i
decreases-loop-i l = length l.src - l.i

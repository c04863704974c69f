-- The proof of the cycle of calls {bracket, path}: path reading and bracket reading call each other.
-- A path at n = bytes left + depth left has the measure 2n, and a bracket 2n + 1: behind "[" both have fallen, and a bracket reads its row at the same place and depth.
use Rattle.std.proofs.Common.{◌+◌, ◌-◌, ◌*◌, length}
use Rattle.scpi.proofs.checking.+bracket_path.Given as goal

abbrev pub decreases-bracket : goal.decreases-bracket
decreases-bracket l = 2 * (l.left + (length l.p.now - l.at)) + 1

abbrev pub decreases-path : goal.decreases-path
decreases-path l = 2 * (l.left + (length l.p.now - l.at))

-- The proof of the cycle of calls {match_bracket, match_path}: path reading and bracket reading call each other.
-- A path at n = bytes left + depth left has the measure 2n, and a bracket 2n + 1: behind "[" both have fallen, and a bracket reads its row at the
-- same place and depth. The loop's invariant: what is walked from the item on is walked from the first on.
use Rattle.std.proofs.Common.{◌+◌, ◌-◌, ◌*◌, ◌≤◌, length}
use Rattle.commands.specs.Walks.{Leads}
use Rattle.commands.proofs.matching.+match_bracket_match_path.Given as goal

abbrev pub decreases-match_bracket : goal.decreases-match_bracket
decreases-match_bracket l = 2 * (l.left + (length l.p.now - l.at)) + 1

abbrev pub decreases-match_path : goal.decreases-match_path
decreases-match_path l = 2 * (l.left + (length l.p.now - l.at))

abbrev pub invariant-match_path-loop-w : goal.invariant-match_path-loop-w
invariant-match_path-loop-w l = (l.at ≤ l.w.at) × (l.w.at ≤ length l.p + 1) × Leads (8 - l.left) l.p l.at l.c l.initial.w.on l.w.at l.w.on

abbrev pub decreases-match_path-loop-w : goal.decreases-match_path-loop-w
decreases-match_path-loop-w l = length l.p - l.w.at

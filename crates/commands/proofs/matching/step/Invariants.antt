-- `matching::step` meets its contract. The invariant: what has landed, and what will from the places that are left, is what lands.
use Rattle.scpi.specs.Words.{part}
use Rattle.commands.specs.Landing.{Landing}
use Rattle.commands.specs.Places.{weight}
use Rattle.commands.proofs.matching.step.Given as goal

abbrev pub invariant-loop-i : goal.invariant-loop-i
invariant-loop-i l = Landing (part l.a l.m l.p) (part l.a l.e l.p) l.c l.s l.on l.left

abbrev pub decreases-loop-i : goal.decreases-loop-i
decreases-loop-i l = weight l.left

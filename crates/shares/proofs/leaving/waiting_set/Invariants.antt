-- `leaving::waiting_set` meets its contract. The invariant: the set has the slots of the first j places.
use Rattle.queue.specs.Leaving.{Members}
use Rattle.shares.proofs.leaving.waiting_set.Given as goal

abbrev pub invariant-loop-j : goal.invariant-loop-j
invariant-loop-j l = Members l.w l.j l.stay

-- `same::same_from` meets its contract. The invariant: the mark is 0 as long as the bytes so far are the same.
use Rattle.std.specs.Prelude.{◌≡◌, eqb, drop, take}
use Rattle.model.specs.Lists.{same}
use Rattle.queue.proofs.same.same_from.Given as goal

abbrev pub invariant-loop-k : goal.invariant-loop-k
invariant-loop-k l = same (take l.k (drop l.i l.a)) (take l.k (drop l.i l.b)) ≡ eqb l.d 0

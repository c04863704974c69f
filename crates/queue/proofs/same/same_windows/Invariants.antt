-- `same::same_windows` meets its contract. The invariant: the fronts up to i are the same.
use Rattle.std.specs.Prelude.{◌≡◌, take}
use Rattle.queue.proofs.same.same_windows.Given as goal

abbrev pub invariant-loop-i : goal.invariant-loop-i
invariant-loop-i l = take l.i l.a ≡ take l.i l.b

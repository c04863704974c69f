-- Between two pieces the reading is the definition's for the bytes that were read, and so many pieces are left.
use Rattle.std.proofs.Common.{◌-◌}
use Rattle.state.specs.View.{memory}
use Rattle.verify.specs.Judged.{Going}
use Rattle.verify.proofs.judge.Given as goal

abbrev pub invariant-loop : goal.invariant-loop
invariant-loop g l =
    Going l.r l.buf (memory l.fn.words l.fn.strings) (memory l.words l.strings) (140737488355328 - l.counter)

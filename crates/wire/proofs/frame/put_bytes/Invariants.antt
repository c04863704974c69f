-- `frame::put_bytes` meets its contract. The invariant: `out` is what it was, with the first i bytes of `src` put in at `at`.
use Rattle.std.proofs.Common.{◌≡◌}
use Rattle.std.proofs.Math.Seq.{paste}
use Rattle.wire.proofs.frame.put_bytes.Given as goal

abbrev pub invariant-loop-i : goal.invariant-loop-i
invariant-loop-i l = l.out ≡ paste l.initial.out l.at l.src l.i

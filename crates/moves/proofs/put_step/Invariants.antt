-- `put_step` meets its contract: the bytes before k are read, then those before j are written.
use Rattle.std.proofs.Common.{◌≡◌, ◌+◌, drop}
use Rattle.std.proofs.Math.Seq.{paste}
use Rattle.moves.proofs.put_step.Given as goal

abbrev pub invariant-loop-k : goal.invariant-loop-k
invariant-loop-k g l = l.bytes ≡ paste l.initial.bytes 0 (drop l.i l.src) l.k

abbrev pub invariant-loop-j : goal.invariant-loop-j
invariant-loop-j g l = l.book ≡ paste l.initial.book (l.at + l.i) l.bytes l.j

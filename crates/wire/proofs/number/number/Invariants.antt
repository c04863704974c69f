-- `number::number` meets its contract. The invariant: the first k bytes stand in the eight, the last of all N at their end.
use Rattle.std.proofs.Common.{◌≡◌, ◌-◌, drop}
use Rattle.std.proofs.Math.Seq.{paste}
use Rattle.wire.proofs.number.number.Given as goal

abbrev pub invariant-loop-k : goal.invariant-loop-k
invariant-loop-k g l = l.bytes ≡ paste l.initial.bytes (8 - g.row.N) (drop l.at l.s) l.k

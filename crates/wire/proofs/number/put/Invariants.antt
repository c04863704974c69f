-- `number::put` meets its contract. The invariant: `out` is what it was, with the first i bytes of the number put in at `at`, and the others are left.
use Rattle.std.proofs.Common.{◌≡◌, ◌-◌, drop}
use Rattle.std.proofs.Math.Seq.{paste}
use Rattle.wire.specs.Field.{field, low_first}
use Rattle.wire.proofs.number.put.Given as goal

abbrev pub invariant-loop-i : goal.invariant-loop-i
invariant-loop-i g l = (l.out ≡ paste l.initial.out l.at (field g.row.N l.x) l.i) × (low_first (g.row.N - l.i) l.left ≡ drop l.i (field g.row.N l.x))

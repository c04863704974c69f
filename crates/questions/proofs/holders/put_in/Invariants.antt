-- `holders::put_in` meets its contract. The invariant: the first i rows, and what is carried put into the others, are the whole.
use mathlib.Core.Path.{◌≡◌}
use mathlib.Core.List.{◌++◌}
use Prim.Native.Nat.{◌-◌}
use lib.ListN.{length, take, drop}
use Rattle.model.specs.Holders.{put_by}
use Rattle.questions.specs.Holders.{row_key}
use Rattle.questions.proofs.holders.put_in.Given as goal

abbrev pub invariant-loop-i : goal.invariant-loop-i
invariant-loop-i l = (length l.out ≡ 32) × (take l.i l.out ++ put_by row_key l.carried (take (l.n - l.i) (drop l.i l.out)) ≡ put_by row_key l.initial.carried (take l.n l.initial.out))

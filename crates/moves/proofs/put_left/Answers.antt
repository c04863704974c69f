-- `put_left` meets its contract: nothing of the kind is left, or it is moved.
use Rattle.std.proofs.Common.{length, arith}
use Rattle.moves.specs.Moves.{none_left, some_left, none_more, one_more}
use Rattle.moves.proofs.put_left.Goals as goal

pub returns-then-n : goal.returns-then-n
returns-then-n g c = none_left _ _ _ _ _ (none_more (length c.args.src.now) g.row.N (omega arith) (omega arith))

pub returns : goal.returns
returns g c = some_left _ _ _ _ _ _ _ c.put_step.ensures (one_more (length c.args.src.now) g.row.N (omega arith) (omega arith))

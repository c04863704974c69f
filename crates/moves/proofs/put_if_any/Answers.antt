-- `put_if_any` meets its contract: nothing, or the part.
use Rattle.std.proofs.Common.{rules}
use Rattle.moves.specs.Moves.{empty_moved}
use Rattle.moves.proofs.put_if_any.Goals as goal

pub returns-then-is_empty : goal.returns-then-is_empty
returns-then-is_empty c = empty_moved _ _ _ (search rules)

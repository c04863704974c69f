-- `put_rest` meets its contract: one behind the other.
use Rattle.std.proofs.Common.{rules}
use Rattle.moves.specs.Moves.{lefts_moved}
use Rattle.moves.proofs.put_rest.Goals as goal

pub returns : goal.returns
returns c = lefts_moved _ _ _ (search rules) c.put_left.ensures c.put_left-2.ensures c.put_left-3.ensures c.put_left-4.ensures

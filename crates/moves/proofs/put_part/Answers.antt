-- `put_part` meets its contract: its steps, and what is left behind them.
use Rattle.moves.specs.Moves.{part_moved}
use borrow.Author.Rules.{rules}
use Rattle.moves.proofs.put_part.Goals as goal

pub returns : goal.returns
returns c = part_moved _ _ _ (search rules) c.put_steps.ensures c.put_rest.ensures

-- `matching::union` meets its contract, word by word.
use Rattle.commands.specs.Places.{on_union}
use Rattle.commands.proofs.matching.union.Goals as goal

pub returns : goal.returns
returns c = let a = c.args in on_union a.a.now a.b.now

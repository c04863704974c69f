-- `allowing::opens_here` meets its contract: the tests are those of the definition.
use Rattle.commands.specs.Refusing.{opens}
use Rattle.commands.proofs.allowing.opens_here.Goals as goal

pub returns : goal.returns
unfolding opens
returns c = rw c.is_between.ensures

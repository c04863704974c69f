-- `allowing::begins_here` meets its contract: the tests are those of the definition.
use Rattle.std.specs.Prelude.{refl}
use Rattle.commands.specs.Refusing.{begins}
use Rattle.commands.proofs.allowing.begins_here.Goals as goal

pub returns : goal.returns
unfolding begins
returns c = refl

-- `replay::events::is_no_number` meets its contract.
use mathlib.Core.Path.{refl}
use Rattle.readings.specs.Bits.{not_number}
use Rattle.replay.proofs.events.is_no_number.Goals as goal

pub returns : goal.returns
unfolding not_number
returns c = refl

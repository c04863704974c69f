-- `request::request_code` meets its contract.
use mathlib.Core.Path.{refl}
use mathlib.Core.Logic.{inl, inr}
use Rattle.readings.proofs.request.request_code.Goals as goal

pub returns : goal.returns
returns c = rw (c.with_value-2.ensures, c.with_value.ensures)

pub with_value-requires : goal.with_value-requires
with_value-requires c = inl refl

pub with_value-requires-2 : goal.with_value-requires-2
with_value-requires-2 c = inr refl

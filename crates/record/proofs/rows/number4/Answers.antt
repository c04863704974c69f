-- `rows::number4` meets its contract.
use Rattle.record.proofs.Fronts.{number_missing, number_there}
use Rattle.record.proofs.rows.number4.Goals as goal

pub returns-then-s-lt4 : goal.returns-then-s-lt4
returns-then-s-lt4 c = number_missing 4 _ c.if-s-lt4.true

pub returns : goal.returns
returns c = number_there 4 _ _ c.if-s-lt4.false c.number.ensures.value

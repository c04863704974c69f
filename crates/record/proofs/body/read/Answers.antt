-- `body::read` meets its contract.
use Rattle.record.proofs.Fronts.{missing, decode_empty, decode_first}
use Rattle.record.proofs.body.read.Goals as goal

pub returns-in_err-tag : goal.returns-in_err-tag
returns-in_err-tag c = missing _ c.from_residual.ensures (decode_empty _ c.in_err-tag.ensures.cases)

pub returns : goal.returns
returns c = decode_first _ _ _ _ c.in_ok-tag.ensures.cases.0 c.read_event.ensures

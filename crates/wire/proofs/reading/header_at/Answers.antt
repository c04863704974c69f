-- `reading::header_at` meets its contract: field by field.
use Rattle.wire.specs.Message.{header}
use Rattle.wire.proofs.reading.header_at.Goals as goal

pub returns : goal.returns
unfolding header
returns c = cc

-- `crc::step` meets its contract: the law of one byte by the table.
use Rattle.crc.specs.Looks.{byte_by_row}
use Rattle.crc.proofs.step.Goals as goal

pub returns : goal.returns
returns c = byte_by_row c.args.c c.args.b c.entry.result c.entry.ensures

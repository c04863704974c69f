-- `writer::put_byte` meets its contract: a store is a splice.
use Rattle.std.proofs.Common.{[], rules}
use Rattle.wire.specs.Splice.{stores_splice}
use Rattle.journal.proofs.writer.put_byte.Goals as goal

pub returns : goal.returns
returns c = stores_splice _ _ _ [] (search rules)

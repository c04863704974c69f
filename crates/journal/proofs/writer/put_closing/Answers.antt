-- `writer::put_closing` meets its contract: three writes in a row are one.
use Rattle.std.proofs.Common.{◌∙◌, arith}
use Rattle.journal.specs.Written.{closing_written}
use Rattle.journal.proofs.writer.put_closing.Goals as goal

pub returns : goal.returns
returns c = let a = c.args in
    c.put-3.ensures ∙ rw (c.put-2.ensures, c.put.ensures) (closing_written a.book.now a.at a.last a.count (omega arith))

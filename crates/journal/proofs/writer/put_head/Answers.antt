-- `writer::put_head` meets its contract: three writes in a row are one.
use Rattle.std.proofs.Common.{◌∙◌, arith}
use Rattle.journal.specs.Numbered.{tag_written}
use Rattle.journal.proofs.writer.put_head.Goals as goal

pub returns : goal.returns
returns c = let a = c.args in
    c.put-2.ensures
    ∙ rw (c.put.ensures, c.put_byte.ensures) (tag_written a.book.now a.at a.tag a.x a.y (omega arith))

-- `PartsBody::put` meets its contract: four writes in a row are one.
use Rattle.std.proofs.Common.{◌∙◌, arith}
use Rattle.journal.specs.Written.{parts_written}
use Rattle.journal.proofs.writer.PartsBody.put.Goals as goal

pub returns : goal.returns
returns c = let a = c.args in
    let s = a.self.now in
    c.put_bytes-4.ensures
    ∙ rw (c.put_bytes-3.ensures, c.put_bytes-2.ensures, c.put_bytes.ensures)
    (parts_written s.a.now s.b.now s.c.now s.d.now a.book.now a.at (omega (arith, c.requires)))

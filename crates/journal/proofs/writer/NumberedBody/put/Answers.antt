-- `NumberedBody::put` meets its contract: the head, and the parts behind it.
use Rattle.std.proofs.Common.{arith}
use Rattle.journal.specs.Numbered.{numbered_size, numbered_parts}
use Rattle.journal.proofs.writer.NumberedBody.put.Goals as goal

pub put_head-requires : goal.put_head-requires
put_head-requires c = let s = c.args.self.now in omega (arith, c.requires, numbered_size s.tag s.x s.y s.b.now s.c.now)

pub put_part-requires : goal.put_part-requires
put_part-requires c = let s = c.args.self.now in
    let n = numbered_size s.tag s.x s.y s.b.now s.c.now in
    (omega (arith, c.requires, n), omega (arith, c.requires, n))

pub put_if_any-requires : goal.put_if_any-requires
put_if_any-requires c = let s = c.args.self.now in
    let n = numbered_size s.tag s.x s.y s.b.now s.c.now in
    (omega (arith, c.requires, n), omega (arith, c.requires, n))

pub returns : goal.returns
returns c = let a = c.args in
    let s = a.self.now in
    numbered_parts s.tag s.x s.y s.b.now s.c.now a.book.now a.at (omega (arith, c.requires))
    c.put_head.ensures c.put_part.ensures c.put_if_any.ensures

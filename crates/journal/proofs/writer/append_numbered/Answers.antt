-- `writer::append_numbered` meets its contract.
use Rattle.std.proofs.Common.{arith}
use Rattle.journal.specs.Numbered.{numbered_size}
use Rattle.journal.proofs.writer.append_numbered.Goals as goal

pub write_entry-requires : goal.write_entry-requires
write_entry-requires c = let a = c.args in omega (arith, c.requires, numbered_size a.tag a.x a.y a.b.now a.c.now)

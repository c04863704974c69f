-- `NumberedBody::size` meets its contract.
use Rattle.std.proofs.Common.{sym}
use Rattle.journal.specs.Numbered.{numbered_size}
use Rattle.journal.proofs.writer.NumberedBody.size.Goals as goal

pub returns : goal.returns
returns c = let s = c.args.self.now in sym (numbered_size s.tag s.x s.y s.b.now s.c.now)

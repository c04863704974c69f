-- `crc::crc32` meets its contract: the three parts are the definition.
use Rattle.crc.specs.Crc.{crc_of}
use Rattle.crc.proofs.crc32.Goals as goal

pub returns : goal.returns
unfolding crc_of
returns c = rw (c.finish.ensures, c.feed.ensures, c.start.ensures)

-- `crc::feed` meets its contract. The invariant: what is left, fed to the register as it is, gives what the whole gives.
use Rattle.std.proofs.Common.{◌≡◌, ◌*◌, drop}
use Rattle.crc.specs.Crc.{feed_of}
use Rattle.crc.proofs.feed.Given as goal

abbrev pub invariant-loop-eight : goal.invariant-loop-eight
invariant-loop-eight l = feed_of l.x (drop (l.eight-index * 8) l.bytes) ≡ feed_of l.c l.bytes

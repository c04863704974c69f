-- `crc::feed_ones` meets its contract. The invariant: what is left, fed to the register as it is, gives what the whole gives.
use Rattle.std.proofs.Common.{◌≡◌, ◌≤◌, length, drop}
use Rattle.crc.specs.Crc.{feed_of}
use Rattle.crc.proofs.feed_ones.Given as goal

abbrev pub invariant-loop-i : goal.invariant-loop-i
invariant-loop-i l = (l.i ≤ length l.bytes) × (feed_of l.x (drop l.i l.bytes) ≡ feed_of l.c l.bytes)

-- CRC-32 (02: reflected IEEE, edb88320 hex) from the steps of its polynomial, bit by bit. With crc_table/specs/Polynomial.antt, whose names are
-- passed on here, this is all that a reader has to believe. Assumes nothing.
use Rattle.std.specs.Prelude.{List, [], ◌∷◌, ℕ}
use Rattle.std.specs.Int.Bits.{bit_xor}
pub use Rattle.crc_table.specs.Polynomial.{polynomial}
unfoldable pub use Rattle.crc_table.specs.Polynomial.{bit_step, steps, tabulate, crc_table}

-- a byte comes in at the low end, and eight bits go out
unfoldable pub byte_step : ℕ → ℕ → ℕ
byte_step c b = steps 8 (bit_xor c b)

-- the register after some bytes
unfoldable pub feed_of : ℕ → List ℕ → ℕ
feed_of c [] = c
feed_of c (b ∷ bs) = feed_of (byte_step c b) bs

-- the register begins with every bit set, and at the end every bit is turned
abbrev pub first_register : ℕ
first_register = 0xffffffff

abbrev pub finish_of : ℕ → ℕ
finish_of c = bit_xor c 0xffffffff

unfoldable pub crc_of : List ℕ → ℕ
crc_of bs = finish_of (feed_of first_register bs)

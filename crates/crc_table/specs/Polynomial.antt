-- The polynomial of CRC-32 (02: reflected IEEE, edb88320 hex), what it makes of the register bit by bit, and 02's table. With crc/specs/Crc.antt
-- this is all that a reader has to believe. Assumes nothing.
use Rattle.std.specs.Prelude.{cond, List, [], ◌∷◌, ℕ, zero, suc, ◌/◌, ◌%◌, eqb}
use Rattle.std.specs.Int.Bits.{bit_xor}

-- the polynomial without its highest term, the lowest power in the highest bit
abbrev pub polynomial : ℕ
polynomial = 0xedb88320

-- one bit goes out of the register at the low end: where it is 1, the polynomial is taken away
unfoldable pub bit_step : ℕ → ℕ
bit_step c = cond (eqb (c % 2) 1) (bit_xor (c / 2) polynomial) (c / 2)

unfoldable pub steps : ℕ → ℕ → ℕ
steps zero c = c
steps (suc n) c = steps n (bit_step c)

-- the values of a rule from a number on, so many
unfoldable pub tabulate : (ℕ → ℕ) → ℕ → ℕ → List ℕ
tabulate f i zero = []
tabulate f i (suc n) = f i ∷ tabulate f (suc i) n

-- the 256-entry table: for each byte, what eight steps make of it
unfoldable pub crc_table : List ℕ
crc_table = tabulate (steps 8) 0 256

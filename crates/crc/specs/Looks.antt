-- What look-ups in the table come to: eight of them are eight bytes, one is a byte. Assumes nothing.
use Rattle.std.specs.Prelude.{◌≡◌, refl}
use Rattle.std.proofs.Common.{sym, ◌∙◌, arith, lit<}
use Rattle.std.proofs.Math.Path.{ap}
use mathlib.Core.List.{List, [], ◌∷◌}
use Prim.Native.Nat.{ℕ, zero, suc, ◌+◌, ◌*◌, ◌/◌, ◌%◌, ◌^◌, ◌<◌, min}
use Rattle.std.specs.Int.Bits.{bit_xor, xor_zero_r}
use Rattle.std.proofs.lemmas.Nat.{xor_lt}
use Rattle.std.proofs.Math.ListN.{get_or}
use Rattle.crc_table.specs.Table.{rows_table, table_rule, look, at_row}
use Rattle.crc.specs.Crc.{steps, byte_step, crc_table}
use Rattle.crc.specs.Steps.{peel, eight_bytes, byte_step_lem}
use Rattle.crc.specs.Xor.{xor_assoc}

-- the low bytes of some numbers looked up: the first in row k - 1, the next in the row below it, down to row 0
unfoldable pub looks_of : ℕ → List ℕ → ℕ
looks_of zero l = 0
looks_of (suc k) [] = 0
looks_of (suc k) (x ∷ l) = bit_xor (steps (8 * (k + 1)) (x % 256)) (looks_of k l)

-- an entry of the table, by its row
pub entry_is : (k x e : ℕ) → k < 8 → e ≡ get_or rows_table (256 * min k 7 + x % 256) 0 → e ≡ steps (8 * (k + 1)) (x % 256)
entry_is k x e h g = g ∙ ap (λ (j : ℕ). get_or rows_table (256 * j + x % 256) 0) (at_row k k h refl) ∙ look k (x % 256) h (omega arith)

-- numbers taken together from the left, as code does it, and from the right
abbrev from_left : ℕ → List ℕ → ℕ
from_left y [] = y
from_left y (x ∷ l) = from_left (bit_xor y x) l

abbrev from_right : List ℕ → ℕ
from_right [] = 0
from_right (x ∷ l) = bit_xor x (from_right l)

left_right : (y : ℕ) (l : List ℕ) → from_left y l ≡ bit_xor y (from_right l)
left_right y [] = sym (xor_zero_r y)
left_right y (x ∷ l) = left_right (bit_xor y x) l ∙ xor_assoc y x (from_right l)

-- eight look-ups, each in its row
module _ (x0 x1 x2 x3 x4 x5 x6 x7 y0 y1 y2 y3 y4 y5 y6 y7 : ℕ) where
  pub looked_up : y0 ≡ get_or rows_table (256 * min 7 7 + x0 % 256) 0 → y1 ≡ get_or rows_table (256 * min 6 7 + x1 % 256) 0
      → y2 ≡ get_or rows_table (256 * min 5 7 + x2 % 256) 0 → y3 ≡ get_or rows_table (256 * min 4 7 + x3 % 256) 0
      → y4 ≡ get_or rows_table (256 * min 3 7 + x4 % 256) 0 → y5 ≡ get_or rows_table (256 * min 2 7 + x5 % 256) 0
      → y6 ≡ get_or rows_table (256 * min 1 7 + x6 % 256) 0 → y7 ≡ get_or rows_table (256 * min 0 7 + x7 % 256) 0
      → bit_xor (bit_xor (bit_xor (bit_xor (bit_xor (bit_xor (bit_xor y0 y1) y2) y3) y4) y5) y6) y7 ≡ looks_of 8 (x0 ∷ x1 ∷ x2 ∷ x3 ∷ x4 ∷ x5 ∷ x6 ∷ x7 ∷ [])
  unfolding looks_of
  looked_up e0 e1 e2 e3 e4 e5 e6 e7 =
      let f0 : y0 ≡ steps 64 (x0 % 256) = entry_is 7 x0 y0 (lit< tt) e0 in
      let f1 : y1 ≡ steps 56 (x1 % 256) = entry_is 6 x1 y1 (lit< tt) e1 in
      let f2 : y2 ≡ steps 48 (x2 % 256) = entry_is 5 x2 y2 (lit< tt) e2 in
      let f3 : y3 ≡ steps 40 (x3 % 256) = entry_is 4 x3 y3 (lit< tt) e3 in
      let f4 : y4 ≡ steps 32 (x4 % 256) = entry_is 3 x4 y4 (lit< tt) e4 in
      let f5 : y5 ≡ steps 24 (x5 % 256) = entry_is 2 x5 y5 (lit< tt) e5 in
      let f6 : y6 ≡ steps 16 (x6 % 256) = entry_is 1 x6 y6 (lit< tt) e6 in
      let f7 : y7 ≡ steps 8 (x7 % 256) = entry_is 0 x7 y7 (lit< tt) e7 in
      left_right y0 (y1 ∷ y2 ∷ y3 ∷ y4 ∷ y5 ∷ y6 ∷ y7 ∷ [])
      ∙ (λ i. bit_xor (f0 i) (from_right (f1 i ∷ f2 i ∷ f3 i ∷ f4 i ∷ f5 i ∷ f6 i ∷ f7 i ∷ [])))

-- a register's four bytes go their own ways
peel4 : (n x : ℕ) → x < 2 ^ 32
    → steps (8 + (8 + (8 + n))) x
    ≡ bit_xor (steps (8 + (8 + (8 + n))) (x % 256)) (bit_xor (steps (8 + (8 + n)) (x / 256 % 256)) (bit_xor (steps (8 + n) (x / 65536 % 256)) (steps n (x / 16777216 % 256))))
peel4 n x h =
    let d1 : x / 256 / 256 ≡ x / 65536 = omega arith in
    let d2 : x / 65536 / 256 ≡ x / 16777216 % 256 = omega arith in
    peel (8 + (8 + n)) x
    ∙ ap (bit_xor (steps (8 + (8 + (8 + n))) (x % 256)))
    (peel (8 + n) (x / 256)
    ∙ ap (bit_xor (steps (8 + (8 + n)) (x / 256 % 256)))
    (ap (steps (8 + n)) d1 ∙ peel n (x / 65536) ∙ ap (λ (y : ℕ). bit_xor (steps (8 + n) (x / 65536 % 256)) (steps n y)) d2))

assoc4 : (a b c d z : ℕ) → bit_xor (bit_xor a (bit_xor b (bit_xor c d))) z ≡ bit_xor a (bit_xor b (bit_xor c (bit_xor d z)))
assoc4 a b c d z = xor_assoc a (bit_xor b (bit_xor c d)) z ∙ ap (bit_xor a) (xor_assoc b (bit_xor c d) z ∙ ap (bit_xor b) (xor_assoc c d z))

-- a number's bytes in rows 7 to 4, four bytes in rows 3 to 0
eight_looks : (x b4 b5 b6 b7 : ℕ) → x < 2 ^ 32 → b4 < 256 → b5 < 256 → b6 < 256 → b7 < 256
    → looks_of 8 (x ∷ x / 256 ∷ x / 65536 ∷ x / 16777216 ∷ b4 ∷ b5 ∷ b6 ∷ b7 ∷ []) ≡ bit_xor (steps 64 x) (steps 32 (b7 * 16777216 + (b6 * 65536 + (b5 * 256 + b4))))
unfolding looks_of
eight_looks x b4 b5 b6 b7 h h4 h5 h6 h7 =
    let w : ℕ = b7 * 16777216 + (b6 * 65536 + (b5 * 256 + b4)) in
    let e4 : (b7 * 16777216 + (b6 * 65536 + (b5 * 256 + b4))) % 256 ≡ b4 % 256 = omega arith in
    let d5 : (b7 * 16777216 + (b6 * 65536 + (b5 * 256 + b4))) / 256 ≡ b7 * 65536 + (b6 * 256 + b5) = omega arith in
    let d6 : (b7 * 16777216 + (b6 * 65536 + (b5 * 256 + b4))) / 65536 ≡ b7 * 256 + b6 = omega arith in
    let d7 : (b7 * 16777216 + (b6 * 65536 + (b5 * 256 + b4))) / 16777216 ≡ b7 = omega arith in
    let e5 : (b7 * 65536 + (b6 * 256 + b5)) % 256 ≡ b5 % 256 = omega arith in
    let e6 : (b7 * 256 + b6) % 256 ≡ b6 % 256 = omega arith in
    let l : b7 * 16777216 + (b6 * 65536 + (b5 * 256 + b4)) < 2 ^ 32 = omega arith in
    let p : steps 32 w ≡ bit_xor (steps 32 (b4 % 256)) (bit_xor (steps 24 (b5 % 256)) (bit_xor (steps 16 (b6 % 256)) (bit_xor (steps 8 (b7 % 256)) 0))) =
    peel4 8 w l
    ∙ (λ i. bit_xor (steps 32 (e4 i)) (bit_xor (steps 24 (d5 i % 256)) (bit_xor (steps 16 (d6 i % 256)) (steps 8 (d7 i % 256)))))
    ∙ (λ i. bit_xor (steps 32 (b4 % 256)) (bit_xor (steps 24 (e5 i)) (bit_xor (steps 16 (e6 i)) (sym (xor_zero_r (steps 8 (b7 % 256))) i)))) in
    sym
    ((λ i. bit_xor (peel4 40 x h i) (p i))
    ∙ assoc4 (steps 64 (x % 256)) (steps 56 (x / 256 % 256)) (steps 48 (x / 65536 % 256)) (steps 40 (x / 16777216 % 256))
    (bit_xor (steps 32 (b4 % 256)) (bit_xor (steps 24 (b5 % 256)) (bit_xor (steps 16 (b6 % 256)) (bit_xor (steps 8 (b7 % 256)) 0)))))

-- eight bytes, as the code has them
module _ (c b0 b1 b2 b3 b4 b5 b6 b7 w r : ℕ) (h : c < 2 ^ 32)
    (h0 : b0 < 256) (h1 : b1 < 256) (h2 : b2 < 256) (h3 : b3 < 256) (h4 : b4 < 256) (h5 : b5 < 256) (h6 : b6 < 256) (h7 : b7 < 256)
    (q : w ≡ b3 * 16777216 + (b2 * 65536 + (b1 * 256 + b0))) where
  pub eight_by_table : r ≡ looks_of 8 (bit_xor c w ∷ bit_xor c w / 256 ∷ bit_xor c w / 65536 ∷ bit_xor c w / 16777216 ∷ b4 ∷ b5 ∷ b6 ∷ b7 ∷ [])
      → r ≡ byte_step (byte_step (byte_step (byte_step (byte_step (byte_step (byte_step (byte_step c b0) b1) b2) b3) b4) b5) b6) b7
  eight_by_table e =
      let l : w < 2 ^ 32 = omega arith in
      e
      ∙ eight_looks (bit_xor c w) b4 b5 b6 b7 (xor_lt 32 c w h l) h4 h5 h6 h7
      ∙ ap (λ (z : ℕ). bit_xor (steps 64 (bit_xor c z)) (steps 32 (b7 * 16777216 + (b6 * 65536 + (b5 * 256 + b4))))) q
      ∙ sym (eight_bytes c b0 b1 b2 b3 b4 b5 b6 b7 h0 h1 h2 h4 h5 h6)

-- one byte, by its entry in the table of 256
pub byte_by_table : (c b y : ℕ) → y ≡ get_or crc_table (bit_xor c b % 256) 0 → bit_xor y (bit_xor c b / 256) ≡ byte_step c b
byte_by_table c b y e = ap (λ (z : ℕ). bit_xor z (bit_xor c b / 256)) (e ∙ table_rule (bit_xor c b % 256) (omega arith)) ∙ sym (byte_step_lem c b)

-- the same by its entry in the first of the rows, as the code has it
pub byte_by_row : (c b y : ℕ) → y ≡ get_or rows_table (256 * min 0 7 + bit_xor c b % 256) 0 → bit_xor y (bit_xor c b / 256) ≡ byte_step c b
byte_by_row c b y e = ap (λ (z : ℕ). bit_xor z (bit_xor c b / 256)) (entry_is 0 (bit_xor c b) y (lit< tt) e) ∙ sym (byte_step_lem c b)

-- The look-up table: its rule, proved over the whole table. Assumes nothing.
use Rattle.std.specs.Prelude.{◌≡◌, refl, List, ℕ, zero, suc, ◌+◌, ◌*◌, ◌/◌, ◌%◌, ◌<◌, min, get_or, take}
use Rattle.std.proofs.Common.{ap, ap₂, ◌∙◌, add-zero, arith}
use Rattle.crc_table.specs.Polynomial.{bit_step, steps, tabulate, crc_table}

-- the rule at each entry of a table
pub tabulate_at : (f : ℕ → ℕ) (i n k : ℕ) → k < n → get_or (tabulate f i n) k 0 ≡ f (i + k)
unfolding tabulate
tabulate_at f i zero k h = absurd (omega arith)
tabulate_at f i (suc n) zero h = rw add-zero
tabulate_at f i (suc n) (suc k) h = let e : suc i + k ≡ i + suc k = omega arith in tabulate_at f (suc i) n k (omega arith) ∙ ap f e

-- The rule of the 256-entry table, over the whole table.
pub table_rule : (k : ℕ) → k < 256 → get_or crc_table k 0 ≡ steps 8 k
unfolding crc_table
table_rule k h = let e : 0 + k ≡ k = omega arith in tabulate_at (steps 8) 0 256 k h ∙ ap (steps 8) e

-- The code's table has eight rows of 256: row j has 8 * (j + 1) steps of each byte.
abbrev pub row_rule : ℕ → ℕ
row_rule i = steps (8 * (i / 256 + 1)) (i % 256)

unfoldable pub rows_table : List ℕ
rows_table = tabulate row_rule 0 2048

pub rows_rule : (i : ℕ) → i < 2048 → get_or rows_table i 0 ≡ row_rule i
unfolding rows_table
rows_rule i h = let e : 0 + i ≡ i = omega arith in tabulate_at row_rule 0 2048 i h ∙ ap row_rule e

-- its first row is the 256-entry table
pub first_row : take 256 rows_table ≡ crc_table
unfolding rows_table crc_table tabulate steps bit_step
first_row = refl

-- a look-up in row j
pub look : (j r : ℕ) → j < 8 → r < 256 → get_or rows_table (256 * j + r) 0 ≡ steps (8 * (j + 1)) r
look j r h l =
    let d : (256 * j + r) / 256 ≡ j = omega arith in
    let m : (256 * j + r) % 256 ≡ r = omega arith in
    rows_rule (256 * j + r) (omega arith) ∙ ap₂ (λ (a b : ℕ). steps (8 * (a + 1)) b) d m

-- a row that is named
pub at_row : (j k : ℕ) → j < 8 → k ≡ j → min k 7 ≡ j
at_row j k h e = omega arith

-- `entry` meets its contract: the code's table is computed entry by entry, and is the rule's.
use Rattle.std.proofs.Common.{◌≡◌, ◌+◌, ◌*◌, ◌%◌, List, ℕ, get_or, min, refl, ap, arith, ◌∙◌}
use Rattle.crc_table.specs.Polynomial.{tabulate, steps, bit_step}
use Rattle.crc_table.specs.Table.{rows_table}
use Rattle.crc_table.specs.declared.TheConstants.{ROWS}
use Rattle.crc_table.proofs.entry.Goals as goal

rows_are : ROWS ≡ rows_table
unfolding rows_table tabulate steps bit_step
rows_are = refl

pub returns : goal.returns
returns c = let a = c.args in
    let e : c.min-row.result ≡ min a.k 7 = omega arith in
    ap (λ (l : List ℕ). get_or l (256 * c.min-row.result + a.x % 256) 0) rows_are
    ∙ ap (λ (r : ℕ). get_or rows_table (256 * r + a.x % 256) 0) e

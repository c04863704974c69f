-- `crc::step8` meets its contract: the law of eight bytes by the table.
use Rattle.std.proofs.Common.{◌≡◌, ◌+◌, ◌*◌, ◌<◌, ◌/◌, ℕ, slice_index, ◌∙◌, arith, rules}
use Rattle.std.specs.Int.Bits.{bit_xor}
use Rattle.crc.specs.Feed.{eight_fed}
use Rattle.crc.specs.Looks.{looked_up, eight_by_table}
use Rattle.crc.proofs.step8.Goals as goal

pub returns : goal.returns
returns c = let a = c.args in
    let b = λ (i : ℕ). slice_index a.b.now i in
    let w = c.from_le_bytes.result in
    let x = bit_xor a.c w in
    let q : w ≡ b 3 * 16777216 + (b 2 * 65536 + (b 1 * 256 + b 0)) = omega (arith, c.from_le_bytes.ensures) in
    let l : (i : ℕ) → slice_index a.b.now i < 256 = λ i. search rules in
    eight_by_table a.c (b 0) (b 1) (b 2) (b 3) (b 4) (b 5) (b 6) (b 7) w _ (search rules) (l 0) (l 1) (l 2) (l 3) (l 4) (l 5) (l 6) (l 7) q
    (looked_up x (x / 256) (x / 65536) (x / 16777216) (b 4) (b 5) (b 6) (b 7)
    c.entry.result c.entry-2.result c.entry-3.result c.entry-4.result c.entry-5.result c.entry-6.result c.entry-7.result c.entry-8.result
    c.entry.ensures c.entry-2.ensures c.entry-3.ensures c.entry-4.ensures c.entry-5.ensures c.entry-6.ensures c.entry-7.ensures c.entry-8.ensures)
    ∙ eight_fed a.c a.b.now (search rules)

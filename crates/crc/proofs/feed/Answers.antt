-- `crc::feed` meets its contract. The invariant: what is left, fed to the register as it is, gives what the whole gives.
use Rattle.std.proofs.Common.{◌/◌, List, ℕ, [], length, slice_index_or, ap, ◌∙◌, arith}
use Rattle.crc.specs.Feed.{feed_more}
use Rattle.crc.proofs.feed.Goals as goal

pub loop-eight-preserved : goal.loop-eight-preserved
loop-eight-preserved c = let a = c.args in
    let l = c.loop-eight in
    let e = ap (λ (xs : List (List ℕ)). slice_index_or xs l.eight-index []) c.as_chunks.ensures.front in
    rw c.step8-x.ensures (feed_more l.x a.bytes.now (length a.bytes.now / 8) l.eight-index _ (omega (arith, c.as_chunks.ensures.front_len)) e) ∙ l.invariant

-- Laws of what specs/Example.antt defines. Assumes nothing.
use Rattle.std.specs.Prelude.{◌≡◌, [], ◌∷◌, ◌++◌, refl}
use Rattle.wire.specs.Field.{field}
use Rattle.crc.specs.Crc.{bit_step, steps, byte_step, feed_of, crc_of}
use Rattle.journal.specs.Journal.{entry, entries, closing, last_from, closed_journal}

-- the bodies "abc" and none
pub two_entries :
    closed_journal ((97 ∷ 98 ∷ 99 ∷ []) ∷ [] ∷ [])
    ≡ (0 ∷ 0 ∷ 0 ∷ 3 ∷ 97 ∷ 98 ∷ 99 ∷ 0 ∷ 0 ∷ 0 ∷ 7 ∷ 69 ∷ 188 ∷ 232 ∷ 64 ∷ [])
    ++ (0 ∷ 0 ∷ 0 ∷ 0 ∷ 0 ∷ 0 ∷ 0 ∷ 4 ∷ 33 ∷ 68 ∷ 223 ∷ 28 ∷ [])
    ++ (66 ∷ 65 ∷ 67 ∷ 75 ∷ 0 ∷ 0 ∷ 0 ∷ 15 ∷ 0 ∷ 0 ∷ 0 ∷ 2 ∷ [])
unfolding closed_journal entries entry closing last_from field crc_of feed_of byte_step steps bit_step
two_entries = refl

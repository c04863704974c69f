-- Two small journals byte for byte, computed from the definitions; docs/JOURNAL.md shows them. Assumes nothing.
use Rattle.std.specs.Prelude.{◌≡◌, [], ◌∷◌, refl}
use Rattle.wire.specs.Field.{field}
use Rattle.journal.specs.Journal.{entries, closing, last_from, closed_journal}

-- no entries: "BACK", 0 and 0
pub empty : closed_journal [] ≡ 66 ∷ 65 ∷ 67 ∷ 75 ∷ 0 ∷ 0 ∷ 0 ∷ 0 ∷ 0 ∷ 0 ∷ 0 ∷ 0 ∷ []
unfolding closed_journal entries closing last_from field
empty = refl

-- If writing stops after any byte: the forward reader, given just the bytes written, finds exactly the entries written whole. The writer
-- writes each byte behind the last, so the bytes written are the first so many of the closed journal. Assumes nothing.
use Rattle.std.specs.Prelude.{◌≡◌, ℕ, ◌-◌, false, List, [], ◌∷◌, length, take, nat_le}
use Rattle.journal.specs.Journal.{choose, entry, whole}

-- the entries that end within the first k bytes
unfoldable pub within : ℕ → List (List ℕ) → List (List ℕ)
within k [] = []
within k (b ∷ bs) = choose (nat_le (length (entry b)) k) (b ∷ within (k - length (entry b)) bs) []

-- entries and then x, of which no part is a whole entry
module _ (x : List ℕ) (never : (k : ℕ) → whole (take k x) ≡ false) where
  -- what stands behind these entries in the first k bytes
  unfoldable pub remnant : ℕ → List (List ℕ) → List ℕ
  remnant k [] = take k x
  remnant k (b ∷ bs) = choose (nat_le (length (entry b)) k) (remnant (k - length (entry b)) bs) (take k (entry b))

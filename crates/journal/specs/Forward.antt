-- The forward reader finds exactly the entries that were written whole, and ends at the first place that is none. Assumes nothing.
use Rattle.std.specs.Prelude.{◌≡◌, ℕ, zero, suc, ◌+◌, ◌≤◌, false, List, [], ◌∷◌, ◌++◌, length, drop, refl}
use Rattle.std.proofs.Common.{arith, length-append}
use Rattle.journal.specs.Journal.{choose, entries, AllFine, length_of, body_of, whole, forward_on}
use Rattle.journal.specs.Bytes.{no_is}
use Rattle.journal.specs.Entry.{length_entry}

-- where bytes begin with no whole entry, the reader has ended
pub forward_ends : (k : ℕ) (s : List ℕ) → whole s ≡ false → forward_on k s ≡ []
unfolding forward_on
forward_ends zero s e = refl
forward_ends (suc k) s e = no_is (body_of s ∷ forward_on k (drop (length_of s + 12) s)) [] e

pub count_entries : (bs : List (List ℕ)) → length bs + length bs ≤ length (entries bs)
unfolding entries
count_entries [] = omega arith
count_entries (b ∷ bs) = simp length-append (omega (arith, length_entry b, count_entries bs))

-- the bytes behind the last entry that the reader finds
unfoldable pub rest_on : ℕ → List ℕ → List ℕ
rest_on zero s = s
rest_on (suc k) s = choose (whole s) (rest_on k (drop (length_of s + 12) s)) s

-- bytes are entries, and then no whole entry
pub record Read (s : List ℕ) (bs : List (List ℕ)) (rest : List ℕ) : Type 0 where
  pub all : entries bs ++ rest ≡ s
  pub none : whole rest ≡ false
  pub fine : AllFine bs

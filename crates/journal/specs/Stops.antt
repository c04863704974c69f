-- What the backward reader finds in any bytes: entries, one before the other from the end on, and what stands before them does not
-- end with a whole entry. Assumes nothing.
use Rattle.std.specs.Prelude.{◌≡◌, ℕ, zero, suc, ◌+◌, ◌≤◌, true, false, List, [], ◌++◌, reverse, length, take, drop}
use Rattle.journal.specs.Journal.{choose, entries, AllFine, length_of, whole, distance_of, start_of, ends, closed, backward}
use Rattle.journal.specs.Bytes.{no_is}

-- the tests that bytes passed which end with a whole entry
pub record Ended (s : List ℕ) : Type 0 where
  pub far : distance_of s + 8 ≤ length s
  pub last : whole (drop (start_of s) s) ≡ true
  pub same : length_of (drop (start_of s) s) + 4 ≡ distance_of s

-- the bytes before the first entry that the reader finds
unfoldable pub rest_back : ℕ → List ℕ → List ℕ
rest_back zero s = s
rest_back (suc k) s = choose (ends s) (rest_back k (take (start_of s) s)) s

pub record ReadBack (s : List ℕ) (bs : List (List ℕ)) (rest : List ℕ) : Type 0 where
  pub all : rest ++ entries (reverse bs) ≡ s
  pub none : ends rest ≡ false
  pub fine : AllFine bs

-- The backward reader finds none unless "BACK" begins the last twelve bytes.
pub backward_none : (s : List ℕ) → closed s ≡ false → backward s ≡ []
unfolding backward
backward_none s e = no_is _ [] e

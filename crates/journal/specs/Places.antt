-- The readers, a place at a time: what the code answers. Assumes nothing.
use Rattle.std.specs.Prelude.{ℕ, ◌+◌, ◌-◌, List, length, take, drop, nat_le, Option, Some, None}
use Rattle.journal.specs.Journal.{choose, length_of, whole, start_of, ends, closed, used}
use Rattle.journal.specs.declared.EntryAt.{EntryAt}
use Rattle.journal.specs.declared.Found.{Found}

abbrev pub none : Found
none = record { found = 0; body = 0; len = 0; next = 0 }

-- an entry, or none, as the C interface has it
abbrev pub found_of : Option EntryAt → Found
found_of (Some e) = record { found = 1; body = e.body; len = e.len; next = e.next }
found_of None = none

-- the entry that begins at a place
unfoldable pub forward_at : List ℕ → ℕ → Found
forward_at book place =
    choose (whole (drop place (used book)))
    (record {
      found = 1;
      body = place + 4;
      len = length_of (drop place (used book));
      next = place + length_of (drop place (used book)) + 12;
    })
    none

-- the entry that bytes end with
unfoldable pub ending_of : List ℕ → Found
ending_of s =
    choose (ends s)
    (record { found = 1; body = start_of s + 4; len = length_of (drop (start_of s) s); next = start_of s })
    none

-- the entry that ends at a place, in a book whose last twelve bytes begin with "BACK"
unfoldable pub backward_at : List ℕ → ℕ → Found
backward_at book place =
    choose (closed (used book))
    (choose (nat_le place (length (used book) - 12)) (ending_of (take place (used book))) none)
    none

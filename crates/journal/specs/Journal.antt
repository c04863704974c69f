-- The journal (02: day book) as bytes, and its two readers. A body is any bytes here: its layout is another matter. Assumes nothing.
use Rattle.std.specs.Prelude.{ℕ, zero, suc, ◌+◌, ◌-◌, ◌^◌, ◌≤◌, min, Bool, true, false, ◌&&◌, List, [], ◌∷◌, ◌++◌, length, take, drop, ◌==◌, nat_le}
use Rattle.wire.specs.Field.{field, number, number_at, Bytes}
use Rattle.crc.specs.Crc.{crc_of}
pub use Rattle.moves.specs.Body.{body_limit}

-- a choice by a test; shut, so that a row of choices is taken one at a time
unfoldable pub choose : {A : Type 0} → Bool → A → A → A
choose true a b = a
choose false a b = b

-- length and body: what the sum is over. All numbers are big endian
abbrev pub headed : List ℕ → List ℕ
headed body = field 4 (length body) ++ body

-- 02: an entry is a 4-byte body length, the body, 4 bytes of distance to the entry's start (body length plus 4), 4 of CRC-32 over
-- length and body
unfoldable pub entry : List ℕ → List ℕ
entry body = headed body ++ field 4 (length body + 4) ++ field 4 (crc_of (headed body))

-- entries one after the other
unfoldable pub entries : List (List ℕ) → List ℕ
entries [] = []
entries (b ∷ bs) = entry b ++ entries bs

-- "BACK"
abbrev pub mark : List ℕ
mark = 66 ∷ 65 ∷ 67 ∷ 75 ∷ []

-- 02: a closed book ends with "BACK", the offset of its last entry and the number of entries
unfoldable pub closing : ℕ → ℕ → List ℕ
closing last count = mark ++ field 4 last ++ field 4 count

-- where the last entry begins, the first one beginning at a place; `last` where there is none
unfoldable pub last_from : ℕ → ℕ → List (List ℕ) → ℕ
last_from place last [] = last
last_from place last (b ∷ bs) = last_from (place + length (entry b)) place bs

-- of an empty journal: 0
abbrev pub last_offset : List (List ℕ) → ℕ
last_offset bs = last_from 0 0 bs

-- the whole of a closed journal
unfoldable pub closed_journal : List (List ℕ) → List ℕ
closed_journal bs = entries bs ++ closing (last_offset bs) (length bs)

-- what may be kept: bodies of bytes, within the limit
pub record Fine (body : List ℕ) : Type 0 where
  pub bytes : Bytes body
  pub within : length body ≤ body_limit

unfoldable pub AllFine : List (List ℕ) → Type 0
AllFine [] = Unit {0}
AllFine (b ∷ bs) = Fine b × AllFine bs

-- the body length that bytes begin with, and the body behind it
unfoldable pub length_of : List ℕ → ℕ
length_of s = number_at s 0 4

abbrev pub body_of : List ℕ → List ℕ
body_of s = take (length_of s) (drop 4 s)

-- do bytes begin with a whole entry, with right distance and sum?
unfoldable pub whole : List ℕ → Bool
whole s =
    nat_le (length_of s + 12) (length s)
    && nat_le (length_of s) body_limit
    && number_at s (length_of s + 4) 4 == length_of s + 4
    && number_at s (length_of s + 8) 4 == crc_of (take (length_of s + 4) s)

-- The forward reader: the bodies of the entries from the start on. It ends at the first place that is no whole entry with right
-- distance and sum. An entry has more than one byte, so as many turns as bytes are enough.
unfoldable pub forward_on : ℕ → List ℕ → List (List ℕ)
forward_on zero s = []
forward_on (suc k) s = choose (whole s) (body_of s ∷ forward_on k (drop (length_of s + 12) s)) []

abbrev pub forward : List ℕ → List (List ℕ)
forward s = forward_on (length s) s

-- the distance that stands before the last four bytes, and the place that it points back to
unfoldable pub distance_of : List ℕ → ℕ
distance_of s = number_at s (length s - 8) 4

abbrev pub start_of : List ℕ → ℕ
start_of s = length s - 8 - distance_of s

-- do bytes end with a whole entry, with right distance and sum?
unfoldable pub ends : List ℕ → Bool
ends s =
    nat_le (distance_of s + 8) (length s)
    && whole (drop (start_of s) s)
    && length_of (drop (start_of s) s) + 4 == distance_of s

unfoldable pub backward_on : ℕ → List ℕ → List (List ℕ)
backward_on zero s = []
backward_on (suc k) s = choose (ends s) (body_of (drop (start_of s) s) ∷ backward_on k (take (start_of s) s)) []

-- do the last twelve bytes begin with "BACK"?
unfoldable pub closed : List ℕ → Bool
closed s = nat_le 12 (length s) && number_at s (length s - 12) 4 == number mark

-- The backward reader, from before the last twelve bytes on: none unless "BACK" begins these. It ends at the first place that no
-- whole entry with right distance and sum ends at.
unfoldable pub backward : List ℕ → List (List ℕ)
backward s = choose (closed s) (backward_on (length s) (take (length s - 12) s)) []

-- 02: bytes past 2^31 are never used
abbrev pub reach : ℕ
reach = 2 ^ 31

unfoldable pub used : List ℕ → List ℕ
used s = take (min (length s) reach) s

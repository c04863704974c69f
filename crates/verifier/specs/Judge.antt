-- The verifier (02: judge): the verdict over a whole closed book. The server is any machine that answers an event by refusing it or by
-- frames and its next state. Assumes nothing.
use Rattle.std.specs.Prelude.{Bool, ◌&&◌, List, ℕ, zero, suc, ◌+◌, eqb, leb, length, take, drop}
use Rattle.wire.specs.Field.{number, number_at}
pub use Rattle.wire.specs.Same.{same}
use Rattle.crc.specs.Crc.{crc_of}
use Rattle.journal.specs.Journal.{choose, body_limit, mark, length_of, body_of}
use Rattle.record.specs.Layout.{Event, Read, found, none, decode}

-- the kinds of fault, in their order
pub data Fault : Type 0 where
  in_length in_distance in_sum in_layout in_parcels in_trailer : Fault

-- the number of entries, or the first wrong entry, from 0
pub data Verdict : Type 0 where
  accepted : ℕ → Verdict
  wrong : ℕ → Fault → Verdict

-- what a server does with an event
pub data Deed (S : Type 0) : Type 0 where
  refused : Deed S
  gave : List ℕ → S → Deed S

-- what comes of a body: the server's next state, or a fault
pub data Went (S : Type 0) : Type 0 where
  on : S → Went S
  fault : Fault → Went S

-- where a reading stands: entries passed, the offset of this place, the offset of the entry before it (0: none), the server
pub record Place (S : Type 0) : Type 0 where
  pub count : ℕ
  pub at : ℕ
  pub last : ℕ
  pub server : S

-- what comes of a place
pub data Next (S : Type 0) : Type 0 where
  goes : Place S → Next S
  stops : Verdict → Next S

-- does a place begin with "BACK"?
unfoldable pub is_back : List ℕ → Bool
is_back s = leb 4 (length s) && eqb (number_at s 0 4) (number mark)

-- is the length allowed, and are all bytes there?
unfoldable pub enough : List ℕ → Bool
enough s = leb (length_of s) body_limit && leb (length_of s + 12) (length s)

module _ {S : Type 0} where
  -- the place behind an entry of n bytes
  unfoldable pub by_step : Place S → ℕ → Went S → Next S
  by_step p n (on d) = goes (record { count = p.count + 1; at = p.at + n; last = p.at; server = d })
  by_step p n (fault f) = stops (wrong p.count f)

  -- the closing trailer: just twelve bytes, with the last offset and the number of entries
  unfoldable pub trailer_of : Place S → List ℕ → Verdict
  trailer_of p s =
      choose (eqb (length s) 12 && eqb (number_at s 4 4) p.last && eqb (number_at s 8 4) p.count)
      (accepted p.count)
      (wrong p.count in_trailer)

  unfoldable pub and_on : Next S → (Place S → Verdict) → Verdict
  and_on (goes p) f = f p
  and_on (stops v) f = v

  -- a refused event is a fault of parcels
  unfoldable pub by_deed : Deed S → List ℕ → Went S
  by_deed refused frames = fault in_parcels
  by_deed (gave given d) frames = choose (same given frames) (on d) (fault in_parcels)

  abbrev pub first : S → Place S
  first d = record { count = 0; at = 0; last = 0; server = d }

module _ {S : Type 0} (deed : S → Event → Deed S) where
  unfoldable pub by_event : S → Read Event → Went S
  by_event d none = fault in_layout
  by_event d (found event frames) = by_deed (deed d event) frames

  -- an entry, given exactly its bytes: distance, sum, then layout and parcels
  unfoldable pub entry_of : Place S → List ℕ → Next S
  entry_of p s =
      choose (eqb (number_at s (length_of s + 4) 4) (length_of s + 4))
      (choose (eqb (number_at s (length_of s + 8) 4) (crc_of (take (length_of s + 4) s)))
      (by_step p (length s) (by_event p.server (decode (body_of s))))
      (stops (wrong p.count in_sum)))
      (stops (wrong p.count in_distance))

  -- a place, and all bytes from there on
  unfoldable pub place_of : Place S → List ℕ → Next S
  place_of p s =
      choose (is_back s) (stops (trailer_of p s))
      (choose (enough s) (entry_of p (take (length_of s + 12) s))
      (stops (wrong p.count in_length)))

  -- from place to place; an entry has more than one byte, so one turn more than bytes are enough
  unfoldable pub judge_on : ℕ → Place S → List ℕ → Verdict
  judge_on zero p s = wrong p.count in_length
  judge_on (suc k) p s = and_on (place_of p s) λ q. judge_on k q (drop (length_of s + 12) s)

  -- the verdict over a book, from a fresh server
  unfoldable pub judge : S → List ℕ → Verdict
  judge d book = judge_on (suc (length book)) (first d) book

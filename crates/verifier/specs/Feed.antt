-- The verifier byte by byte: a place, and the bytes had from there on, at most one entry's. Assumes nothing.
use Rattle.std.specs.Prelude.{List, [], ◌∷◌, ◌++◌, ℕ, ◌+◌, leb, length}
use Rattle.journal.specs.Journal.{choose, body_limit, length_of}
use Rattle.record.specs.Layout.{Event}
use Rattle.verifier.specs.Judge.{Verdict, wrong, in_length, in_trailer, Deed, Place, Next, goes, stops, is_back, trailer_of, entry_of}

pub data Reading (S : Type 0) : Type 0 where
  reading : Place S → List ℕ → Reading S
  done : Verdict → Reading S

module _ {S : Type 0} where
  unfoldable pub by_next : Next S → Reading S
  by_next (goes q) = reading q []
  by_next (stops v) = done v

  -- what the bytes had come to, when there are no more
  unfoldable pub finish : Reading S → Verdict
  finish (reading p s) = choose (is_back s) (trailer_of p s) (wrong p.count in_length)
  finish (done v) = v

module _ {S : Type 0} (deed : S → Event → Deed S) where
  -- the bytes had, one more than before
  unfoldable pub settle : Place S → List ℕ → Reading S
  settle p s =
      choose (leb (length s) 3) (reading p s)
      (choose (is_back s)
      (choose (leb (length s) 12) (reading p s) (done (wrong p.count in_trailer)))
      (choose (leb (length_of s) body_limit)
      (choose (leb (length_of s + 12) (length s)) (by_next (entry_of deed p s)) (reading p s))
      (done (wrong p.count in_length))))

  unfoldable pub feed_byte : Reading S → ℕ → Reading S
  feed_byte (reading p s) b = settle p (s ++ (b ∷ []))
  feed_byte (done v) b = done v

  -- bytes one after the other, and pieces
  unfoldable pub feed : Reading S → List ℕ → Reading S
  feed r [] = r
  feed r (b ∷ bs) = feed (feed_byte r b) bs

  unfoldable pub feed_pieces : Reading S → List (List ℕ) → Reading S
  feed_pieces r [] = r
  feed_pieces r (x ∷ xs) = feed_pieces (feed r x) xs

abbrev pub joined : List (List ℕ) → List ℕ
joined [] = []
joined (x ∷ xs) = x ++ joined xs

-- However a book is cut, the verdict is the definition's. Assumes nothing.
use Rattle.std.specs.Prelude.{◌≡◌, Bool, ◌&&◌, ℕ, suc, ◌+◌, ◌≤◌, ◌<◌, leb, take, drop}
use Rattle.std.proofs.Math.Path.{refl, sym, ap}
use Rattle.std.proofs.Common.{ap₂, ◌∙◌, ⊎_elim, length-append}
use Rattle.std.proofs.Math.Bool.{true, false}
use mathlib.Core.List.{List, [], ◌∷◌, ◌++◌}
use native.Mathlib.Omega.{arith}
use Rattle.std.proofs.Math.Dec.{eqb}
use Rattle.std.proofs.Math.ListN.{length}
use Rattle.std.proofs.lemmas.List.{take-append-le}
use borrow.Author.Tests.{le-leb, lt-leb}
use Rattle.wire.specs.Field.{number, number_at}
use Rattle.journal.specs.Journal.{body_limit, mark, length_of}
use Rattle.journal.specs.Bytes.{yes_is, no_is, and_is, and_not, not_and, below}
use Rattle.record.specs.Layout.{Event}
use Rattle.verifier.specs.Judge.{Verdict, wrong, in_length, Deed, Place, goes, stops, is_back, enough, trailer_of, and_on, entry_of, place_of, judge_on}
use Rattle.verifier.specs.Feed.{Reading, reading, finish, feed_byte, feed, feed_pieces, joined}

-- what the first four bytes say does not see what follows
pub length_front : (t r : List ℕ) → 4 ≤ length t → length_of (t ++ r) ≡ length_of t
unfolding length_of
length_front t r h = ap number (take-append-le 4 t r h)

pub back_front : (t r : List ℕ) → 4 ≤ length t → is_back (t ++ r) ≡ is_back t
unfolding is_back
back_front t r h =
    let l : length (t ++ r) ≡ length t + length r = length-append t r in
    ap₂ (λ (x y : Bool). x && y)
    (le-leb 4 (length (t ++ r)) (omega arith) ∙ sym (le-leb 4 (length t) h))
    (ap (λ (x : List ℕ). eqb (number x) (number mark)) (take-append-le 4 t r h))

pub few_not_back : (t : List ℕ) → length t < 4 → is_back t ≡ false
unfolding is_back
few_not_back t h = and_not (eqb (number_at t 0 4) (number mark)) (lt-leb 4 (length t) h)

pub enough_not : (s : List ℕ) → length s < length_of s + 12 → enough s ≡ false
unfolding enough
enough_not s h = not_and (leb (length_of s) body_limit) (lt-leb (length_of s + 12) (length s) h)

pub long_not : (s : List ℕ) → body_limit < length_of s → enough s ≡ false
unfolding enough
long_not s h = and_not (leb (length_of s + 12) (length s)) (lt-leb (length_of s) body_limit h)

pub enough_is : (s : List ℕ) → length_of s ≤ body_limit → length_of s + 12 ≤ length s → enough s ≡ true
unfolding enough
enough_is s h l = and_is (le-leb (length_of s) body_limit h) (le-leb (length_of s + 12) (length s) l)

-- bytes had from a place on that say nothing yet
pub record Unsettled (s : List ℕ) : Type 0 where
  pub back : is_back s ≡ true → length s ≤ 12
  pub short : is_back s ≡ false → length s < length_of s + 12

pub grown : (s : List ℕ) (b : ℕ) → Unsettled s → is_back (s ++ (b ∷ [])) ≡ false → length (s ++ (b ∷ [])) ≤ length_of (s ++ (b ∷ [])) + 12
grown s b u e =
    let l : length (s ++ (b ∷ [])) ≡ length s + 1 = length-append s (b ∷ []) in
    ⊎_elim
    (λ (c : length s < 4). omega arith)
    (λ (c : 4 ≤ length s).
    let n : length_of (s ++ (b ∷ [])) ≡ length_of s = length_front s (b ∷ []) c in
    let h : length s < length_of s + 12 = u.short (sym (back_front s (b ∷ []) c) ∙ e) in
    omega arith)
    (below (length s) 4)

module _ {S : Type 0} (deed : S → Event → Deed S) where
  -- a turn of the definition
  pub at_stop : (k : ℕ) (p : Place S) (s : List ℕ) (v : Verdict) → place_of deed p s ≡ stops v → judge_on deed (suc k) p s ≡ v
  unfolding judge_on and_on
  at_stop k p s v e = rw e

  pub at_goes : (k : ℕ) (p : Place S) (s : List ℕ) (q : Place S) → place_of deed p s ≡ goes q → judge_on deed (suc k) p s ≡ judge_on deed k q (drop (length_of s + 12) s)
  unfolding judge_on and_on
  at_goes k p s q e = rw e

  pub place_back : (p : Place S) (s : List ℕ) → is_back s ≡ true → place_of deed p s ≡ stops (trailer_of p s)
  unfolding place_of
  place_back p s e = yes_is _ _ e

  pub place_short : (p : Place S) (s : List ℕ) → is_back s ≡ false → enough s ≡ false → place_of deed p s ≡ stops (wrong p.count in_length)
  unfolding place_of
  place_short p s e f = no_is _ _ e ∙ no_is _ _ f

  pub place_entry : (p : Place S) (s : List ℕ) → is_back s ≡ false → enough s ≡ true → place_of deed p s ≡ entry_of deed p (take (length_of s + 12) s)
  unfolding place_of
  place_entry p s e f = no_is _ _ e ∙ yes_is _ _ f

  -- one more byte is had; s follows
  module _ (s : List ℕ) (ih : (k : ℕ) (p : Place S) (t : List ℕ) → Unsettled t → length (t ++ s) < k → finish (feed deed (reading p t) s) ≡ judge_on deed k p (t ++ s))
      (k : ℕ) (p : Place S) (t : List ℕ) (small : is_back t ≡ false → length t ≤ length_of t + 12) (fuel : length (t ++ s) < suc k) where
    abbrev pub Goal : Reading S → Type 0
    Goal r = finish (feed deed r s) ≡ judge_on deed (suc k) p (t ++ s)

  -- Feeding a and then b is feeding a ++ b.
  pub feed_append : (r : Reading S) (a b : List ℕ) → feed deed r (a ++ b) ≡ feed deed (feed deed r a) b
  unfolding feed
  feed_append r [] b = refl
  feed_append r (x ∷ a) b = feed_append (feed_byte deed r x) a b

  pub feed_pieces_lem : (r : Reading S) (xs : List (List ℕ)) → feed_pieces deed r xs ≡ feed deed r (joined xs)
  unfolding feed_pieces feed
  feed_pieces_lem r [] = refl
  feed_pieces_lem r (x ∷ xs) = feed_pieces_lem (feed deed r x) xs ∙ sym (feed_append r x (joined xs))

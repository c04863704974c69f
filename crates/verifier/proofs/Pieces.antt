-- Laws of what specs/Pieces.antt defines. Assumes nothing.
use Rattle.std.specs.Prelude.{◌≡◌, Bool, ℕ, zero, suc, ◌+◌, ◌≤◌, ◌<◌, leb}
use Rattle.std.proofs.Math.Path.{refl, sym, ap}
use Rattle.std.proofs.Common.{subst, ◌∙◌, length-append, take_at, drop_at}
use Rattle.std.proofs.Math.Bool.{true, false}
use mathlib.Core.List.{List, [], ◌∷◌, ◌++◌, append_assoc, append-nil}
use native.Mathlib.Omega.{arith}
use Rattle.std.proofs.Math.Dec.{eqb}
use Rattle.std.proofs.Math.ListN.{length}
use borrow.Author.Tests.{leb-true, leb-false, ne_eqb}
use Rattle.wire.specs.Field.{number_at}
use Rattle.journal.specs.Journal.{choose, body_limit, length_of}
use Rattle.journal.specs.Bytes.{yes_is, no_is, and_not}
use Rattle.record.specs.Layout.{Event}
use Rattle.verifier.specs.Judge.{Verdict, wrong, in_length, in_trailer, Deed, Place, Next, goes, stops, is_back, trailer_of, first, entry_of, place_of, judge_on, judge}
use Rattle.verifier.specs.Feed.{Reading, reading, done, by_next, finish, settle, feed_byte, feed, feed_pieces, joined}
use Rattle.verifier.specs.Pieces.{length_front, back_front, enough_not, long_not, enough_is, Unsettled, grown, at_stop, at_goes, place_back, place_short, place_entry, Goal, feed_pieces_lem}

module _ {S : Type 0} (deed : S → Event → Deed S) where
  -- a verdict stands
  feed_done : (v : Verdict) (s : List ℕ) → feed deed (done v) s ≡ done v
  unfolding feed feed_byte
  feed_done v [] = refl
  feed_done v (b ∷ s) = feed_done v s

  stands : (v : Verdict) (s : List ℕ) → finish (feed deed (done v) s) ≡ v
  unfolding finish
  stands v s = ap finish (feed_done v s)

  -- bytes end
  ended : (k : ℕ) (p : Place S) (t : List ℕ) → Unsettled t → (c : Bool) → is_back t ≡ c → finish (reading p t) ≡ judge_on deed (suc k) p t
  unfolding finish
  ended k p t u true e = yes_is _ _ e ∙ sym (at_stop {S = S} deed k p t (trailer_of p t) (place_back {S = S} deed p t e))
  ended k p t u false e = no_is _ _ e ∙ sym (at_stop {S = S} deed k p t (wrong p.count in_length) (place_short {S = S} deed p t e (enough_not t (u.short e))))

  too_many : (p : Place S) (s : List ℕ) → 12 < length s → trailer_of p s ≡ wrong p.count in_trailer
  unfolding trailer_of
  too_many p s h =
      let e : eqb (length s) 12 ≡ false = ne_eqb (length s) 12 (λ z. omega arith) in
      no_is _ _ (and_not (eqb (number_at s 8 4) p.count) (and_not (eqb (number_at s 4 4) p.last) e))

  -- one more byte is had; s follows
  module _ (s : List ℕ) (ih : (k : ℕ) (p : Place S) (t : List ℕ) → Unsettled t → length (t ++ s) < k → finish (feed deed (reading p t) s) ≡ judge_on deed k p (t ++ s))
      (k : ℕ) (p : Place S) (t : List ℕ) (small : is_back t ≡ false → length t ≤ length_of t + 12) (fuel : length (t ++ s) < suc k) where
    via : {r r' : Reading S} → r ≡ r' → (Goal {S = S} deed s ih k p t small fuel) r' → (Goal {S = S} deed s ih k p t small fuel) r
    via e g = subst (Goal {S = S} deed s ih k p t small fuel) (sym e) g

    whole_length : length (t ++ s) ≡ length t + length s
    whole_length = length-append t s

    by_entry : 4 ≤ length t → is_back t ≡ false → length_of t ≤ body_limit → length t ≡ length_of t + 12 → (x : Next S) → entry_of deed p t ≡ x → (Goal {S = S} deed s ih k p t small fuel) (by_next (entry_of deed p t))
    unfolding by_next
    by_entry four b l n x e =
        let m : length_of (t ++ s) ≡ length_of t = length_front t s four in
        let z : length t ≡ length_of (t ++ s) + 12 = omega arith in
        let w : length_of (t ++ s) + 12 ≤ length (t ++ s) = omega (arith, whole_length) in
        let o : place_of deed p (t ++ s) ≡ x =
        (place_entry {S = S} deed) p (t ++ s) (back_front t s four ∙ b) (enough_is (t ++ s) (omega arith) w)
        ∙ ap (entry_of deed p) (take_at t s (length_of (t ++ s) + 12) z)
        ∙ e in
        via (ap by_next e) (finally x o z)
      where
        finally : (x : Next S) → place_of deed p (t ++ s) ≡ x → length t ≡ length_of (t ++ s) + 12 → (Goal {S = S} deed s ih k p t small fuel) (by_next x)
        finally (stops v) o z = stands v s ∙ sym (at_stop {S = S} deed k p (t ++ s) v o)
        finally (goes q) o z =
            ih k q [] (record { back = λ c. omega arith; short = λ c. omega arith }) (omega (arith, whole_length))
            ∙ sym (at_goes {S = S} deed k p (t ++ s) q o ∙ ap (judge_on deed k q) (drop_at t s (length_of (t ++ s) + 12) z))

    by_bytes : 4 ≤ length t → is_back t ≡ false → length_of t ≤ body_limit → (c : Bool) → leb (length_of t + 12) (length t) ≡ c
        → (Goal {S = S} deed s ih k p t small fuel) (choose (leb (length_of t + 12) (length t)) (by_next (entry_of deed p t)) (reading p t))
    by_bytes four b l true e =
        let n : length_of t + 12 ≤ length t = leb-true (length_of t + 12) (length t) e in
        let m : length t ≤ length_of t + 12 = small b in
        via (yes_is _ _ e) (by_entry four b l (omega arith) (entry_of deed p t) refl)
    by_bytes four b l false e =
        let n : length t < length_of t + 12 = leb-false (length_of t + 12) (length t) e in
        via (no_is _ _ e) (ih (suc k) p t (record { back = λ c. let z : ◌≡◌ {A = ℕ} 0 1 = cc in absurd (omega arith); short = λ c. n }) fuel)

    by_limit : 4 ≤ length t → is_back t ≡ false → (c : Bool) → leb (length_of t) body_limit ≡ c
        → (Goal {S = S} deed s ih k p t small fuel) (choose (leb (length_of t) body_limit) (choose (leb (length_of t + 12) (length t)) (by_next (entry_of deed p t)) (reading p t)) (done (wrong p.count in_length)))
    by_limit four b true e = via (yes_is _ _ e) (by_bytes four b (leb-true (length_of t) body_limit e) (leb (length_of t + 12) (length t)) refl)
    by_limit four b false e =
        let n : body_limit < length_of t = leb-false (length_of t) body_limit e in
        let m : length_of (t ++ s) ≡ length_of t = length_front t s four in
        via (no_is _ _ e)
        (stands (wrong p.count in_length) s
        ∙ sym (at_stop {S = S} deed k p (t ++ s) (wrong p.count in_length) (place_short {S = S} deed p (t ++ s) (back_front t s four ∙ b) (long_not (t ++ s) (omega arith)))))

    by_trailer : 4 ≤ length t → is_back t ≡ true → (c : Bool) → leb (length t) 12 ≡ c → (Goal {S = S} deed s ih k p t small fuel) (choose (leb (length t) 12) (reading p t) (done (wrong p.count in_trailer)))
    by_trailer four b true e =
        let n : length t ≤ 12 = leb-true (length t) 12 e in
        via (yes_is _ _ e) (ih (suc k) p t (record { back = λ c. n; short = λ c. let z : ◌≡◌ {A = ℕ} 0 1 = cc in absurd (omega arith) }) fuel)
    by_trailer four b false e =
        let n : 12 < length t = leb-false (length t) 12 e in
        via (no_is _ _ e)
        (stands (wrong p.count in_trailer) s
        ∙ sym
        (at_stop {S = S} deed k p (t ++ s) (wrong p.count in_trailer)
        (place_back {S = S} deed p (t ++ s) (back_front t s four ∙ b) ∙ ap stops (too_many p (t ++ s) (omega (arith, whole_length))))))

    by_back : 4 ≤ length t → (c : Bool) → is_back t ≡ c
        → (Goal {S = S} deed s ih k p t small fuel) (choose (is_back t)
        (choose (leb (length t) 12) (reading p t) (done (wrong p.count in_trailer)))
        (choose (leb (length_of t) body_limit) (choose (leb (length_of t + 12) (length t)) (by_next (entry_of deed p t)) (reading p t)) (done (wrong p.count in_length))))
    by_back four true e = via (yes_is _ _ e) (by_trailer four e (leb (length t) 12) refl)
    by_back four false e = via (no_is _ _ e) (by_limit four e (leb (length_of t) body_limit) refl)

    settled : (c : Bool) → leb (length t) 3 ≡ c → (Goal {S = S} deed s ih k p t small fuel) (settle deed p t)
    unfolding settle
    settled true e =
        let n : length t ≤ 3 = leb-true (length t) 3 e in
        via (yes_is _ _ e) (ih (suc k) p t (record { back = λ c. omega arith; short = λ c. omega arith }) fuel)
    settled false e =
        let n : 3 < length t = leb-false (length t) 3 e in
        via (no_is _ _ e) (by_back (omega arith) (is_back t) refl)

  at_end : (k : ℕ) (p : Place S) (t : List ℕ) → Unsettled t → length (t ++ []) < k → finish (reading p t) ≡ judge_on deed k p (t ++ [])
  at_end zero p t u h = absurd (omega arith)
  at_end (suc k) p t u h = ended k p t u (is_back t) refl ∙ ap (judge_on deed (suc k) p) (sym (append-nil t))

  one_more : (b : ℕ) (s : List ℕ)
      → ((k : ℕ) (p : Place S) (t : List ℕ) → Unsettled t → length (t ++ s) < k → finish (feed deed (reading p t) s) ≡ judge_on deed k p (t ++ s))
      → (k : ℕ) (p : Place S) (t : List ℕ) → Unsettled t → length (t ++ (b ∷ s)) < k → finish (feed deed (settle deed p (t ++ (b ∷ []))) s) ≡ judge_on deed k p (t ++ (b ∷ s))
  one_more b s ih zero p t u h = absurd (omega arith)
  one_more b s ih (suc k) p t u h =
      let e : t ++ (b ∷ []) ++ s ≡ t ++ (b ∷ s) = append_assoc t (b ∷ []) s in
      settled s ih k p (t ++ (b ∷ [])) (grown t b u) (subst (λ (x : List ℕ). length x < suc k) (sym e) h) (leb (length (t ++ (b ∷ []))) 3) refl
      ∙ ap (judge_on deed (suc k) p) e

  feeds : (s : List ℕ) (k : ℕ) (p : Place S) (t : List ℕ) → Unsettled t → length (t ++ s) < k → finish (feed deed (reading p t) s) ≡ judge_on deed k p (t ++ s)
  unfolding feed feed_byte
  feeds [] k p t u h = at_end k p t u h
  feeds (b ∷ s) k p t u h = one_more b s (feeds s) k p t u h

  -- Feeding all of a book and finishing gives the definition's verdict.
  pub feed_judge : (d : S) (book : List ℕ) → finish (feed deed (reading (first d) []) book) ≡ judge deed d book
  unfolding judge
  feed_judge d book = feeds book (suc (length book)) (first d) [] (record { back = λ c. omega arith; short = λ c. omega arith }) (omega arith)

  -- However a book is cut into pieces, the verdict is the definition's.
  pub pieces_judge : (d : S) (xs : List (List ℕ)) → finish (feed_pieces deed (reading (first d) []) xs) ≡ judge deed d (joined xs)
  pieces_judge d xs = ap finish (feed_pieces_lem {S = S} deed (reading (first d) []) xs) ∙ feed_judge d (joined xs)

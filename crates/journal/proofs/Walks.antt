-- Laws of what specs/Walks.antt defines. Assumes nothing.
use Rattle.std.specs.Prelude.{◌≡◌, ℕ, zero, suc, ◌+◌, ◌-◌, ◌≤◌, min, Bool, true, false, ◌&&◌, List, [], ◌∷◌, length, take, drop, ◌==◌, nat_le}
use Rattle.std.proofs.Math.Path.{refl, sym, ap, ap₂}
use Rattle.std.proofs.Common.{◌∙◌, drop-drop, take-take, le-leb}
use native.Mathlib.Omega.{arith}
use Rattle.std.proofs.Math.ListN.{length-take, length-drop}
use Rattle.journal.specs.Journal.{length_of, body_of, whole, distance_of, start_of, ends, backward_on, closed, backward, used}
use Rattle.journal.specs.Bytes.{yes_is, no_is, and_left, and_right}
use Rattle.journal.specs.Entry.{passed}
use Rattle.journal.specs.Steps.{drop_take}
use Rattle.journal.specs.Places.{none, ending_of, backward_at}
use Rattle.journal.specs.declared.Found.{Found}
use Rattle.journal.specs.Walks.{walk, walk_on, walk_ends, front}

ends_whole : (s : List ℕ) → ends s ≡ true → whole (drop (start_of s) s) ≡ true
unfolding ends
ends_whole s e =
    let p : Bool = nat_le (distance_of s + 8) (length s) in
    let q : Bool = whole (drop (start_of s) s) in
    and_right p q (and_left (p && q) (length_of (drop (start_of s) s) + 4 == distance_of s) e)

-- a turn of the backward walk, in a closed journal
module _ (k : ℕ) (book : List ℕ) (place : ℕ) (c : closed (used book) ≡ true) (h : place ≤ length (used book) - 12)
    (ih : (q : ℕ) → q ≤ length (used book) - 12 → walk backward_at k book q ≡ backward_on k (take q (used book))) where
  at_place : backward_at book place ≡ ending_of (front k book place c h ih)
  unfolding backward_at
  at_place = yes_is _ _ c ∙ yes_is _ _ (le-leb place (length (used book) - 12) h)

  backward_turn : (t : Bool) → ends (front k book place c h ih) ≡ t → walk backward_at (suc k) book place ≡ backward_on (suc k) (front k book place c h ih)
  unfolding ending_of backward_on
  backward_turn true e =
      let i : ℕ = start_of (front k book place c h ih) in
      let n : ℕ = length_of (drop i (front k book place c h ih)) in
      let f : Found = record { found = 1; body = i + 4; len = n; next = i } in
      let p : backward_at book place ≡ f = at_place ∙ yes_is _ _ e in
      let w = passed (drop i (front k book place c h ih)) (ends_whole (front k book place c h ih) e) in
      let l : length (front k book place c h ih) ≡ min place (length (used book)) = length-take place (used book) in
      let g : length (drop i (front k book place c h ih)) ≡ length (front k book place c h ih) - i = length-drop i (front k book place c h ih) in
      let b : take n (drop (i + 4) (used book)) ≡ body_of (drop i (front k book place c h ih)) =
      sym (take-take n (place - (i + 4)) (drop (i + 4) (used book)) (omega arith))
      ∙ ap (take n) (sym (drop_take (i + 4) place (used book)) ∙ sym (drop-drop 4 i (front k book place c h ih))) in
      walk_on backward_at k book place f p refl
      ∙ ap₂ (λ (x : List ℕ) (y : List (List ℕ)). x ∷ y) b (ih i (omega arith) ∙ ap (backward_on k) (sym (take-take i place (used book) (omega arith))))
      ∙ sym (yes_is (body_of (drop i (front k book place c h ih)) ∷ backward_on k (take i (front k book place c h ih))) [] e)
  backward_turn false e =
      let p : backward_at book place ≡ none = at_place ∙ no_is _ _ e in
      walk_ends backward_at k book place none p refl ∙ sym (no_is (body_of (drop (start_of (front k book place c h ih)) (front k book place c h ih)) ∷ backward_on k (take (start_of (front k book place c h ih)) (front k book place c h ih))) [] e)

pub backward_walk : (k : ℕ) (book : List ℕ) (place : ℕ) → closed (used book) ≡ true → place ≤ length (used book) - 12
    → walk backward_at k book place ≡ backward_on k (take place (used book))
unfolding walk backward_on
backward_walk zero book place c h = refl
backward_walk (suc k) book place c h = backward_turn k book place c h (λ q l. backward_walk k book q c l) (ends (take place (used book))) refl

nowhere : (k : ℕ) (book : List ℕ) (place : ℕ) → closed (used book) ≡ false → walk backward_at k book place ≡ []
unfolding walk backward_at
nowhere zero book place c = refl
nowhere (suc k) book place c = let p : backward_at book place ≡ none = no_is _ _ c in walk_ends backward_at k book place none p refl

pub backward_all : (book : List ℕ) → walk backward_at (length (used book)) book (length (used book) - 12) ≡ backward (used book)
unfolding backward
backward_all book = by (closed (used book)) refl
  where
    by : (t : Bool) → closed (used book) ≡ t → walk backward_at (length (used book)) book (length (used book) - 12) ≡ backward (used book)
    by true c = backward_walk (length (used book)) book (length (used book) - 12) c (omega arith) ∙ sym (yes_is _ [] c)
    by false c = nowhere (length (used book)) book (length (used book) - 12) c ∙ sym (no_is _ [] c)

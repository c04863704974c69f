-- The readers a place at a time are the readers: following `next` from place to place finds their bodies. Assumes nothing.
use Rattle.std.specs.Prelude.{◌≡◌, ℕ, zero, suc, ◌+◌, ◌-◌, ◌≤◌, min, Bool, true, false, List, [], ◌∷◌, length, take, drop, ◌==◌}
use Rattle.std.proofs.Math.Path.{refl, sym, ap, ap₂}
use Rattle.std.proofs.Common.{◌∙◌, drop-drop}
use native.Mathlib.Omega.{arith}
use Rattle.std.proofs.Math.Seq.{take-length}
use Rattle.journal.specs.Journal.{choose, length_of, body_of, whole, forward_on, forward, backward_on, closed, reach, used}
use Rattle.journal.specs.Bytes.{yes_is, no_is}
use Rattle.journal.specs.Places.{none, forward_at, backward_at}
use Rattle.journal.specs.declared.Found.{Found}

-- the body that was found
abbrev pub found_body : List ℕ → Found → List ℕ
found_body book f = take f.len (drop f.body (used book))

-- from place to place
unfoldable pub walk : (List ℕ → ℕ → Found) → ℕ → List ℕ → ℕ → List (List ℕ)
walk reader zero book place = []
walk reader (suc k) book place =
    choose ((reader book place).found == 1)
    (found_body book (reader book place) ∷ walk reader k book (reader book place).next)
    []

-- a turn of a walk, whose reader finds f
module _ (reader : List ℕ → ℕ → Found) (k : ℕ) (book : List ℕ) (place : ℕ) (f : Found) (e : reader book place ≡ f) where
  pub walk_on : f.found ≡ 1 → walk reader (suc k) book place ≡ found_body book f ∷ walk reader k book f.next
  unfolding walk choose
  walk_on h = rw (e, h)

  pub walk_ends : f.found ≡ 0 → walk reader (suc k) book place ≡ []
  unfolding walk choose
  walk_ends h = rw (e, h)

-- a turn of the forward walk
module _ (k : ℕ) (book : List ℕ) (place : ℕ) (ih : (q : ℕ) → walk forward_at k book q ≡ forward_on k (drop q (used book))) where
  abbrev rest : List ℕ
  rest = drop place (used book)

  forward_turn : (t : Bool) → whole rest ≡ t → walk forward_at (suc k) book place ≡ forward_on (suc k) rest
  unfolding forward_at forward_on
  forward_turn true e =
      let n : ℕ = length_of rest in
      let f : Found = record { found = 1; body = place + 4; len = n; next = place + n + 12 } in
      let p : forward_at book place ≡ f = yes_is _ _ e in
      let d : place + n + 12 ≡ place + (n + 12) = omega arith in
      walk_on forward_at k book place f p refl
      ∙ ap (λ (l : List (List ℕ)). found_body book f ∷ l) (ih (place + n + 12))
      ∙ ap₂ (λ (x y : List ℕ). take n x ∷ forward_on k y) (sym (drop-drop 4 place (used book))) (ap (λ (q : ℕ). drop q (used book)) d ∙ sym (drop-drop (n + 12) place (used book)))
      ∙ sym (yes_is (body_of rest ∷ forward_on k (drop (n + 12) rest)) [] e)
  forward_turn false e =
      let p : forward_at book place ≡ none = no_is _ _ e in
      walk_ends forward_at k book place none p refl ∙ sym (no_is (body_of rest ∷ forward_on k (drop (length_of rest + 12) rest)) [] e)

pub forward_walk : (k : ℕ) (book : List ℕ) (place : ℕ) → walk forward_at k book place ≡ forward_on k (drop place (used book))
unfolding walk forward_on
forward_walk zero book place = refl
forward_walk (suc k) book place = forward_turn k book place (forward_walk k book) (whole (drop place (used book))) refl

-- a turn of the backward walk, in a closed journal
module _ (k : ℕ) (book : List ℕ) (place : ℕ) (c : closed (used book) ≡ true) (h : place ≤ length (used book) - 12)
    (ih : (q : ℕ) → q ≤ length (used book) - 12 → walk backward_at k book q ≡ backward_on k (take q (used book))) where
  abbrev pub front : List ℕ
  front = take place (used book)

-- from the start on, and from before the last twelve bytes on
pub forward_all : (book : List ℕ) → walk forward_at (length (used book)) book 0 ≡ forward (used book)
forward_all book = forward_walk (length (used book)) book 0

-- a book within reach is used whole
pub used_short : (s : List ℕ) → length s ≤ reach → used s ≡ s
unfolding used
used_short s h = let e : min (length s) reach ≡ length s = omega arith in ap (λ (k : ℕ). take k s) e ∙ take-length s

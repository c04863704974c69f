-- The laws that the readers' code cites: one for each way out. Assumes nothing.
use Rattle.std.specs.Prelude.{◌≡◌, ℕ, ◌+◌, ◌-◌, ◌<◌, ◌≤◌, min, true, false, ◌&&◌, List, [], length, take, drop, ◌==◌, ◌≢◌, nat_le}
use Rattle.std.proofs.Math.Path.{sym, ap}
use Rattle.std.proofs.Common.{◌∙◌, arith, length-take, drop_of_length-le, take-take}
use borrow.Author.Tests.{le-leb, lt-leb, eq-eqb, ne_eqb, leb-true}
use Rattle.wire.specs.Field.{number, number_at}
use Rattle.crc.specs.Crc.{crc_of}
pub use Rattle.moves.specs.Moves.{drop_take}
use Rattle.journal.specs.Journal.{body_limit, mark, length_of, whole, distance_of, closed, reach, used}
use Rattle.journal.specs.Bytes.{yes_is, no_is, and_left, and_not, not_and}
use Rattle.journal.specs.Entry.{passed, short, too_long}
use Rattle.journal.specs.Places.{none, forward_at, ending_of, backward_at}
use Rattle.journal.specs.declared.Found.{Found}

-- a whole entry has twelve bytes
pub whole_length : (s : List ℕ) → whole s ≡ true → 12 ≤ length s
whole_length s e = let w = passed s e in omega arith

pub not_enough : (s : List ℕ) → length s < 12 → false ≡ whole s
not_enough s h = sym (short s (omega arith))

-- n is the length that the bytes say
module _ (s : List ℕ) (n : ℕ) (e : n ≡ length_of s) where
  pub over_limit : body_limit < n → false ≡ whole s
  over_limit h = sym (too_long s (omega arith))

  pub falls_short : length s < n + 12 → false ≡ whole s
  falls_short h = sym (short s (omega arith))

  pub wrong_distance : (d : ℕ) → d ≡ number_at s (n + 4) 4 → (d ≢ n + 4) → false ≡ whole s
  unfolding whole
  wrong_distance d p h =
      rw (← e, ← p)
      (sym
      (and_not (number_at s (n + 8) 4 == crc_of (take (n + 4) s))
      (not_and (nat_le (n + 12) (length s) && nat_le n body_limit) (ne_eqb d (n + 4) h))))

  pub last_test : (d x y : ℕ) → n + 12 ≤ length s → n ≤ body_limit → d ≡ number_at s (n + 4) 4 → d ≡ n + 4 → x ≡ number_at s (n + 8) 4 → y ≡ crc_of (take (n + 4) s)
      → (x == y) ≡ whole s
  unfolding whole
  last_test d x y l w p q a b =
      rw (← e, ← p, ← a, ← b, le-leb (n + 12) (length s) l, le-leb n body_limit w, eq-eqb d (n + 4) q)

-- a part of the book that ends where its use ends
pub used_part : (book : List ℕ) (m place : ℕ) → m ≡ min (length book) reach → take (m - place) (drop place book) ≡ drop place (used book)
unfolding used
used_part book m place e = sym (drop_take place m book) ∙ ap (λ (k : ℕ). drop place (take k book)) e

used_all : (book : List ℕ) (m : ℕ) → m ≡ min (length book) reach → take m book ≡ used book
unfolding used
used_all book m e = ap (λ (k : ℕ). take k book) e

pub length_used : (book : List ℕ) → length (used book) ≡ min (length book) reach
unfolding used
length_used book = simp length-take (omega arith)

pub forward_found : (book : List ℕ) (place n : ℕ) (s : List ℕ) → s ≡ drop place (used book) → whole s ≡ true → n ≡ length_of s
    → record { found = 1; body = place + 4; len = n; next = place + n + 12 } ≡ forward_at book place
unfolding forward_at
forward_found book place n s e w h = rw (← e, h) (sym (yes_is _ none w))

pub forward_none : (book : List ℕ) (place : ℕ) (s : List ℕ) → s ≡ drop place (used book) → whole s ≡ false → none ≡ forward_at book place
unfolding forward_at
forward_none book place s e w = rw (← e) (sym (no_is _ none w))

pub forward_past : (book : List ℕ) (place m : ℕ) → m ≡ min (length book) reach → m < place → none ≡ forward_at book place
forward_past book place m e h =
    let l : length (used book) ≤ place = rw (length_used book) (omega arith) in
    forward_none book place [] (sym (drop_of_length-le (used book) l)) (short [] (omega arith))

-- d is the distance that the bytes say
module _ (s : List ℕ) (d : ℕ) (e : d ≡ distance_of s) where
  abbrev pub part : List ℕ
  part = take (length s - (length s - 8 - d)) (drop (length s - 8 - d) s)

-- a closed journal
pub closed_length : (s : List ℕ) → closed s ≡ true → 12 ≤ length s
unfolding closed
closed_length s e = leb-true 12 (length s) (and_left (nat_le 12 (length s)) (number_at s (length s - 12) 4 == number mark) e)

pub open_short : (s : List ℕ) → length s < 12 → false ≡ closed s
unfolding closed
open_short s h = rw (lt-leb 12 (length s) h)

pub closed_test : (s : List ℕ) (x : ℕ) → 12 ≤ length s → x ≡ number_at s (length s - 12) 4 → (x == 1111573323) ≡ closed s
unfolding closed
closed_test s x h e = rw (le-leb 12 (length s) h, e)

module _ (book : List ℕ) (place m : ℕ) (e : m ≡ min (length book) reach) where
  pub backward_open : closed (take m book) ≡ false → none ≡ backward_at book place
  unfolding backward_at
  backward_open c = sym (no_is _ none (ap closed (sym (used_all book m e)) ∙ c))

  shut : closed (take m book) ≡ true → closed (used book) ≡ true
  shut c = ap closed (sym (used_all book m e)) ∙ c

  pub backward_past : closed (take m book) ≡ true → m - 12 < place → none ≡ backward_at book place
  unfolding backward_at
  backward_past c h =
      sym (yes_is _ none (shut c) ∙ no_is _ none (lt-leb place (length (used book) - 12) (rw (length_used book) (omega arith))))

  pub backward_in : closed (take m book) ≡ true → place ≤ m - 12 → (r : Found) → r ≡ ending_of (take place book) → r ≡ backward_at book place
  unfolding backward_at
  backward_in c h r q =
      q ∙ ap ending_of (sym (take-take place m book (omega arith)) ∙ ap (take place) (used_all book m e))
      ∙ sym (yes_is _ none (shut c) ∙ yes_is _ none (le-leb place (length (used book) - 12) (rw (length_used book) (omega arith))))

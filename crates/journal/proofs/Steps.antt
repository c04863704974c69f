-- Laws of what specs/Steps.antt defines. Assumes nothing.
use Rattle.std.specs.Prelude.{◌≡◌, ℕ, ◌+◌, ◌-◌, ◌<◌, ◌≤◌, true, false, ◌&&◌, List, length, take, drop, ◌==◌, ◌≢◌, nat_le}
use Rattle.std.proofs.Math.Path.{sym, ap}
use Rattle.std.proofs.Common.{◌∙◌, arith, length-drop, take_all}
use borrow.Author.Tests.{le-leb, eq-eqb, ne_eqb}
use Rattle.journal.specs.Journal.{length_of, whole, distance_of, start_of, ends}
use Rattle.journal.specs.Bytes.{yes_is, no_is, and_is, and_not, not_and}
use Rattle.journal.proofs.Backward.{too_few}
use Rattle.journal.specs.Places.{none, ending_of}
use Rattle.journal.specs.Steps.{part}

-- a part of the bytes up to their end
rest_all : (s : List ℕ) (k : ℕ) → take (length s - k) (drop k s) ≡ drop k s
rest_all s k = take_all (length s - k) (drop k s) (simp length-drop (omega arith))

pub ending_short : (s : List ℕ) → length s < 8 → none ≡ ending_of s
unfolding ending_of
ending_short s h = sym (no_is _ none (too_few s (omega arith)))

-- d is the distance that the bytes say
module _ (s : List ℕ) (d : ℕ) (e : d ≡ distance_of s) where
  pub ending_far : length s < d + 8 → none ≡ ending_of s
  unfolding ending_of
  ending_far h = sym (no_is _ none (too_few s (omega arith)))

  part_is : (part s d e) ≡ drop (start_of s) s
  part_is = rest_all s (length s - 8 - d) ∙ ap (λ (k : ℕ). drop (length s - 8 - k) s) e

  pub ending_broken : whole (part s d e) ≡ false → none ≡ ending_of s
  unfolding ending_of ends
  ending_broken w =
      sym
      (no_is _ none
      (and_not (length_of (drop (start_of s) s) + 4 == distance_of s)
      (not_and (nat_le (distance_of s + 8) (length s)) (ap whole (sym part_is) ∙ w))))

  pub ending_other : (n : ℕ) → n ≡ length_of (part s d e) → (n + 4 ≢ d) → none ≡ ending_of s
  unfolding ending_of ends
  ending_other n p h =
      let q : length_of (drop (start_of s) s) ≡ n = ap length_of (sym part_is) ∙ sym p in
      sym
      (no_is _ none
      (not_and (nat_le (distance_of s + 8) (length s) && whole (drop (start_of s) s))
      (ne_eqb (length_of (drop (start_of s) s) + 4) (distance_of s) (λ z. h (ap (λ (k : ℕ). k + 4) (sym q) ∙ z ∙ sym e)))))

  pub ending_found : (n : ℕ) → n ≡ length_of (part s d e) → d + 8 ≤ length s → whole (part s d e) ≡ true → n + 4 ≡ d
      → record { found = 1; body = length s - 8 - d + 4; len = n; next = length s - 8 - d } ≡ ending_of s
  unfolding ending_of ends
  ending_found n p l w h =
      let q : length_of (drop (start_of s) s) ≡ n = ap length_of (sym part_is) ∙ sym p in
      let t : (nat_le (distance_of s + 8) (length s) && whole (drop (start_of s) s) && length_of (drop (start_of s) s) + 4 == distance_of s) ≡ true =
      and_is
      (and_is (le-leb (distance_of s + 8) (length s) (omega arith)) (ap whole (sym part_is) ∙ w))
      (eq-eqb (length_of (drop (start_of s) s) + 4) (distance_of s) (omega arith)) in
      (λ i. record { found = 1; body = length s - 8 - e i + 4; len = sym q i; next = length s - 8 - e i }) ∙ sym (yes_is _ none t)

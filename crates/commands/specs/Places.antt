-- The sets of places: one more, one less, two together, a first one, and the smallest sets. Assumes nothing.
use Rattle.std.specs.Prelude.{◌≡◌, ◌⊎◌, ◌↔◌, List, [], ◌∷◌, ℕ, ◌+◌, ◌-◌, ◌^◌, ◌≤◌, ◌<◌, ◌*◌, ◌/◌, ◌%◌, get_or, Option, Some, None}
use Rattle.std.proofs.Common.{sym, ap, ◌∙◌, inl, inr, ⊎_elim, arith}
use Rattle.std.proofs.Math.Nat.{sub-zero}
use Rattle.std.specs.Int.Bits.{bit_or}
use Rattle.std.specs.Int.Count.{count_trailing_zeros}
use Rattle.bits.specs.Bits.{bit}
use Rattle.scpi.specs.Answers.{lt_or_ge}
use Rattle.commands.specs.Bits.{either, power_bit, has_power, lessened, less, no_bits, trailing}
use Rattle.commands.specs.Sets.{In, On}

pub on_below : (s : List ℕ) (j : ℕ) → On s j → j < 192
on_below s j h = ⊎_elim (λ (x : In (get_or s 0 0) 0 j). omega (arith, x.1)) (λ y. ⊎_elim (λ (x : In (get_or s 1 0) 64 j). omega (arith, x.1)) (λ (x : In (get_or s 2 0) 128 j). omega (arith, x.1)) y) h

-- which word tells
module _ (s : List ℕ) (j : ℕ) where
  pub on_low : j < 64 → (bit (get_or s 0 0) j ≡ 1) ↔ On s j
  on_low l = (
    λ h. inl (omega arith, omega arith, ap (bit (get_or s 0 0)) (sub-zero j) ∙ h),
    λ h. ⊎_elim (λ (x : In (get_or s 0 0) 0 j). sym (ap (bit (get_or s 0 0)) (sub-zero j)) ∙ x.2)
        (λ y. absurd (⊎_elim (λ (x : In (get_or s 1 0) 64 j). omega (arith, x.0)) (λ (x : In (get_or s 2 0) 128 j). omega (arith, x.0)) y)) h,
  )

  pub on_mid : 64 ≤ j → j < 128 → (bit (get_or s 1 0) (j - 64) ≡ 1) ↔ On s j
  on_mid g l = (
    λ h. inr (inl (g, omega arith, h)),
    λ h. ⊎_elim (λ (x : In (get_or s 0 0) 0 j). absurd (omega (arith, x.1))) (λ y. ⊎_elim (λ (x : In (get_or s 1 0) 64 j). x.2) (λ (x : In (get_or s 2 0) 128 j). absurd (omega (arith, x.0))) y) h,
  )

  pub on_high : 128 ≤ j → j < 192 → (bit (get_or s 2 0) (j - 128) ≡ 1) ↔ On s j
  on_high g l = (
    λ h. inr (inr (g, omega arith, h)),
    λ h. ⊎_elim (λ (x : In (get_or s 0 0) 0 j). absurd (omega (arith, x.1))) (λ y. ⊎_elim (λ (x : In (get_or s 1 0) 64 j). absurd (omega (arith, x.1))) (λ (x : In (get_or s 2 0) 128 j). x.2) y) h,
  )

-- a place that one word of the three has more
module _ {X A B C K : Type 0} where
  in_first : X ↔ (A ⊎ K) → (X ⊎ (B ⊎ C)) ↔ ((A ⊎ (B ⊎ C)) ⊎ K)
  in_first f = (
    λ h. ⊎_elim (λ (x : X). ⊎_elim (λ (a : A). inl (inl a)) (λ (k : K). inr k) (f.0 x)) (λ (y : B ⊎ C). inl (inr y)) h,
    λ h. ⊎_elim (λ (y : A ⊎ (B ⊎ C)). ⊎_elim (λ (a : A). inl (f.1 (inl a))) (λ (z : B ⊎ C). inr z) y) (λ (k : K). inl (f.1 (inr k))) h,
  )

  in_second : X ↔ (B ⊎ K) → (A ⊎ (X ⊎ C)) ↔ ((A ⊎ (B ⊎ C)) ⊎ K)
  in_second f = (
    λ h. ⊎_elim (λ (a : A). inl (inl a)) (λ (y : X ⊎ C). ⊎_elim (λ (x : X). ⊎_elim (λ (b : B). inl (inr (inl b))) (λ (k : K). inr k) (f.0 x)) (λ (z : C). inl (inr (inr z))) y) h,
    λ h. ⊎_elim (λ (y : A ⊎ (B ⊎ C)). ⊎_elim (λ (a : A). inl a) (λ (z : B ⊎ C). ⊎_elim (λ (b : B). inr (inl (f.1 (inl b)))) (λ (w : C). inr (inr w)) z) y) (λ (k : K). inr (inl (f.1 (inr k)))) h,
  )

  in_third : X ↔ (C ⊎ K) → (A ⊎ (B ⊎ X)) ↔ ((A ⊎ (B ⊎ C)) ⊎ K)
  in_third f = (
    λ h. ⊎_elim (λ (a : A). inl (inl a)) (λ (y : B ⊎ X). ⊎_elim (λ (b : B). inl (inr (inl b))) (λ (x : X). ⊎_elim (λ (w : C). inl (inr (inr w))) (λ (k : K). inr k) (f.0 x)) y) h,
    λ h. ⊎_elim (λ (y : A ⊎ (B ⊎ C)). ⊎_elim (λ (a : A). inl a) (λ (z : B ⊎ C). ⊎_elim (λ (b : B). inr (inl b)) (λ (w : C). inr (inr (f.1 (inl w)))) z) y) (λ (k : K). inr (inr (f.1 (inr k)))) h,
  )

-- words that differ in the bit of place j
module _ (m n b j k : ℕ) (l : b ≤ j) (h : j < b + 64) (f : (i : ℕ) → (bit m i ≡ 1) ↔ ((bit n i ≡ 1) ⊎ (i ≡ j - b))) where
  differing : In m b k ↔ (In n b k ⊎ (k ≡ j))
  differing = (
    λ x. ⊎_elim (λ (y : bit n (k - b) ≡ 1). inl (x.0, x.1, y)) (λ (y : k - b ≡ j - b). inr (omega (arith, x.0))) ((f (k - b)).0 x.2),
    λ x. ⊎_elim (λ (y : In n b k). (y.0, y.1, (f (k - b)).1 (inl y.2))) (λ (y : k ≡ j). (omega arith, omega arith, (f (k - b)).1 (inr (ap (λ (z : ℕ). z - b) y)))) x,
  )

-- the places from 0 on
from_zero : (m n j : ℕ) → ((i : ℕ) → (bit m i ≡ 1) ↔ ((bit n i ≡ 1) ⊎ (i ≡ j))) → (i : ℕ) → (bit m i ≡ 1) ↔ ((bit n i ≡ 1) ⊎ (i ≡ j - 0))
from_zero m n j f i =
    let e : j - 0 ≡ j = sub-zero j in (
      λ h. ⊎_elim (λ (x : bit n i ≡ 1). inl x) (λ (x : i ≡ j). inr (x ∙ sym e)) ((f i).0 h),
      λ h. (f i).1 (⊎_elim (λ (x : bit n i ≡ 1). inl x) (λ (x : i ≡ j - 0). inr (x ∙ e)) h),
    )

-- place j put in
or_power : (m i : ℕ) (k : ℕ) → (bit (bit_or m (2 ^ i)) k ≡ 1) ↔ ((bit m k ≡ 1) ⊎ (k ≡ i))
or_power m i k = (
  λ h. ⊎_elim (λ (x : bit m k ≡ 1). inl x) (λ (x : bit (2 ^ i) k ≡ 1). inr ((power_bit i k).0 x)) ((either m (2 ^ i) k).0 h),
  λ h. (either m (2 ^ i) k).1 (⊎_elim (λ (x : bit m k ≡ 1). inl x) (λ (x : k ≡ i). inr ((power_bit i k).1 x)) h),
)

module _ (s : List ℕ) (j k : ℕ) where
  pub with_low : j < 64 → On (bit_or (get_or s 0 0) (2 ^ j) ∷ get_or s 1 0 ∷ get_or s 2 0 ∷ []) k ↔ (On s k ⊎ (k ≡ j))
  with_low l = in_first (differing (bit_or (get_or s 0 0) (2 ^ j)) (get_or s 0 0) 0 j k (omega arith) (omega arith) (from_zero (bit_or (get_or s 0 0) (2 ^ j)) (get_or s 0 0) j (or_power (get_or s 0 0) j)))

  pub with_mid : 64 ≤ j → j < 128 → On (get_or s 0 0 ∷ bit_or (get_or s 1 0) (2 ^ (j - 64)) ∷ get_or s 2 0 ∷ []) k ↔ (On s k ⊎ (k ≡ j))
  with_mid g l = in_second (differing (bit_or (get_or s 1 0) (2 ^ (j - 64))) (get_or s 1 0) 64 j k g (omega arith) (or_power (get_or s 1 0) (j - 64)))

  pub with_high : 128 ≤ j → j < 192 → On (get_or s 0 0 ∷ get_or s 1 0 ∷ bit_or (get_or s 2 0) (2 ^ (j - 128)) ∷ []) k ↔ (On s k ⊎ (k ≡ j))
  with_high g l = in_third (differing (bit_or (get_or s 2 0) (2 ^ (j - 128))) (get_or s 2 0) 128 j k g (omega arith) (or_power (get_or s 2 0) (j - 128)))

-- place j taken out; what is left weighs less
abbrev pub weight : List ℕ → ℕ
weight s = get_or s 0 0 + get_or s 1 0 + get_or s 2 0

module _ (s : List ℕ) (j : ℕ) (o : On s j) where
  pub has_low : j < 64 → 2 ^ j ≤ get_or s 0 0
  has_low l = has_power (get_or s 0 0) j ((on_low s j l).1 o)

  pub has_mid : 64 ≤ j → j < 128 → 2 ^ (j - 64) ≤ get_or s 1 0
  has_mid g l = has_power (get_or s 1 0) (j - 64) ((on_mid s j g l).1 o)

  pub has_high : 128 ≤ j → 2 ^ (j - 128) ≤ get_or s 2 0
  has_high g = has_power (get_or s 2 0) (j - 128) ((on_high s j g (on_below s j o)).1 o)

  pub without_low : j < 64 → ((k : ℕ) → On s k ↔ (On ((get_or s 0 0 - 2 ^ j) ∷ get_or s 1 0 ∷ get_or s 2 0 ∷ []) k ⊎ (k ≡ j))) × (get_or s 0 0 - 2 ^ j + get_or s 1 0 + get_or s 2 0 < weight s)
  without_low l =
      let b : bit (get_or s 0 0) j ≡ 1 = (on_low s j l).1 o in (
        λ k. in_first (differing (get_or s 0 0) (get_or s 0 0 - 2 ^ j) 0 j k (omega arith) (omega arith) (from_zero (get_or s 0 0) (get_or s 0 0 - 2 ^ j) j (lessened (get_or s 0 0) j b))),
        omega (arith, less (get_or s 0 0) j b),
      )

  pub without_mid : 64 ≤ j → j < 128 → ((k : ℕ) → On s k ↔ (On (get_or s 0 0 ∷ (get_or s 1 0 - 2 ^ (j - 64)) ∷ get_or s 2 0 ∷ []) k ⊎ (k ≡ j)))
      × (get_or s 0 0 + (get_or s 1 0 - 2 ^ (j - 64)) + get_or s 2 0 < weight s)
  without_mid g l =
      let b : bit (get_or s 1 0) (j - 64) ≡ 1 = (on_mid s j g l).1 o in (
        λ k. in_second (differing (get_or s 1 0) (get_or s 1 0 - 2 ^ (j - 64)) 64 j k g (omega arith) (lessened (get_or s 1 0) (j - 64) b)),
        omega (arith, less (get_or s 1 0) (j - 64) b),
      )

  pub without_high : 128 ≤ j → ((k : ℕ) → On s k ↔ (On (get_or s 0 0 ∷ get_or s 1 0 ∷ (get_or s 2 0 - 2 ^ (j - 128)) ∷ []) k ⊎ (k ≡ j))) × (get_or s 0 0 + get_or s 1 0 + (get_or s 2 0 - 2 ^ (j - 128)) < weight s)
  without_high g =
      let l : j < 192 = on_below s j o in
      let b : bit (get_or s 2 0) (j - 128) ≡ 1 = (on_high s j g l).1 o in (
        λ k. in_third (differing (get_or s 2 0) (get_or s 2 0 - 2 ^ (j - 128)) 128 j k g (omega arith) (lessened (get_or s 2 0) (j - 128) b)),
        omega (arith, less (get_or s 2 0) (j - 128) b),
      )

-- two sets in one
in_either : (m n b j : ℕ) → In (bit_or m n) b j ↔ (In m b j ⊎ In n b j)
in_either m n b j = (
  λ x. ⊎_elim (λ (y : bit m (j - b) ≡ 1). inl (x.0, x.1, y)) (λ (y : bit n (j - b) ≡ 1). inr (x.0, x.1, y)) ((either m n (j - b)).0 x.2),
  λ x. ⊎_elim (λ (y : In m b j). (y.0, y.1, (either m n (j - b)).1 (inl y.2))) (λ (y : In n b j). (y.0, y.1, (either m n (j - b)).1 (inr y.2))) x,
)

three : {X Y Z A B C D E F : Type 0} → X ↔ (A ⊎ D) → Y ↔ (B ⊎ E) → Z ↔ (C ⊎ F) → (X ⊎ (Y ⊎ Z)) ↔ ((A ⊎ (B ⊎ C)) ⊎ (D ⊎ (E ⊎ F)))
three {X} {Y} {Z} {A} {B} {C} {D} {E} {F} f g h = (
  λ u. ⊎_elim (λ (x : X). ⊎_elim (λ (a : A). inl (inl a)) (λ (d : D). inr (inl d)) (f.0 x))
      (λ (v : Y ⊎ Z). ⊎_elim (λ (y : Y). ⊎_elim (λ (b : B). inl (inr (inl b))) (λ (e : E). inr (inr (inl e))) (g.0 y))
      (λ (z : Z). ⊎_elim (λ (c : C). inl (inr (inr c))) (λ (q : F). inr (inr (inr q))) (h.0 z)) v) u,
  λ u. ⊎_elim
      (λ (v : A ⊎ (B ⊎ C)). ⊎_elim (λ (a : A). inl (f.1 (inl a))) (λ (w : B ⊎ C). ⊎_elim (λ (b : B). inr (inl (g.1 (inl b)))) (λ (c : C). inr (inr (h.1 (inl c)))) w) v)
      (λ (v : D ⊎ (E ⊎ F)). ⊎_elim (λ (d : D). inl (f.1 (inr d))) (λ (w : E ⊎ F). ⊎_elim (λ (e : E). inr (inl (g.1 (inr e)))) (λ (q : F). inr (inr (h.1 (inr q)))) w) v)
      u,
)

pub on_union : (s t : List ℕ) (j : ℕ) → On (bit_or (get_or s 0 0) (get_or t 0 0) ∷ bit_or (get_or s 1 0) (get_or t 1 0) ∷ bit_or (get_or s 2 0) (get_or t 2 0) ∷ []) j ↔ (On s j ⊎ On t j)
on_union s t j = three (in_either (get_or s 0 0) (get_or t 0 0) 0 j) (in_either (get_or s 1 0) (get_or t 1 0) 64 j) (in_either (get_or s 2 0) (get_or t 2 0) 128 j)

-- no place, and place 0 alone
abbrev pub none : List ℕ
none = 0 ∷ 0 ∷ 0 ∷ []

pub none_on : (j : ℕ) → On none j → ⊥
none_on j h = ⊎_elim (λ (x : In 0 0 j). no_bits (j - 0) x.2) (λ y. ⊎_elim (λ (x : In 0 64 j). no_bits (j - 64) x.2) (λ (x : In 0 128 j). no_bits (j - 128) x.2) y) h

abbrev pub origin : List ℕ
origin = bit_or 0 1 ∷ 0 ∷ 0 ∷ []

pub origin_with : (k : ℕ) → On origin k ↔ (On none k ⊎ (k ≡ 0))
origin_with k = with_low none 0 k (omega arith)

pub origin_on : (j : ℕ) → On origin j ↔ (j ≡ 0)
origin_on j = (λ h. ⊎_elim (λ (x : On none j). absurd (none_on j x)) (λ (x : j ≡ 0). x) ((origin_with j).0 h), λ e. (origin_with j).1 (inr e))

-- a first place of a word, and of the set
found : (m : ℕ) → count_trailing_zeros 64 m < 64 → bit m (count_trailing_zeros 64 m) ≡ 1
found m l = ⊎_elim (λ x. x.1) (λ x. absurd (omega (arith, x.0))) (trailing 64 m)

empty_bit : (m : ℕ) → 64 ≤ count_trailing_zeros 64 m → (i : ℕ) → i < 64 → bit m i ≡ 1 → ⊥
empty_bit m n i l h = ⊎_elim (λ x. omega (arith, x.0)) (λ x. let e : bit m i ≡ 0 = x.1 i l in omega (arith, h)) (trailing 64 m)

-- which word and which of its bits tell of a place
pub on_at : (s : List ℕ) (j : ℕ) → j < 192 → (bit (get_or s (j / 64) 0) (j % 64) ≡ 1) ↔ On s j
on_at s j l = ⊎_elim
    (λ (x : j < 64). let d : j / 64 ≡ 0 = omega arith in let m : j % 64 ≡ j = omega arith in rw (d, m) (on_low s j x))
    (λ (x : 64 ≤ j). ⊎_elim
    (λ (y : j < 128). let d : j / 64 ≡ 1 = omega arith in let m : j % 64 ≡ j - 64 = omega arith in rw (d, m) (on_mid s j x y))
    (λ (y : 128 ≤ j). let d : j / 64 ≡ 2 = omega arith in let m : j % 64 ≡ j - 128 = omega arith in rw (d, m) (on_high s j y l))
    (lt_or_ge j 128))
    (lt_or_ge j 64)

-- a place of the set, if it has one
abbrev pub Member : List ℕ → Option ℕ → Type 0
Member s (Some j) = On s j
Member s None = (j : ℕ) → On s j → ⊥

-- the words below the k-th have no place
module _ (s : List ℕ) (k : ℕ) (below : (j : ℕ) → On s j → 64 * k ≤ j) where
  pub member_here : k < 3 → count_trailing_zeros 64 (get_or s k 0) < 64 → On s (64 * k + count_trailing_zeros 64 (get_or s k 0))
  member_here l h =
      let r : ℕ = count_trailing_zeros 64 (get_or s k 0) in
      let d : (64 * k + r) / 64 ≡ k = omega arith in
      let m : (64 * k + r) % 64 ≡ r = omega arith in
      (on_at s (64 * k + r) (omega arith)).0 (rw (d, m) (found (get_or s k 0) h))

  pub member_behind : 64 ≤ count_trailing_zeros 64 (get_or s k 0) → (j : ℕ) → On s j → 64 * (k + 1) ≤ j
  member_behind h j o = ⊎_elim
      (λ (x : j < 64 * (k + 1)).
      let g : 64 * k ≤ j = below j o in
      let d : j / 64 ≡ k = omega arith in
      let b : bit (get_or s k 0) (j % 64) ≡ 1 = rw d at ((on_at s j (on_below s j o)).1 o) in
      let m : j % 64 < 64 = omega arith in
      absurd (empty_bit (get_or s k 0) h (j % 64) m b))
      (λ (x : 64 * (k + 1) ≤ j). x)
      (lt_or_ge j (64 * (k + 1)))

pub member_none : (s : List ℕ) → ((j : ℕ) → On s j → 64 * 3 ≤ j) → (j : ℕ) → On s j → ⊥
member_none s below j o = let g : 192 ≤ j = below j o in let l : j < 192 = on_below s j o in omega arith

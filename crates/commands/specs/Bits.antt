-- The bits of a word: of one with another, of one more and one less, and the first that is set. Assumes nothing.
use Rattle.std.specs.Prelude.{◌≡◌, refl, ◌⊎◌, ◌↔◌, ℕ, zero, suc, ◌+◌, ◌*◌, ◌-◌, ◌/◌, ◌%◌, ◌^◌, ◌≤◌, ◌<◌, max}
use Rattle.std.proofs.Common.{sym, ap, ◌∙◌, inl, inr, ⊎_elim, pow-suc, mul-le-mul_left, mul_comm, div-one, zero-add, mod-lt, not-suc-le-zero, arith, lit<}
use Rattle.std.proofs.Math.Nat.{div-div-eq-div-mul, div-add-mod, zero-div}
use Rattle.std.specs.Int.Bits.{bit_or, or_step}
use Rattle.std.proofs.lemmas.Nat.{or_shr}
use Rattle.std.specs.Int.Count.{count_trailing_zeros, under}
use Rattle.bits.specs.Bits.{bit, positive, added_below, up_one, added_same, added_above}
use Rattle.scpi.specs.Answers.{lt_or_ge}

-- one or the other, or the same
data Order (j i : ℕ) : Type 0 where
  o_less : j < i → Order j i
  o_same : j ≡ i → Order j i
  o_more : i < j → Order j i

order : (j i : ℕ) → Order j i
order j i = ⊎_elim (λ (l : j < i). o_less l) (λ (l : i ≤ j). ⊎_elim (λ (m : i < j). o_more m) (λ (m : j ≤ i). o_same (omega arith)) (lt_or_ge i j)) (lt_or_ge j i)

-- one more
pub added : (m i : ℕ) → bit m i ≡ 0 → (j : ℕ) → (bit (m + 2 ^ i) j ≡ 1) ↔ ((bit m j ≡ 1) ⊎ (j ≡ i))
added m i e j = go (order j i)
  where
    go : Order j i → (bit (m + 2 ^ i) j ≡ 1) ↔ ((bit m j ≡ 1) ⊎ (j ≡ i))
    go (o_less l) = let a : bit (m + 2 ^ i) j ≡ bit m j = added_below m j i l in (λ x. inl (sym a ∙ x), λ x. ⊎_elim (λ (y : bit m j ≡ 1). a ∙ y) (λ (y : j ≡ i). absurd (omega arith)) x)
    go (o_same s) = (λ x. inr s, λ x. ap (λ (k : ℕ). bit (m + 2 ^ i) k) s ∙ added_same m i e)
    go (o_more l) = let a : bit (m + 2 ^ i) j ≡ bit m j = added_above m i j e l in (λ x. inl (sym a ∙ x), λ x. ⊎_elim (λ (y : bit m j ≡ 1). a ∙ y) (λ (y : j ≡ i). absurd (omega arith)) x)

-- one less
module _ (m i : ℕ) (e : bit m i ≡ 1) where
  pub has_power : 2 ^ i ≤ m
  has_power =
      let q : ℕ = m / 2 ^ i in
      let d : 2 ^ i * q + m % 2 ^ i ≡ m = div-add-mod m (2 ^ i) in
      let l : 1 ≤ q = omega arith in
      let n : 2 ^ i * 1 ≤ 2 ^ i * q = mul-le-mul_left (2 ^ i) l in
      omega arith

  joined : (m - 2 ^ i) + 2 ^ i ≡ m
  joined = omega (arith, has_power)

  was_set : bit (m - 2 ^ i) i ≡ 0
  was_set =
      let p : ((m - 2 ^ i) + 2 ^ i) / 2 ^ i ≡ (m - 2 ^ i) / 2 ^ i + 1 = up_one (m - 2 ^ i) i in
      let q : m / 2 ^ i ≡ (m - 2 ^ i) / 2 ^ i + 1 = ap (λ (x : ℕ). x / 2 ^ i) (sym joined) ∙ p in
      omega arith

  pub lessened : (j : ℕ) → (bit m j ≡ 1) ↔ ((bit (m - 2 ^ i) j ≡ 1) ⊎ (j ≡ i))
  lessened j = rw joined at (added (m - 2 ^ i) i was_set j)

  pub less : m - 2 ^ i < m
  less = omega (arith, has_power, positive i)

-- one with another
max_odd : (n x y : ℕ) → x < 2 → y < 2 → ((n * 2 + max x y) % 2 ≡ 1) ↔ ((x ≡ 1) ⊎ (y ≡ 1))
max_odd n zero zero h k = (λ e. absurd (omega arith), λ z. ⊎_elim (λ (q : ◌≡◌ {A = ℕ} 0 1). absurd (omega arith)) (λ (q : ◌≡◌ {A = ℕ} 0 1). absurd (omega arith)) z)
max_odd n zero (suc zero) h k = (λ e. inr refl, λ z. omega arith)
max_odd n (suc zero) zero h k = (λ e. inl refl, λ z. omega arith)
max_odd n (suc zero) (suc zero) h k = (λ e. inl refl, λ z. omega arith)
max_odd n (suc (suc x)) y h k = absurd (omega arith)
max_odd n zero (suc (suc y)) h k = absurd (omega arith)
max_odd n (suc zero) (suc (suc y)) h k = absurd (omega arith)

pub either : (a b i : ℕ) → (bit (bit_or a b) i ≡ 1) ↔ ((bit a i ≡ 1) ⊎ (bit b i ≡ 1))
either a b i =
    let x : ℕ = a / 2 ^ i in
    let y : ℕ = b / 2 ^ i in
    let e : bit (bit_or a b) i ≡ (bit_or (x / 2) (y / 2) * 2 + max (x % 2) (y % 2)) % 2 = ap (λ (z : ℕ). z % 2) (or_shr a b i ∙ or_step x y) in
    let f = max_odd (bit_or (x / 2) (y / 2)) (x % 2) (y % 2) (mod-lt x (lit< tt)) (mod-lt y (lit< tt)) in
    (λ h. f.0 (sym e ∙ h), λ h. e ∙ f.1 h)

no_bit : (i : ℕ) → bit 0 i ≡ 0
no_bit i = ap (λ (x : ℕ). x % 2) (zero-div (2 ^ i))

pub no_bits : (i : ℕ) → bit 0 i ≡ 1 → ⊥
no_bits i e = omega (arith, no_bit i)

pub power_bit : (i j : ℕ) → (bit (2 ^ i) j ≡ 1) ↔ (j ≡ i)
power_bit i j = let f = added 0 i (no_bit i) j in (
  λ h. ⊎_elim (λ (x : bit 0 j ≡ 1). absurd (no_bits j x)) (λ (x : j ≡ i). x)
      (f.0 (ap (λ (m : ℕ). bit m j) (zero-add (2 ^ i)) ∙ h)),
  λ h. sym (ap (λ (m : ℕ). bit m j) (zero-add (2 ^ i))) ∙ f.1 (inr h),
)

-- the first that is set
bit_half : (m j : ℕ) → bit m (suc j) ≡ bit (m / 2) j
bit_half m j = ap (λ (x : ℕ). x % 2) (ap (λ (x : ℕ). m / x) (pow-suc 2 j ∙ mul_comm (2 ^ j) 2) ∙ sym (div-div-eq-div-mul m 2 (2 ^ j)))

bit_first : (m : ℕ) → bit m 0 ≡ m % 2
bit_first m = ap (λ (x : ℕ). x % 2) (div-one m)

pub trailing : (k m : ℕ) → ((count_trailing_zeros k m < k) × (bit m (count_trailing_zeros k m) ≡ 1)) ⊎ ((count_trailing_zeros k m ≡ k) × ((j : ℕ) → j < k → bit m j ≡ 0))
unfolding count_trailing_zeros
trailing zero m = inr (refl, λ j l. absurd (not-suc-le-zero l))
trailing (suc k) m = go (m % 2) refl (trailing k (m / 2))
  where
    low : (j : ℕ) → m % 2 ≡ 0 → ((i : ℕ) → i < k → bit (m / 2) i ≡ 0) → j < suc k → bit m j ≡ 0
    low zero e h l = bit_first m ∙ e
    low (suc j) e h l = bit_half m j ∙ h j (omega arith)

    go : (d : ℕ) → m % 2 ≡ d → ((count_trailing_zeros k (m / 2) < k) × (bit (m / 2) (count_trailing_zeros k (m / 2)) ≡ 1)) ⊎ ((count_trailing_zeros k (m / 2) ≡ k) × ((j : ℕ) → j < k → bit (m / 2) j ≡ 0))
        → ((under d (count_trailing_zeros k (m / 2)) < suc k) × (bit m (under d (count_trailing_zeros k (m / 2))) ≡ 1)) ⊎ ((under d (count_trailing_zeros k (m / 2)) ≡ suc k) × ((j : ℕ) → j < suc k → bit m j ≡ 0))
    go zero e (inl h) = inl (omega (arith, h.0), bit_half m (count_trailing_zeros k (m / 2)) ∙ h.1)
    go zero e (inr h) = inr (ap suc h.0, λ j l. low j e h.1 l)
    go (suc d) e h = inl (omega arith, bit_first m ∙ (let l : m % 2 < 2 = mod-lt m (lit< tt) in omega arith))

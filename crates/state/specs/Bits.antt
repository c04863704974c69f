-- A set of small numbers kept as the bits of one word: taking one out, putting one in, and whether it is empty. Assumes nothing.
use Rattle.std.specs.Prelude.{◌≡◌, refl, ◌⊎◌}
use Rattle.std.proofs.Common.{sym, ap, ap₂, ◌∙◌, subst, inl, inr, ⊎_elim, mod-eq_of_lt, mod-lt, lit<}
use Prim.Native.Nat.{ℕ, zero, suc, ◌+◌, ◌*◌, ◌-◌, ◌/◌, ◌%◌, ◌^◌, ◌≤◌, ◌<◌, max}
use Rattle.std.proofs.Math.Nat.{pow-succ', add-mul-div_left, div-div-eq-div-mul, div-add-mod, mul-div_cancel_left, mul-le-mul_left, max-zero, add-mul-mod_self_left}
use native.Mathlib.Omega.{arith}
use Rattle.std.proofs.Math.Arith.{mod-mul}
use Rattle.std.specs.Int.Bits.{bit_or, or_step, or_zero_r}
use Rattle.bits.specs.Bits.{bit, positive, power, added_below, up_one, added_same, added_above}
use Rattle.state.specs.Table.{apart, below}

-- m without i; the members below n, and i
unfoldable pub without : ℕ → ℕ → ℕ
without m i = m - bit m i * 2 ^ i

unfoldable pub with_bit : ℕ → ℕ → ℕ → ℕ
with_bit n m i = without m i % 2 ^ n + 2 ^ i

added_other : (m i j : ℕ) → bit m i ≡ 0 → (j ≡ i → ⊥) → bit (m + 2 ^ i) j ≡ bit m j
added_other m i j e o = ⊎_elim (λ (l : j < i). added_below m j i l) (λ (l : i < j). added_above m i j e l) (apart j i o)

-- a bit is 0 or 1
zero_or_one : (m i : ℕ) → (bit m i ≡ 0) ⊎ (bit m i ≡ 1)
zero_or_one m i = by (m / 2 ^ i % 2) (omega arith)
  where
    by : (x : ℕ) → x < 2 → (x ≡ 0) ⊎ (x ≡ 1)
    by zero h = inl refl
    by (suc zero) h = inr refl
    by (suc (suc x)) h = absurd (omega arith)

module _ (m i : ℕ) where
  pub stays : bit m i ≡ 0 → without m i ≡ m
  unfolding without
  stays e = rw e (omega arith)

  -- with bit i set, m is m without i and 2^i
  pub joined : bit m i ≡ 1 → without m i + 2 ^ i ≡ m
  unfolding without
  joined e =
      let q : ℕ = m / 2 ^ i in
      let d : 2 ^ i * q + m % 2 ^ i ≡ m = div-add-mod m (2 ^ i) in
      let l : 1 ≤ q = omega arith in
      let n : 2 ^ i * 1 ≤ 2 ^ i * q = mul-le-mul_left (2 ^ i) l in
      rw e (omega arith)

  was_set : bit m i ≡ 1 → bit (without m i) i ≡ 0
  was_set e =
      let p : (without m i + 2 ^ i) / 2 ^ i ≡ without m i / 2 ^ i + 1 = up_one (without m i) i in
      let q : m / 2 ^ i ≡ without m i / 2 ^ i + 1 = ap (λ (x : ℕ). x / 2 ^ i) (sym (joined e)) ∙ p in
      omega arith

  pub without_same : bit (without m i) i ≡ 0
  without_same = ⊎_elim (λ (e : bit m i ≡ 0). ap (λ (x : ℕ). bit x i) (stays e) ∙ e) was_set (zero_or_one m i)

  pub without_other : (j : ℕ) → (j ≡ i → ⊥) → bit (without m i) j ≡ bit m j
  without_other j o =
      ⊎_elim
      (λ (e : bit m i ≡ 0). ap (λ (x : ℕ). bit x j) (stays e))
      (λ (e : bit m i ≡ 1). sym (added_other (without m i) i j (was_set e) o) ∙ ap (λ (x : ℕ). bit x j) (joined e))
      (zero_or_one m i)

-- the members below n
below_bit : (m n j : ℕ) → j < n → bit (m % 2 ^ n) j ≡ bit m j
below_bit m n j h =
    let t : ℕ = 2 ^ (n - suc j) in
    let c : ℕ = m / 2 ^ n in
    let r : ℕ = m % 2 ^ n in
    let d : 2 ^ n * c + r ≡ m = div-add-mod m (2 ^ n) in
    let f : m ≡ r + 2 ^ j * (2 * (t * c)) = sym d ∙ rw (power j n h) (omega arith) in
    let q : (r + 2 ^ j * (2 * (t * c))) / 2 ^ j ≡ r / 2 ^ j + 2 * (t * c) = add-mul-div_left r (2 * (t * c)) (positive j) in
    let e : bit m j ≡ (r / 2 ^ j + 2 * (t * c)) % 2 = ap (λ (x : ℕ). x / 2 ^ j % 2) f ∙ ap (λ (x : ℕ). x % 2) q in
    sym (e ∙ omega arith)

module _ (n m i : ℕ) (h : i < n) where
  gone : bit (without m i % 2 ^ n) i ≡ 0
  gone = below_bit (without m i) n i h ∙ without_same m i

  pub with_same : bit (with_bit n m i) i ≡ 1
  unfolding with_bit
  with_same = added_same (without m i % 2 ^ n) i gone

  pub with_other : (j : ℕ) → j < n → (j ≡ i → ⊥) → bit (with_bit n m i) j ≡ bit m j
  unfolding with_bit
  with_other j l o = added_other (without m i % 2 ^ n) i j gone o ∙ below_bit (without m i) n j l ∙ without_other m i j o

-- a set of members below n stays one with one more, and is not empty
pub with_small : (n m i : ℕ) → i < n → m < 2 ^ n → with_bit n m i < 2 ^ n
unfolding with_bit
with_small n m i h l = ⊎_elim unset set (zero_or_one m i)
  where
    unset : bit m i ≡ 0 → without m i % 2 ^ n + 2 ^ i < 2 ^ n
    unset e =
        let t : ℕ = 2 ^ (n - suc i) in
        let q : ℕ = m / 2 ^ i in
        let p : 2 ^ n ≡ 2 ^ i * (2 * t) = power i n h in
        let d : 2 ^ i * q + m % 2 ^ i ≡ m = div-add-mod m (2 ^ i) in
        let r : m % 2 ^ i < 2 ^ i = mod-lt m (positive i) in
        let few : q < 2 * t = ⊎_elim (λ (x : q < 2 * t). x) (λ (x : 2 * t ≤ q). let y : 2 ^ i * (2 * t) ≤ 2 ^ i * q = mul-le-mul_left (2 ^ i) x in absurd (omega arith)) (below q (2 * t)) in
        let even : q + 2 ≤ 2 * t = omega arith in
        let y : 2 ^ i * (q + 2) ≤ 2 ^ i * (2 * t) = mul-le-mul_left (2 ^ i) even in
        let s : without m i ≡ m = stays m i e in
        rw (s, mod-eq_of_lt l) (omega arith)

    set : bit m i ≡ 1 → without m i % 2 ^ n + 2 ^ i < 2 ^ n
    set e =
        let j : without m i + 2 ^ i ≡ m = joined m i e in
        let k : without m i < 2 ^ n = omega arith in
        rw (mod-eq_of_lt k) (omega arith)

pub with_some : (n m i : ℕ) → with_bit n m i ≡ 0 → ⊥
unfolding with_bit
with_some n m i e = let p : 0 < 2 ^ i = positive i in omega arith

-- an empty set: no bit below n
pub empty_bits : (m n j : ℕ) → m % 2 ^ n ≡ 0 → j < n → bit m j ≡ 0
empty_bits m n j e h =
    let t : ℕ = 2 ^ (n - suc j) in
    let c : ℕ = m / 2 ^ n in
    let d : 2 ^ n * c + m % 2 ^ n ≡ m = div-add-mod m (2 ^ n) in
    let f : m ≡ 2 ^ j * (2 * t * c) = sym d ∙ rw (e, power j n h) (omega arith) in
    ap (λ (x : ℕ). x / 2 ^ j % 2) f ∙ ap (λ (x : ℕ). x % 2) (mul-div_cancel_left (2 * t * c) (positive j)) ∙ omega arith

-- the machine's `or` with 2^i: where bit i is 0 it is added, else nothing changes
largest : (x : ℕ) → x < 2 → max x 1 ≡ 1
largest zero h = refl
largest (suc zero) h = refl
largest (suc (suc x)) h = absurd (omega arith)

or_power : (i m : ℕ) → (bit m i ≡ 0 → bit_or m (2 ^ i) ≡ m + 2 ^ i) × (bit m i ≡ 1 → bit_or m (2 ^ i) ≡ m)
or_power zero m =
    let l : m / 1 ≡ m = omega arith in
    let o : bit_or m 1 ≡ m / 2 * 2 + 1 = or_step m 1 ∙ ap₂ (λ (x y : ℕ). x * 2 + y) (or_zero_r (m / 2)) (largest (m % 2) (omega arith)) in
    (λ e. let r : m % 2 ≡ 0 = ap (λ (x : ℕ). x % 2) (sym l) ∙ e in o ∙ omega arith, λ e. let r : m % 2 ≡ 1 = ap (λ (x : ℕ). x % 2) (sym l) ∙ e in o ∙ omega arith)
or_power (suc k) m =
    let q : 2 ^ suc k ≡ 2 * 2 ^ k = pow-succ' 2 k in
    let h : 2 ^ suc k / 2 ≡ 2 ^ k = omega arith in
    let z : 2 ^ suc k % 2 ≡ 0 = omega arith in
    let b : bit (m / 2) k ≡ bit m (suc k) = ap (λ (x : ℕ). x % 2) (div-div-eq-div-mul m 2 (2 ^ k) ∙ ap (λ (y : ℕ). m / y) (sym q)) in
    let o : bit_or m (2 ^ suc k) ≡ bit_or (m / 2) (2 ^ k) * 2 + m % 2 =
    or_step m (2 ^ suc k) ∙ ap₂ (λ (x y : ℕ). bit_or (m / 2) x * 2 + max (m % 2) y) h z ∙ ap (λ (x : ℕ). bit_or (m / 2) (2 ^ k) * 2 + x) (max-zero (m % 2)) in (
      λ e. o ∙ ap (λ (x : ℕ). x * 2 + m % 2) ((or_power k (m / 2)).0 (b ∙ e)) ∙ omega arith,
      λ e. o ∙ ap (λ (x : ℕ). x * 2 + m % 2) ((or_power k (m / 2)).1 (b ∙ e)) ∙ omega arith,
    )

pub or_joins : (m i : ℕ) → bit_or m (2 ^ i) ≡ without m i + 2 ^ i
or_joins m i =
    ⊎_elim
    (λ (e : bit m i ≡ 0). (or_power i m).0 e ∙ ap (λ (x : ℕ). x + 2 ^ i) (sym (stays m i e)))
    (λ (e : bit m i ≡ 1). (or_power i m).1 e ∙ sym (joined m i e))
    (zero_or_one m i)

-- the same in code: the bit is set, and what lies past n falls away
pub or_with : (n m i : ℕ) → i < n → bit_or m (2 ^ i) % 2 ^ n ≡ with_bit n m i
unfolding with_bit
or_with n m i h =
    let u : ℕ = without m i in
    let r : ℕ = u % 2 ^ n in
    let few : r < 2 ^ n = mod-lt u (positive n) in
    let f : with_bit n r i ≡ r + 2 ^ i = ap (λ (x : ℕ). x % 2 ^ n + 2 ^ i) (stays r i (gone n m i h)) ∙ ap (λ (x : ℕ). x + 2 ^ i) (mod-eq_of_lt few) in
    let l : r + 2 ^ i < 2 ^ n = subst (λ (x : ℕ). x < 2 ^ n) f (with_small n r i h few) in
    let d : 2 ^ n * (u / 2 ^ n) + r ≡ u = div-add-mod u (2 ^ n) in
    let e : u + 2 ^ i ≡ (r + 2 ^ i) + 2 ^ n * (u / 2 ^ n) = omega arith in
    ap (λ (x : ℕ). x % 2 ^ n) (or_joins m i ∙ e) ∙ add-mul-mod_self_left (r + 2 ^ i) (2 ^ n) (u / 2 ^ n) ∙ mod-eq_of_lt l

-- with a first member
pub with_first : (n m i : ℕ) → i < n → m % 2 ^ n ≡ 0 → with_bit n m i ≡ 2 ^ i
unfolding with_bit
with_first n m i h e = ap (λ (x : ℕ). x % 2 ^ n + 2 ^ i) (stays m i (empty_bits m n i e h)) ∙ rw e (omega arith)

-- a set that is not empty has a member below n
pub record Member (m n : ℕ) : Type 0 where
  pub place : ℕ
  pub below : place < n
  pub is_set_lem : bit m place ≡ 1

pub low_bits : (m n : ℕ) → m % 2 ^ suc n ≡ bit m n * 2 ^ n + m % 2 ^ n
low_bits m n = ap (λ (x : ℕ). m % x) (pow-succ' 2 n) ∙ mod-mul m (lit< tt) (positive n)

pub member : (m n : ℕ) → (m % 2 ^ n ≡ 0 → ⊥) → Member m n
member m zero h = absurd (h (omega arith))
member m (suc n) h =
    ⊎_elim
    (λ (e : bit m n ≡ 0).
    let r = member m n (λ (z : m % 2 ^ n ≡ 0). h (low_bits m n ∙ rw (e, z) (omega arith))) in
    record { place = r.place; below = omega arith; is_set_lem = r.is_set_lem })
    (λ (e : bit m n ≡ 1). record { place = n; below = omega arith; is_set_lem = e })
    (zero_or_one m n)

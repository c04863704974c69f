-- The bits of a word, and what adding a power of two does to them. Assumes nothing.
use Rattle.std.specs.Prelude.{◌≡◌, ℕ, suc, ◌+◌, ◌*◌, ◌-◌, ◌/◌, ◌%◌, ◌^◌, ◌<◌}
use Rattle.std.proofs.Common.{sym, ap, ◌∙◌, pow-suc, mul-one, arith, lit<, pow-add}
use Rattle.std.proofs.Math.Nat.{one-le-pow, add-mul-div_left, div-div-eq-div-mul}

abbrev pub bit : ℕ → ℕ → ℕ
bit m i = m / 2 ^ i % 2

pub positive : (i : ℕ) → 0 < 2 ^ i
positive i = one-le-pow i 2 (lit< tt)

-- a larger power is the smaller one, doubled, and some more
pub power : (j i : ℕ) → j < i → 2 ^ i ≡ 2 ^ j * (2 * 2 ^ (i - suc j))
power j i h =
    let e : i ≡ j + suc (i - suc j) = omega arith in
    ap (λ (n : ℕ). 2 ^ n) e ∙ rw (pow-add, pow-suc) (ap (λ (x : ℕ). 2 ^ j * x) (omega arith))

-- adding 2^i where bit i is 0: bits below and above stay
pub added_below : (m j i : ℕ) → j < i → bit (m + 2 ^ i) j ≡ bit m j
added_below m j i h =
    let t : ℕ = 2 ^ (i - suc j) in
    let d : (m + 2 ^ j * (2 * t)) / 2 ^ j ≡ m / 2 ^ j + 2 * t = add-mul-div_left m (2 * t) (positive j) in
    ap (λ (x : ℕ). (m + x) / 2 ^ j % 2) (power j i h) ∙ ap (λ (x : ℕ). x % 2) d ∙ omega arith

pub up_one : (m i : ℕ) → (m + 2 ^ i) / 2 ^ i ≡ m / 2 ^ i + 1
up_one m i = ap (λ (x : ℕ). (m + x) / 2 ^ i) (sym (mul-one (2 ^ i))) ∙ add-mul-div_left m 1 (positive i)

pub added_same : (m i : ℕ) → bit m i ≡ 0 → bit (m + 2 ^ i) i ≡ 1
added_same m i e = ap (λ (x : ℕ). x % 2) (up_one m i) ∙ omega arith

pub halves : (x i j : ℕ) → i < j → x / 2 ^ j ≡ x / 2 ^ i / 2 / 2 ^ (j - suc i)
halves x i j h =
    ap (λ (y : ℕ). x / y) (power i j h)
    ∙ sym (div-div-eq-div-mul x (2 ^ i) (2 * 2 ^ (j - suc i)))
    ∙ sym (div-div-eq-div-mul (x / 2 ^ i) 2 (2 ^ (j - suc i)))

pub added_above : (m i j : ℕ) → bit m i ≡ 0 → i < j → bit (m + 2 ^ i) j ≡ bit m j
added_above m i j e h =
    let q : ℕ = m / 2 ^ i in
    let s : (q + 1) / 2 ≡ q / 2 = omega arith in
    ap (λ (x : ℕ). x % 2)
    (halves (m + 2 ^ i) i j h
    ∙ ap (λ (x : ℕ). x / 2 / 2 ^ (j - suc i)) (up_one m i)
    ∙ ap (λ (x : ℕ). x / 2 ^ (j - suc i)) s
    ∙ sym (halves m i j h))

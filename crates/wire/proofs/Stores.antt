-- Two forms of reading and writing a number, and the number law at them, once for every width: reading in one expression, and storing
-- lowest byte first what was turned round, as `number::put` does it. Assumes nothing.
use Rattle.std.specs.Prelude.{◌≡◌, ℕ, zero, suc, ◌+◌, ◌*◌, ◌/◌, ◌%◌, ◌^◌, ◌<◌, ◌≤◌, List, [], ◌∷◌, length, take, drop, slice_index, slice_index_or, refl}
use Rattle.std.proofs.Common.{ap, sym, ◌∙◌, add-one, arith, drop-cons}
use Rattle.std.proofs.Math.Nat.{pow-succ', div-div-eq-div-mul}
use Rattle.wire.specs.Field.{field, low_first, number_on, number_at}
use Rattle.wire.proofs.Numbers.{left_more}

-- behind x, the n bytes from at + j on. At a numeral n it computes to one expression
abbrev pub reads : List ℕ → ℕ → ℕ → ℕ → ℕ → ℕ
reads s at j zero x = x
reads s at j (suc n) x = reads s at (j + 1) n (x * 256 + slice_index s (at + j))

reads_on : (s : List ℕ) (at j n x : ℕ) → at + j + n ≤ length s → reads s at j n x ≡ number_on x (take n (drop (at + j) s))
reads_on s at j zero x h = refl
reads_on s at j (suc n) x h =
    let d : drop (at + j) s ≡ slice_index s (at + j) ∷ drop (suc (at + j)) s = drop-cons s (at + j) 0 (omega arith) in
    let f : at + (j + 1) ≡ suc (at + j) = omega arith in
    reads_on s at (j + 1) n (x * 256 + slice_index s (at + j)) (omega arith) ∙ rw (d, f)

-- the first byte, and n more
pub reads_number : (n : ℕ) (s : List ℕ) (at : ℕ) → at + suc n ≤ length s → reads s at 1 n (slice_index s at) ≡ number_at s at (suc n)
reads_number n s at h =
    let d : drop at s ≡ slice_index s at ∷ drop (suc at) s = drop-cons s at 0 (omega arith) in
    let f : at + 1 ≡ suc at = omega arith in
    let z : slice_index_or s at 0 ≡ 0 * 256 + slice_index_or s at 0 = omega arith in
    reads_on s at 1 n (slice_index s at) (omega arith) ∙ rw (d, f) (ap (λ (x : ℕ). number_on x (take n (drop (suc at) s))) z)

-- the n + 1 bytes of x turned round
unfoldable pub swapped : ℕ → ℕ → ℕ
swapped zero x = x / 1 % 256
swapped (suc n) x = x / 256 ^ suc n % 256 + 256 * swapped n x

-- n + 1 bytes of y from byte j on, the lowest first
abbrev pub low : ℕ → ℕ → ℕ → List ℕ
low j zero y = y / 256 ^ j % 256 ∷ []
low j (suc n) y = y / 256 ^ j % 256 ∷ low (j + 1) n y

quotient : (j b s : ℕ) → b < 256 → (b + 256 * s) / 256 ^ (j + 1) ≡ s / 256 ^ j
quotient j b s h = let e : (b + 256 * s) / 256 ≡ s = omega arith in rw (add-one, pow-succ', ← div-div-eq-div-mul, e)

shift : (n j b s : ℕ) → b < 256 → low (j + 1) n (b + 256 * s) ≡ low j n s
shift zero j b s h = ap (λ (q : ℕ). q % 256 ∷ []) (quotient j b s h)
shift (suc n) j b s h = λ k. quotient j b s h k % 256 ∷ shift n (j + 1) b s h k

-- turned round and stored lowest first, a number stands highest first
pub low_swapped : (n x : ℕ) → low 0 n (swapped n x) ≡ field (suc n) x
unfolding swapped field
low_swapped zero x = let e : x / 1 % 256 / 1 % 256 ≡ x / 1 % 256 = omega arith in ap (λ (y : ℕ). y ∷ []) e
low_swapped (suc n) x =
    let q : ℕ = x / 256 ^ suc n in
    let h : q % 256 < 256 = omega arith in
    let e : (q % 256 + 256 * swapped n x) / 1 % 256 ≡ q % 256 = omega arith in
    λ k. e k ∷ (shift n 0 (q % 256) (swapped n x) h ∙ low_swapped n x) k

-- the bytes from byte j on are those of the number without its j lowest
low_is_first : (n j y : ℕ) → low j n y ≡ low_first (suc n) (y / 256 ^ j)
unfolding low_first
low_is_first zero j y = refl
low_is_first (suc n) j y =
    let e : y / 256 ^ (j + 1) ≡ y / 256 ^ j / 256 = sym (left_more j y (y / 256 ^ j) refl) in
    λ k. y / 256 ^ j % 256 ∷ (low_is_first n (j + 1) y ∙ ap (low_first (suc n)) e) k

-- so a number turned round is what `number::turned` promises
pub swapped_turned : (n x : ℕ) → low_first (suc n) (swapped n x) ≡ field (suc n) x
swapped_turned n x =
    let e : swapped n x / 256 ^ 0 ≡ swapped n x = omega arith in
    sym (low_is_first n 0 (swapped n x) ∙ ap (low_first (suc n)) e) ∙ low_swapped n x

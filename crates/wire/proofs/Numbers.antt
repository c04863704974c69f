-- Numbers read and written byte by byte, as the loops of src/number.rt do it, at every width.
use Rattle.std.proofs.Common.{◌≡◌, ℕ, zero, suc, ◌+◌, ◌*◌, ◌-◌, ◌/◌, ◌%◌, ◌^◌, ◌<◌, ◌≤◌, List, [], ◌∷◌, ◌++◌, length, take, drop, slice_index, refl, sym, ap, ◌∙◌, append-nil, length-append, length-take, length-drop, add-one, pow-suc, drop-cons, arith, lit<}
use Rattle.std.proofs.Math.Nat.{div-div-eq-div-mul, pow-le-pow_right}
use Rattle.std.proofs.Math.Seq.{paste}
use Rattle.std.specs.Int.{w64, from_be_bytes}
use Rattle.wire.specs.Field.{field, low_first, number, number_at, Bytes, number_bound}
use Rattle.wire.proofs.Bytes.{take_bytes, drop_bytes}

-- eight bytes are the number that they say
eight : (b : List ℕ) → length b ≡ 8 → from_be_bytes w64 b ≡ number b
eight (b0 ∷ b1 ∷ b2 ∷ b3 ∷ b4 ∷ b5 ∷ b6 ∷ b7 ∷ []) h = omega arith
eight _ h = absurd (omega arith)

abbrev pub zeros : ℕ → List ℕ
zeros zero = []
zeros (suc m) = 0 ∷ zeros m

-- zeros in front say nothing
behind_zeros : (k m : ℕ) (x : List ℕ) → number (take k (zeros m) ++ x) ≡ number x
behind_zeros zero m x = refl
behind_zeros (suc k) zero x = refl
behind_zeros (suc k) (suc m) x = behind_zeros k m x

-- n bytes at the end of eight say what they say alone
pub at_the_end : (s : List ℕ) (at n i : ℕ) (b : List ℕ) → n ≤ 8 → at + n ≤ length s → i ≤ n → n ≤ i
    → b ≡ paste (zeros 8) (8 - n) (drop at s) i → from_be_bytes w64 b ≡ number_at s at n
at_the_end s at n i b w r p q e =
    let x : List ℕ = take n (drop at s) in
    let j : i ≡ n = omega arith in
    let f : 8 - n + n ≡ 8 = omega arith in
    let z : b ≡ take (8 - n) (zeros 8) ++ x = e ∙ rw (j, f) (append-nil (take (8 - n) (zeros 8) ++ x)) in
    let l : length b ≡ 8 = rw z (simp (length-append, length-take, length-drop) (omega arith)) in
    eight b l ∙ ap number z ∙ behind_zeros (8 - n) 8 x

-- one byte more of a number is turned round: y has the n bytes turned so far, x / 256 ^ n is what is left
pub turn_more : (n x y z : ℕ) → z ≡ x / 256 ^ n → low_first n y ≡ field n x → low_first (n + 1) (y * 256 + z % 256) ≡ field (n + 1) x
unfolding low_first field
turn_more n x y z e f =
    let m : (y * 256 + z % 256) % 256 ≡ z % 256 = omega arith in
    let d : (y * 256 + z % 256) / 256 ≡ y = omega arith in
    rw (add-one, m, d, f, e) refl

pub left_more : (n x z : ℕ) → z ≡ x / 256 ^ n → z / 256 ≡ x / 256 ^ (n + 1)
left_more n x z e = rw (e, add-one, pow-suc) (div-div-eq-div-mul x (256 ^ n) 256)

pub below_more : (n y z : ℕ) → y < 256 ^ n → y * 256 + z % 256 < 256 ^ (n + 1)
below_more n y z h = rw (add-one, pow-suc) (omega arith)

-- what is below it fits, in at most eight bytes
pub below_fits : (n y : ℕ) → n < 8 → y < 256 ^ n → y < 256 ^ 7
below_fits n y l h = let p : 256 ^ n ≤ 256 ^ 7 = let k : n ≤ 7 = omega arith in pow-le-pow_right {n = 256} (lit< tt) k in omega (arith, p, h)

-- the bytes that are left of a list: the first of them, and the others
pub byte_is : (l : List ℕ) (n i z : ℕ) → i < n → low_first (n - i) z ≡ drop i l → i < length l → (z % 256 ≡ slice_index l i) × (low_first (n - (i + 1)) (z / 256) ≡ drop (i + 1) l)
unfolding low_first
byte_is l n i z h e r =
    let k : n - i ≡ suc (n - (i + 1)) = omega arith in
    let q : z % 256 ∷ low_first (n - (i + 1)) (z / 256) ≡ slice_index l i ∷ drop (suc i) l = ap (λ (j : ℕ). low_first j z) (sym k) ∙ e ∙ drop-cons l i 0 r in
    let f : i + 1 ≡ suc i = omega arith in
    (ap (λ (x : List ℕ). slice_index x 0) q, ap (drop 1) q ∙ ap (λ (j : ℕ). drop j l) (sym f))

-- what n bytes say is below 256 to the n
pub number_at_lt : (s : List ℕ) (at n : ℕ) → at + n ≤ length s → Bytes s → number_at s at n < 256 ^ n
number_at_lt s at n r b =
    let x : List ℕ = take n (drop at s) in
    let l : length x ≡ n = simp (length-take, length-drop) (omega arith) in
    rw l at (number_bound x (take_bytes n (drop at s) (drop_bytes at s b)))

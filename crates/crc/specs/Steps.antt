-- The laws of the steps: what stands above the bits that go out is only moved, the steps are linear, and so four bytes in a row
-- are 32 steps of the register with all four in it, and eight are twice that. Assumes nothing.
use Rattle.std.specs.Prelude.{◌≡◌, refl, ℕ, zero, suc, ◌+◌, ◌*◌, ◌/◌, ◌%◌, ◌^◌, ◌<◌}
use Rattle.std.proofs.Common.{sym, ap, ap₂, ◌∙◌, ⊎_elim, pow-suc, zero-add, suc-add, add-zero, mul-one, mod-lt, arith, pow_pos}
use Rattle.std.proofs.Math.Arith.{lt-one}
use Rattle.std.specs.Int.Bits.{bit_xor, block_half, block_odd, xor_zero_r, xor_self, xor_shifted}
use Rattle.std.proofs.lemmas.Nat.{xor_block, xor_lt, xor_comm, xor_shr, xor_mod}
use Rattle.std.proofs.Math.Pow.{split}
use Rattle.crc_table.specs.Width.{bit, bit_zero, bit_one}
use Rattle.crc.specs.Crc.{polynomial, bit_step, steps, byte_step}
use Rattle.crc.specs.Xor.{xor_assoc}

half_lt : (n r : ℕ) → r < 2 ^ suc n → r / 2 < 2 ^ n
half_lt n r h = let p : r < 2 ^ n * 2 = rw pow-suc at h in omega arith

-- a step with a 1 going out, on a register in two parts of which the lower has n bits and one
taken : (n y h : ℕ) → h < 2 ^ n
    → bit_xor (y * 2 ^ n + h) polynomial ≡ bit_xor y (polynomial / 2 ^ n) * 2 ^ n + bit_xor h (polynomial % 2 ^ n)
taken n y h l =
    ap (bit_xor (y * 2 ^ n + h)) (sym (split polynomial n))
    ∙ xor_block n y (polynomial / 2 ^ n) h (polynomial % 2 ^ n) l (mod-lt polynomial (pow_pos n))

-- what stands above the n bits that go out is only moved
pub steps_split : (n y r : ℕ) → r < 2 ^ n → steps n (y * 2 ^ n + r) ≡ bit_xor y (steps n r)
unfolding steps
steps_split zero y r h = let z : r ≡ 0 = lt-one h in rw z (add-zero (y * 1) ∙ mul-one y ∙ sym (xor_zero_r y))
steps_split (suc n) y r h =
    let l : r / 2 < 2 ^ n = half_lt n r h in
    ⊎_elim
    (λ (e : r % 2 ≡ 0).
    ap (steps n) (bit_zero (y * 2 ^ suc n + r) (block_odd y n r ∙ e) ∙ block_half y n r)
    ∙ steps_split n y (r / 2) l
    ∙ ap (λ (x : ℕ). bit_xor y (steps n x)) (sym (bit_zero r e)))
    (λ (e : r % 2 ≡ 1).
    let p : ℕ = polynomial / 2 ^ n in
    let z : ℕ = bit_xor (r / 2) (polynomial % 2 ^ n) in
    let b : z < 2 ^ n = xor_lt n (r / 2) (polynomial % 2 ^ n) l (mod-lt polynomial (pow_pos n)) in
    let o : 0 * 2 ^ n + r / 2 ≡ r / 2 = omega arith in
    ap (steps n) (bit_one (y * 2 ^ suc n + r) (block_odd y n r ∙ e) ∙ ap (λ (x : ℕ). bit_xor x polynomial) (block_half y n r) ∙ taken n y (r / 2) l)
    ∙ steps_split n (bit_xor y p) z b
    ∙ xor_assoc y p (steps n z)
    ∙ ap (bit_xor y)
    (sym (ap (steps n) (bit_one r e ∙ ap (λ (x : ℕ). bit_xor x polynomial) (sym o) ∙ taken n 0 (r / 2) l) ∙ steps_split n p z b)))
    (bit r)

-- the steps are linear
swap : (x y z : ℕ) → bit_xor (bit_xor x y) z ≡ bit_xor (bit_xor x z) y
swap x y z = xor_assoc x y z ∙ ap (bit_xor x) (xor_comm y z) ∙ sym (xor_assoc x z y)

twice : (x y p : ℕ) → bit_xor (bit_xor x p) (bit_xor y p) ≡ bit_xor x y
twice x y p =
    xor_assoc x p (bit_xor y p)
    ∙ ap (bit_xor x) (ap (bit_xor p) (xor_comm y p) ∙ sym (xor_assoc p p y) ∙ ap (λ (z : ℕ). bit_xor z y) (xor_self p))

module _ (a b : ℕ) where
  low : (x y z : ℕ) → a % 2 ≡ x → b % 2 ≡ y → bit_xor x y ≡ z → bit_xor a b % 2 ≡ z
  low x y z p q r = xor_mod a b 1 ∙ ap₂ bit_xor p q ∙ r

  bit_xor_lem : bit_step (bit_xor a b) ≡ bit_xor (bit_step a) (bit_step b)
  bit_xor_lem =
      ⊎_elim
      (λ (p : a % 2 ≡ 0).
      ⊎_elim
      (λ (q : b % 2 ≡ 0). bit_zero (bit_xor a b) (low 0 0 0 p q refl) ∙ xor_shr a b 1 ∙ sym (ap₂ bit_xor (bit_zero a p) (bit_zero b q)))
      (λ (q : b % 2 ≡ 1).
      bit_one (bit_xor a b) (low 0 1 1 p q refl) ∙ ap (λ (x : ℕ). bit_xor x polynomial) (xor_shr a b 1)
      ∙ xor_assoc (a / 2) (b / 2) polynomial ∙ sym (ap₂ bit_xor (bit_zero a p) (bit_one b q)))
      (bit b))
      (λ (p : a % 2 ≡ 1).
      ⊎_elim
      (λ (q : b % 2 ≡ 0).
      bit_one (bit_xor a b) (low 1 0 1 p q refl) ∙ ap (λ (x : ℕ). bit_xor x polynomial) (xor_shr a b 1)
      ∙ swap (a / 2) (b / 2) polynomial ∙ sym (ap₂ bit_xor (bit_one a p) (bit_zero b q)))
      (λ (q : b % 2 ≡ 1).
      bit_zero (bit_xor a b) (low 1 1 0 p q refl) ∙ xor_shr a b 1
      ∙ sym (twice (a / 2) (b / 2) polynomial) ∙ sym (ap₂ bit_xor (bit_one a p) (bit_one b q)))
      (bit b))
      (bit a)

steps_xor : (n a b : ℕ) → steps n (bit_xor a b) ≡ bit_xor (steps n a) (steps n b)
unfolding steps
steps_xor zero a b = refl
steps_xor (suc n) a b = ap (steps n) (bit_xor_lem a b) ∙ steps_xor n (bit_step a) (bit_step b)

steps_add : (m n c : ℕ) → steps (m + n) c ≡ steps n (steps m c)
unfolding steps
steps_add zero n c = ap (λ (k : ℕ). steps k c) (zero-add n)
steps_add (suc m) n c = ap (λ (k : ℕ). steps k c) (suc-add m n) ∙ steps_add m n (bit_step c)

steps_zero : (n : ℕ) → steps n 0 ≡ 0
unfolding steps bit_step
steps_zero zero = refl
steps_zero (suc n) = steps_zero n

-- n zero bits below a number are gone after n steps
steps_up : (n y : ℕ) → steps n (y * 2 ^ n) ≡ y
steps_up n y = ap (steps n) (sym (add-zero (y * 2 ^ n))) ∙ steps_split n y 0 (pow_pos n) ∙ ap (bit_xor y) (steps_zero n) ∙ xor_zero_r y

-- a byte that comes in after n steps could have come in before them, n bits higher
later : (n y b : ℕ) → byte_step (steps n y) b ≡ steps (n + 8) (bit_xor y (b * 2 ^ n))
unfolding byte_step
later n y b =
    ap (steps 8) (ap (bit_xor (steps n y)) (sym (steps_up n b)) ∙ sym (steps_xor n y (b * 2 ^ n))) ∙ sym (steps_add n 8 (bit_xor y (b * 2 ^ n)))

-- the low byte and the rest go their own ways
pub peel : (n x : ℕ) → steps (8 + n) x ≡ bit_xor (steps (8 + n) (x % 256)) (steps n (x / 256))
peel n x =
    steps_add 8 n x
    ∙ ap (steps n) (ap (steps 8) (sym (split x 8)) ∙ steps_split 8 (x / 256) (x % 256) (omega arith))
    ∙ steps_xor n (x / 256) (steps 8 (x % 256))
    ∙ ap (bit_xor (steps n (x / 256))) (sym (steps_add 8 n (x % 256)))
    ∙ xor_comm (steps n (x / 256)) (steps (8 + n) (x % 256))

-- four bytes side by side
together : (c b0 b1 b2 b3 : ℕ) → b0 < 256 → b1 < 256 → b2 < 256
    → bit_xor (bit_xor (bit_xor (bit_xor c b0) (b1 * 2 ^ 8)) (b2 * 2 ^ 16)) (b3 * 2 ^ 24) ≡ bit_xor c (b3 * 16777216 + (b2 * 65536 + (b1 * 256 + b0)))
together c b0 b1 b2 b3 h0 h1 h2 =
    let w1 : ℕ = b1 * 256 + b0 in
    let w2 : ℕ = b2 * 65536 + w1 in
    let l1 : w1 < 2 ^ 16 = omega arith in
    let l2 : w2 < 2 ^ 24 = omega arith in
    let e1 : bit_xor b0 (b1 * 2 ^ 8) ≡ w1 = xor_comm b0 (b1 * 2 ^ 8) ∙ xor_shifted b1 8 b0 h0 in
    let e2 : bit_xor w1 (b2 * 2 ^ 16) ≡ w2 = xor_comm w1 (b2 * 2 ^ 16) ∙ xor_shifted b2 16 w1 l1 in
    let e3 : bit_xor w2 (b3 * 2 ^ 24) ≡ b3 * 16777216 + w2 = xor_comm w2 (b3 * 2 ^ 24) ∙ xor_shifted b3 24 w2 l2 in
    ap (λ (z : ℕ). bit_xor (bit_xor z (b2 * 2 ^ 16)) (b3 * 2 ^ 24)) (xor_assoc c b0 (b1 * 2 ^ 8) ∙ ap (bit_xor c) e1)
    ∙ ap (λ (z : ℕ). bit_xor z (b3 * 2 ^ 24)) (xor_assoc c w1 (b2 * 2 ^ 16) ∙ ap (bit_xor c) e2)
    ∙ xor_assoc c w2 (b3 * 2 ^ 24)
    ∙ ap (bit_xor c) e3

-- so four bytes are 32 steps
four_bytes : (c b0 b1 b2 b3 : ℕ) → b0 < 256 → b1 < 256 → b2 < 256
    → byte_step (byte_step (byte_step (byte_step c b0) b1) b2) b3 ≡ steps 32 (bit_xor c (b3 * 16777216 + (b2 * 65536 + (b1 * 256 + b0))))
unfolding byte_step
four_bytes c b0 b1 b2 b3 h0 h1 h2 =
    ap (λ (z : ℕ). byte_step (byte_step z b2) b3) (later 8 (bit_xor c b0) b1)
    ∙ ap (λ (z : ℕ). byte_step z b3) (later 16 (bit_xor (bit_xor c b0) (b1 * 2 ^ 8)) b2)
    ∙ later 24 (bit_xor (bit_xor (bit_xor c b0) (b1 * 2 ^ 8)) (b2 * 2 ^ 16)) b3
    ∙ ap (steps 32) (together c b0 b1 b2 b3 h0 h1 h2)

-- and eight are 64 steps of the first four with the register, and 32 of the others
module _ (c b0 b1 b2 b3 b4 b5 b6 b7 : ℕ) (h0 : b0 < 256) (h1 : b1 < 256) (h2 : b2 < 256) (h4 : b4 < 256) (h5 : b5 < 256) (h6 : b6 < 256) where
  pub eight_bytes :
      byte_step (byte_step (byte_step (byte_step (byte_step (byte_step (byte_step (byte_step c b0) b1) b2) b3) b4) b5) b6) b7
      ≡ bit_xor (steps 64 (bit_xor c (b3 * 16777216 + (b2 * 65536 + (b1 * 256 + b0))))) (steps 32 (b7 * 16777216 + (b6 * 65536 + (b5 * 256 + b4))))
  eight_bytes =
      let x : ℕ = bit_xor c (b3 * 16777216 + (b2 * 65536 + (b1 * 256 + b0))) in
      let w : ℕ = b7 * 16777216 + (b6 * 65536 + (b5 * 256 + b4)) in
      ap (λ (z : ℕ). byte_step (byte_step (byte_step (byte_step z b4) b5) b6) b7) (four_bytes c b0 b1 b2 b3 h0 h1 h2)
      ∙ four_bytes (steps 32 x) b4 b5 b6 b7 h4 h5 h6
      ∙ steps_xor 32 (steps 32 x) w
      ∙ ap (λ (z : ℕ). bit_xor z (steps 32 w)) (sym (steps_add 32 32 x))

-- one byte by the table: the low byte of the register is looked up, the rest moves down
pub byte_step_lem : (c b : ℕ) → byte_step c b ≡ bit_xor (steps 8 (bit_xor c b % 256)) (bit_xor c b / 256)
unfolding byte_step
byte_step_lem c b =
    let x : ℕ = bit_xor c b in
    ap (steps 8) (sym (split x 8)) ∙ steps_split 8 (x / 256) (x % 256) (omega arith) ∙ xor_comm (x / 256) (steps 8 (x % 256))

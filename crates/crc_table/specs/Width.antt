-- A step by the bit that goes out, and the register's width. Assumes nothing.
use Rattle.std.specs.Prelude.{◌≡◌, refl, ◌⊎◌, ℕ, zero, suc, ◌/◌, ◌%◌, ◌^◌, ◌<◌}
use Rattle.std.proofs.Common.{inl, inr, ⊎_elim, arith, lit<}
use Rattle.std.specs.Int.Bits.{bit_xor}
use Rattle.std.proofs.lemmas.Nat.{xor_lt}
use Rattle.crc_table.specs.Polynomial.{polynomial, bit_step, steps}

pub bit_zero : (c : ℕ) → c % 2 ≡ 0 → bit_step c ≡ c / 2
unfolding bit_step
bit_zero c e = rw e

pub bit_one : (c : ℕ) → c % 2 ≡ 1 → bit_step c ≡ bit_xor (c / 2) polynomial
unfolding bit_step
bit_one c e = rw e

pub bit : (c : ℕ) → (c % 2 ≡ 0) ⊎ (c % 2 ≡ 1)
bit c = go (c % 2) (omega arith)
  where
    go : (x : ℕ) → x < 2 → (x ≡ 0) ⊎ (x ≡ 1)
    go zero h = inl refl
    go (suc zero) h = inr refl
    go (suc (suc x)) h = absurd (omega arith)

-- the register has 32 bits
step_lt : (c : ℕ) → c < 2 ^ 32 → bit_step c < 2 ^ 32
step_lt c h =
    ⊎_elim
    (λ (e : c % 2 ≡ 0). rw (bit_zero c e) (omega arith))
    (λ (e : c % 2 ≡ 1). rw (bit_one c e) (xor_lt 32 (c / 2) polynomial (omega arith) (lit< tt)))
    (bit c)

pub steps_lt : (n c : ℕ) → c < 2 ^ 32 → steps n c < 2 ^ 32
unfolding steps
steps_lt zero c h = h
steps_lt (suc n) c h = steps_lt n (bit_step c) (step_lt c h)

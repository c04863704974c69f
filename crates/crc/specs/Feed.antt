-- Bytes fed to the register: in parts, a turn of each loop, and the register's width. Assumes nothing.
use Rattle.std.specs.Prelude.{◌≡◌, refl, List, [], ◌∷◌, ◌++◌, ℕ, suc, ◌+◌, ◌*◌, ◌^◌, ◌≤◌, ◌<◌, length, get_or, slice_index_or, take, drop, zero}
use Rattle.std.proofs.Common.{sym, ap, ap₂, ◌∙◌, add-one, arith, lit<, drop_of_length-le, drop-cons, drop-drop, take-append-drop}
use Rattle.std.specs.Simd.{first_chunks}
use Rattle.std.specs.Int.Bits.{bit_xor}
use Rattle.std.proofs.lemmas.Nat.{xor_lt}
use Rattle.crc_table.specs.Width.{steps_lt}
use Rattle.crc.specs.Crc.{steps, byte_step, feed_of, crc_of}

-- a run in parts
pub feed_append : (c : ℕ) (a b : List ℕ) → feed_of c (a ++ b) ≡ feed_of (feed_of c a) b
unfolding feed_of
feed_append c [] b = refl
feed_append c (x ∷ a) b = feed_append (byte_step c x) a b

-- a turn of the loop, and its end
pub feed_next : (x : ℕ) (bs : List ℕ) (i : ℕ) → i < length bs → feed_of x (drop i bs) ≡ feed_of (byte_step x (get_or bs i 0)) (drop (i + 1) bs)
unfolding feed_of
feed_next x bs i h = rw (add-one, drop-cons bs i 0 h)

pub feed_last : (x : ℕ) (bs : List ℕ) (i : ℕ) → length bs ≤ i → feed_of x (drop i bs) ≡ x
unfolding feed_of
feed_last x bs i h = rw (drop_of_length-le bs h)

-- a turn of the loop of eight bytes: what it feeds is the k-th eight
eight_at : (m k : ℕ) (bs : List ℕ) → k < m → slice_index_or (first_chunks 8 m bs) k [] ≡ take 8 (drop (k * 8) bs)
eight_at zero k bs h = absurd (omega arith)
eight_at (suc m) zero bs h = refl
eight_at (suc m) (suc k) bs h =
    let e : 8 + k * 8 ≡ suc k * 8 = omega arith in
    eight_at m k (drop 8 bs) (omega arith) ∙ ap (take 8) (drop-drop (k * 8) 8 bs ∙ ap (λ (i : ℕ). drop i bs) e)

pub feed_more : (x : ℕ) (bs : List ℕ) (m k : ℕ) (eight : List ℕ) → k < m → eight ≡ slice_index_or (first_chunks 8 m bs) k []
    → feed_of (feed_of x eight) (drop ((k + 1) * 8) bs) ≡ feed_of x (drop (k * 8) bs)
feed_more x bs m k eight h e =
    let d : List ℕ = drop (k * 8) bs in
    let f : k * 8 + 8 ≡ (k + 1) * 8 = omega arith in
    ap₂ (λ (y z : List ℕ). feed_of (feed_of x y) z) (e ∙ eight_at m k bs h) (sym (drop-drop 8 (k * 8) bs ∙ ap (λ (i : ℕ). drop i bs) f))
    ∙ sym (feed_append x (take 8 d) (drop 8 d))
    ∙ ap (feed_of x) (take-append-drop 8 d)

-- four bytes from a place on, and eight
feed_four : (x : ℕ) (bs : List ℕ) (i : ℕ) → i + 4 ≤ length bs
    → feed_of x (drop i bs) ≡ feed_of (byte_step (byte_step (byte_step (byte_step x (get_or bs i 0)) (get_or bs (i + 1) 0)) (get_or bs (i + 2) 0)) (get_or bs (i + 3) 0)) (drop (i + 4) bs)
feed_four x bs i h =
    let e : i + 1 + 1 ≡ i + 2 = omega arith in
    let f : i + 2 + 1 ≡ i + 3 = omega arith in
    let g : i + 3 + 1 ≡ i + 4 = omega arith in
    feed_next x bs i (omega arith)
    ∙ feed_next (byte_step x (get_or bs i 0)) bs (i + 1) (omega arith)
    ∙ ap (λ (k : ℕ). feed_of (byte_step (byte_step x (get_or bs i 0)) (get_or bs (i + 1) 0)) (drop k bs)) e
    ∙ feed_next (byte_step (byte_step x (get_or bs i 0)) (get_or bs (i + 1) 0)) bs (i + 2) (omega arith)
    ∙ ap (λ (k : ℕ). feed_of (byte_step (byte_step (byte_step x (get_or bs i 0)) (get_or bs (i + 1) 0)) (get_or bs (i + 2) 0)) (drop k bs)) f
    ∙ feed_next (byte_step (byte_step (byte_step x (get_or bs i 0)) (get_or bs (i + 1) 0)) (get_or bs (i + 2) 0)) bs (i + 3) (omega arith)
    ∙ ap (λ (k : ℕ). feed_of (byte_step (byte_step (byte_step (byte_step x (get_or bs i 0)) (get_or bs (i + 1) 0)) (get_or bs (i + 2) 0)) (get_or bs (i + 3) 0)) (drop k bs)) g

pub feed_eight : (x : ℕ) (bs : List ℕ) (i : ℕ) → i + 8 ≤ length bs
    → feed_of x (drop i bs)
    ≡ feed_of
    (byte_step (byte_step (byte_step
    (byte_step (byte_step (byte_step (byte_step (byte_step x (get_or bs i 0)) (get_or bs (i + 1) 0)) (get_or bs (i + 2) 0)) (get_or bs (i + 3) 0)) (get_or bs (i + 4) 0))
    (get_or bs (i + 5) 0)) (get_or bs (i + 6) 0)) (get_or bs (i + 7) 0))
    (drop (i + 8) bs)
feed_eight x bs i h =
    let y : ℕ = byte_step (byte_step (byte_step (byte_step x (get_or bs i 0)) (get_or bs (i + 1) 0)) (get_or bs (i + 2) 0)) (get_or bs (i + 3) 0) in
    let e5 : i + 4 + 1 ≡ i + 5 = omega arith in
    let e6 : i + 4 + 2 ≡ i + 6 = omega arith in
    let e7 : i + 4 + 3 ≡ i + 7 = omega arith in
    let e8 : i + 4 + 4 ≡ i + 8 = omega arith in
    feed_four x bs i (omega arith)
    ∙ feed_four y bs (i + 4) (omega arith)
    ∙ (λ k. feed_of (byte_step (byte_step (byte_step (byte_step y (get_or bs (i + 4) 0)) (get_or bs (e5 k) 0)) (get_or bs (e6 k) 0)) (get_or bs (e7 k) 0)) (drop (e8 k) bs))

-- eight bytes, as the code has them, and nothing behind them
pub eight_fed : (c : ℕ) (b : List ℕ) → length b ≡ 8
    → byte_step
    (byte_step (byte_step (byte_step (byte_step (byte_step (byte_step (byte_step c (get_or b 0 0)) (get_or b 1 0)) (get_or b 2 0)) (get_or b 3 0)) (get_or b 4 0)) (get_or b 5 0))
    (get_or b 6 0))
    (get_or b 7 0)
    ≡ feed_of c b
unfolding feed_of
eight_fed c (b0 ∷ b1 ∷ b2 ∷ b3 ∷ b4 ∷ b5 ∷ b6 ∷ b7 ∷ []) h = refl
eight_fed c _ h = absurd (omega arith)

-- the register has 32 bits
pub feed_lt : (c : ℕ) (bs : List ℕ) → c < 2 ^ 32 → ((i : ℕ) → get_or bs i 0 < 256) → feed_of c bs < 2 ^ 32
unfolding feed_of byte_step
feed_lt c [] h w = h
feed_lt c (b ∷ bs) h w =
    let l : b < 256 = w 0 in
    feed_lt (steps 8 (bit_xor c b)) bs (steps_lt 8 (bit_xor c b) (xor_lt 32 c b h (omega arith))) (λ i. w (suc i))

pub crc_lt : (bs : List ℕ) → ((i : ℕ) → get_or bs i 0 < 256) → crc_of bs < 2 ^ 32
unfolding crc_of
crc_lt bs w = xor_lt 32 (feed_of 0xffffffff bs) 0xffffffff (feed_lt 0xffffffff bs (lit< tt) w) (lit< tt)

-- A part of an entry moved into the book step by step. Assumes nothing.
use Rattle.std.specs.Prelude.{◌≡◌, refl, List, [], ◌∷◌, ◌++◌, ℕ, zero, suc, ◌+◌, ◌-◌, ◌*◌, ◌/◌, ◌%◌, ◌≤◌, ◌<◌, get_or, set, take, drop, replicate, length}
use Rattle.std.proofs.Common.{sym, ap, ap₂, ◌∙◌, add-zero, append-nil, length-take, take-add, drop_of_length-le, mod-lt, arith}
use Rattle.std.proofs.Math.Nat.{sub-zero, mul_assoc, add-mul, one-mul, mul-add-div_right, div-eq_of_lt}
use Rattle.std.proofs.Math.Seq.{slice, slice_empty, length-slice, take-length, take-nil, paste}
use Rattle.std.proofs.lemmas.Nat.{div-add-mod'}
use Rattle.std.proofs.lemmas.List.{drop-append-le, drop-take, length-replicate}
use Rattle.std.proofs.lemmas.List.Edits.{paste_more}
use Rattle.wire.specs.Splice.{splice, splice_nil, splice_splice, length_splice, paste_splice}

-- the bytes of s from place f up to place t, put where they belong in l if s begins at a; every other byte keeps its value
unfoldable pub moved : List ℕ → ℕ → List ℕ → ℕ → ℕ → List ℕ
moved l a s f t = splice l (a + f) (slice f t s)

pub moved_none : (l : List ℕ) (a : ℕ) (s : List ℕ) (f : ℕ) → moved l a s f f ≡ l
unfolding moved
moved_none l a s f = ap (splice l (a + f)) (slice_empty f s) ∙ splice_nil l (a + f)

pub moved_all : (l : List ℕ) (a : ℕ) (s : List ℕ) → moved l a s 0 (length s) ≡ splice l a s
unfolding moved
moved_all l a s = ap₂ (splice l) (add-zero a) (take-length s)

-- the two ways of what may be left
pub none_left : (l : List ℕ) (a : ℕ) (s : List ℕ) (f t : ℕ) → t ≡ f → l ≡ moved l a s f t
none_left l a s f t e = sym (ap (moved l a s f) e ∙ moved_none l a s f)

pub some_left : (l m : List ℕ) (a : ℕ) (s : List ℕ) (f t u : ℕ) → m ≡ moved l a s f u → u ≡ t → m ≡ moved l a s f t
some_left l m a s f t u p e = p ∙ ap (moved l a s f) e

pub drop_take : (a m : ℕ) (l : List ℕ) → drop a (take m l) ≡ take (m - a) (drop a l)
drop_take zero m l = rw sub-zero
drop_take (suc a) zero l = let z : 0 - suc a ≡ 0 = omega arith in rw z
drop_take (suc a) (suc m) [] = sym (take-nil (suc m - suc a))
drop_take (suc a) (suc m) (x ∷ l) = let e : suc m - suc a ≡ m - a = omega arith in rw e (drop_take a m l)

slice_slice : (s : List ℕ) (f m t : ℕ) → f ≤ m → m ≤ t → t ≤ length s → slice f m s ++ slice m t s ≡ slice f t s
slice_slice s f m t p q h =
    let e : t ≡ m + (t - m) = omega arith in
    let l : length (take m s) ≡ m = simp length-take (omega arith) in
    sym
    (ap (λ (k : ℕ). drop f (take k s)) e
    ∙ ap (drop f) (take-add m (t - m) s)
    ∙ drop-append-le f (take m s) (take (t - m) (drop m s)) (omega (arith, l))
    ∙ ap (λ (x : List ℕ). slice f m s ++ x) (sym (drop_take m t s)))

module _ (l : List ℕ) (a : ℕ) (s : List ℕ) (fits : a + length s ≤ length l) where
  pub length_moved : (f t : ℕ) → f ≤ t → t ≤ length s → length (moved l a s f t) ≡ length l
  unfolding moved
  length_moved f t p h = length_splice l (a + f) (slice f t s) (omega (arith, length-slice f t s h))

  -- one behind the other is one
  pub moved_moved : (f m t : ℕ) → f ≤ m → m ≤ t → t ≤ length s → moved (moved l a s f m) a s m t ≡ moved l a s f t
  unfolding moved
  moved_moved f m t p q h =
      let e : length (slice f m s) ≡ m - f = length-slice f m s (omega arith) in
      let k : a + m ≡ a + f + length (slice f m s) = omega arith in
      ap (λ (i : ℕ). splice (splice l (a + f) (slice f m s)) i (slice m t s)) k
      ∙ splice_splice l (a + f) (slice f m s) (omega (arith, e)) (slice m t s)
      ∙ ap (splice l (a + f)) (slice_slice s f m t p q h)

  -- the same of what the code has after each
  behind : {l₁ l₂ : List ℕ} (f m t : ℕ) → f ≤ m → m ≤ t → t ≤ length s → l₁ ≡ moved l a s f m → l₂ ≡ moved l₁ a s m t → l₂ ≡ moved l a s f t
  behind f m t p q h e₁ e₂ = e₂ ∙ ap (λ (x : List ℕ). moved x a s m t) e₁ ∙ moved_moved f m t p q h

  pub rest_moved : {l₁ l₂ l₃ l₄ : List ℕ} → l₁ ≡ moved l a s (length s / 16 * 16) (length s / 8 * 8) → l₂ ≡ moved l₁ a s (length s / 8 * 8) (length s / 4 * 4)
      → l₃ ≡ moved l₂ a s (length s / 4 * 4) (length s / 2 * 2) → l₄ ≡ moved l₃ a s (length s / 2 * 2) (length s) → l₄ ≡ moved l a s (length s / 16 * 16) (length s)
  rest_moved e₁ e₂ e₃ e₄ =
      let n : ℕ = length s in
      behind (n / 16 * 16) (n / 2 * 2) n (omega arith) (omega arith) (omega arith)
      (behind (n / 16 * 16) (n / 4 * 4) (n / 2 * 2) (omega arith) (omega arith) (omega arith)
      (behind (n / 16 * 16) (n / 8 * 8) (n / 4 * 4) (omega arith) (omega arith) (omega arith) e₁ e₂)
      e₃)
      e₄

  -- the same of steps of 8, 4, 2 and 1
  pub lefts_moved : {l₁ l₂ l₃ l₄ : List ℕ} → l₁ ≡ moved l a s (length s / 16 * 16) (length s / 8 * 8) → l₂ ≡ moved l₁ a s (length s / 8 * 8) (length s / 4 * 4)
      → l₃ ≡ moved l₂ a s (length s / 4 * 4) (length s / 2 * 2) → l₄ ≡ moved l₃ a s (length s / 2 * 2) (length s / 1 * 1) → l₄ ≡ moved l a s (length s / 16 * 16) (length s)
  lefts_moved {l₃ = l₃} {l₄ = l₄} e₁ e₂ e₃ e₄ =
      let n : ℕ = length s in
      let one : n / 1 * 1 ≡ n = omega arith in
      rest_moved e₁ e₂ e₃ (some_left l₃ l₄ a s (n / 2 * 2) n (n / 1 * 1) e₄ one)

  pub part_moved : {l₁ l₂ : List ℕ} → l₁ ≡ moved l a s 0 (length s / 16 * 16) → l₂ ≡ moved l₁ a s (length s / 16 * 16) (length s) → l₂ ≡ splice l a s
  part_moved e₁ e₂ = behind 0 (length s / 16 * 16) (length s) (omega arith) (omega arith) (omega arith) e₁ e₂ ∙ moved_all l a s

-- an empty one
pub empty_moved : (l : List ℕ) (a : ℕ) (s : List ℕ) → length s ≡ 0 → l ≡ splice l a s
empty_moved l a s e = none_left l a s 0 (length s) e ∙ moved_all l a s

-- one byte more is read
pub read_more : (n : ℕ) (d : List ℕ) (k : ℕ) → k < n → k < length d → set (paste (replicate n 0) 0 d k) k (get_or d k 0) ≡ paste (replicate n 0) 0 d (k + 1)
read_more n d k h l =
    let z : 0 + k ≡ k = omega arith in
    let r : List ℕ = replicate n 0 in
    ap (λ (j : ℕ). set (paste r 0 d k) j (get_or d k 0)) (sym z) ∙ paste_more r 0 d k 0 (omega (arith, length-replicate {A = ℕ} n 0)) l

-- n bytes read in a row are the part's from there
pub all_read : (n : ℕ) (s b : List ℕ) (i k : ℕ) → i + n ≤ length s → k ≤ n → n ≤ k → b ≡ paste (replicate n 0) 0 (drop i s) k → b ≡ slice i (i + n) s
all_read n s b i k h p q e =
    let z : k ≡ n = omega arith in
    let o : 0 + n ≡ n = omega arith in
    let r : List ℕ = replicate n 0 in
    let d : drop n r ≡ [] = drop_of_length-le r (omega (arith, length-replicate {A = ℕ} n 0)) in
    e ∙ rw (z, o, d) (append-nil (take n (drop i s))) ∙ sym (drop-take i n s)

-- and written one behind the other they are moved
pub all_written : (n : ℕ) (l : List ℕ) (a : ℕ) (s b m : List ℕ) (i j : ℕ) → i + n ≤ length s → j ≤ n → n ≤ j → b ≡ slice i (i + n) s → m ≡ paste l (a + i) b j → m ≡ moved l a s i (i + n)
unfolding moved
all_written n l a s b m i j h p q e f =
    let z : length b ≡ n = ap length e ∙ length-slice i (i + n) s h ∙ omega arith in
    f ∙ paste_splice l (a + i) b j (omega (arith, z)) ∙ ap (splice l (a + i)) e

-- a length by steps of d and of 2 d: the same, or one step of d more
halved : (n d : ℕ) → 0 < d → n / d ≡ n / (2 * d) * 2 + n % (2 * d) / d
halved n d h =
    let e : n ≡ n / (2 * d) * 2 * d + n % (2 * d) = sym (div-add-mod' n (2 * d)) ∙ ap (λ (x : ℕ). x + n % (2 * d)) (sym (mul_assoc (n / (2 * d)) 2 d)) in
    ap (λ (x : ℕ). x / d) e ∙ mul-add-div_right h (n / (2 * d) * 2) (n % (2 * d))

pub none_more : (n d : ℕ) → 0 < d → n % (2 * d) < d → n / d * d ≡ n / (2 * d) * (2 * d)
none_more n d h l =
    let z : n % (2 * d) / d ≡ 0 = div-eq_of_lt l in
    rw (halved n d h, z, add-zero, mul_assoc) refl

pub one_more : (n d : ℕ) → 0 < d → d ≤ n % (2 * d) → n / (2 * d) * (2 * d) + d ≡ n / d * d
one_more n d h l =
    let m : n % (2 * d) < 2 * d = mod-lt n (omega arith) in
    let s : n % (2 * d) - d < d = omega arith in
    let f : n % (2 * d) ≡ 1 * d + (n % (2 * d) - d) = omega arith in
    let z : n % (2 * d) / d ≡ 1 = ap (λ (x : ℕ). x / d) f ∙ mul-add-div_right h 1 (n % (2 * d) - d) ∙ ap (λ (x : ℕ). 1 + x) (div-eq_of_lt s) in
    sym (rw (halved n d h, z, add-mul, mul_assoc, one-mul) refl)

-- Small laws of choices, tests and bytes. Assumes nothing.
use Rattle.std.specs.Prelude.{◌≡◌, ℕ, zero, suc, ◌+◌, ◌<◌, ◌≤◌, Bool, true, false, ◌&&◌, ◌⊎◌, List, [], ◌∷◌, ◌++◌, length, take, drop, nat_lt, refl}
use Rattle.std.proofs.Common.{sym, ap, ◌∙◌, inl, inr, arith, lit<, length-take, length-drop, get_or-drop, ltb-true, ltb-false}
pub use Rattle.wire.specs.Both.{and_left, and_right}
use Rattle.wire.specs.Field.{field, number, number_at, Bytes, field_number}
use Rattle.journal.specs.Journal.{choose}

pub yes_is : {A : Type 0} {t : Bool} (a b : A) → t ≡ true → choose t a b ≡ a
unfolding choose
yes_is a b e = rw e

pub no_is : {A : Type 0} {t : Bool} (a b : A) → t ≡ false → choose t a b ≡ b
unfolding choose
no_is a b e = rw e

pub and_is : {a b : Bool} → a ≡ true → b ≡ true → (a && b) ≡ true
and_is p q = rw (p, q)

pub and_not : {a : Bool} (b : Bool) → a ≡ false → (a && b) ≡ false
and_not b p = rw p

pub not_and : (a : Bool) {b : Bool} → b ≡ false → (a && b) ≡ false
not_and true q = q
not_and false q = refl

pub below : (a b : ℕ) → (a < b) ⊎ (b ≤ a)
below a b = go (nat_lt a b) refl
  where
    go : (t : Bool) → nat_lt a b ≡ t → (a < b) ⊎ (b ≤ a)
    go true e = inl (ltb-true a b e)
    go false e = inr (ltb-false a b e)

pub take_bytes : (n : ℕ) (bs : List ℕ) → Bytes bs → Bytes (take n bs)
take_bytes zero bs b i = lit< tt
take_bytes (suc n) [] b i = lit< tt
take_bytes (suc n) (x ∷ bs) b zero = b 0
take_bytes (suc n) (x ∷ bs) b (suc i) = take_bytes n bs (λ (j : ℕ). b (suc j)) i

pub drop_bytes : (n : ℕ) (bs : List ℕ) → Bytes bs → Bytes (drop n bs)
drop_bytes n bs b i = rw (get_or-drop n bs i 0) (b (n + i))

pub append_bytes : (xs ys : List ℕ) → Bytes xs → Bytes ys → Bytes (xs ++ ys)
append_bytes [] ys p q i = q i
append_bytes (x ∷ xs) ys p q zero = p 0
append_bytes (x ∷ xs) ys p q (suc i) = append_bytes xs ys (λ (j : ℕ). p (suc j)) q i

pub field_bytes : (n x : ℕ) → Bytes (field n x)
unfolding field
field_bytes zero x i = lit< tt
field_bytes (suc n) x zero = omega arith
field_bytes (suc n) x (suc i) = field_bytes n x i

-- the field at a place, written again, is the bytes that stand there
pub field_at : (bs : List ℕ) (place n : ℕ) → place + n ≤ length bs → Bytes bs → field n (number_at bs place n) ≡ take n (drop place bs)
field_at bs place n h b =
    let x : List ℕ = take n (drop place bs) in
    let e : length x ≡ n = simp (length-take, length-drop) (omega arith) in
    ap (λ (k : ℕ). field k (number x)) (sym e) ∙ field_number x (take_bytes n (drop place bs) (drop_bytes place bs b))

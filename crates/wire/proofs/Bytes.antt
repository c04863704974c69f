-- Parts and rows of bytes are bytes.
use Rattle.std.proofs.Common.{ℕ, zero, suc, ◌+◌, ◌/◌, ◌%◌, ◌^◌, ◌<◌, List, [], ◌∷◌, ◌++◌, take, drop, arith, lit<, get_or-drop}
use Rattle.wire.specs.Field.{field, Bytes}

pub take_bytes : (n : ℕ) (bs : List ℕ) → Bytes bs → Bytes (take n bs)
take_bytes zero bs b i = lit< tt
take_bytes (suc n) [] b i = lit< tt
take_bytes (suc n) (x ∷ bs) b zero = b 0
take_bytes (suc n) (x ∷ bs) b (suc i) = take_bytes n bs (λ (j : ℕ). b (suc j)) i

pub drop_bytes : (n : ℕ) (bs : List ℕ) → Bytes bs → Bytes (drop n bs)
drop_bytes n bs b i = rw (get_or-drop n bs i 0) (b (n + i))

pub bytes_append : (xs ys : List ℕ) → Bytes xs → Bytes ys → Bytes (xs ++ ys)
bytes_append [] ys a b i = b i
bytes_append (x ∷ xs) ys a b zero = a 0
bytes_append (x ∷ xs) ys a b (suc i) = bytes_append xs ys (λ (j : ℕ). a (suc j)) b i

pub bytes_cons : (x : ℕ) (xs : List ℕ) → x < 256 → Bytes xs → Bytes (x ∷ xs)
bytes_cons x xs l b zero = l
bytes_cons x xs l b (suc i) = b i

pub bytes_field : (n x : ℕ) → Bytes (field n x)
unfolding field
bytes_field zero x i = lit< tt
bytes_field (suc n) x zero = let q : ℕ = x / 256 ^ n in let h : q % 256 < 256 = omega arith in h
bytes_field (suc n) x (suc i) = bytes_field n x i

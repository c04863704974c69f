-- Numbers and rows of bytes: what was written is read again, and what is read was written. Assumes nothing.
use Rattle.std.specs.Prelude.{◌≡◌, Bool, ◌&&◌, List, ◌++◌, ℕ, ◌+◌, ◌^◌, ◌≤◌, ◌<◌, leb, length, take, drop}
use Rattle.std.proofs.Math.Path.{refl}
use Rattle.std.proofs.Common.{sym, ap, ap₂, subst, ◌∙◌, append_assoc, arith, length-append, length-take, take-append-drop, take_at, drop_at, le-leb, leb-true}
use Rattle.std.proofs.Math.Bool.{true, false}
use Rattle.wire.specs.Field.{field, number, Bytes, length_field, number_field, field_number, number_bound}
use Rattle.journal.specs.Journal.{choose}
use Rattle.journal.specs.Bytes.{yes_is, and_is, and_left, and_right, take_bytes, drop_bytes}
use Rattle.record.specs.Layout.{row, Row, Read, found, none, and_then, get_number, get_row}

pub then_is : {A B : Type 0} {r : Read A} {a : A} {s : List ℕ} (f : A → List ℕ → Read B) → r ≡ found a s → and_then r f ≡ f a s
unfolding and_then
then_is f e = rw e

-- P holds of whatever is read
abbrev pub Back : {A : Type 0} → Read A → (A → List ℕ → Type 0) → Type 0
Back {A} r P = (a : A) (s : List ℕ) → r ≡ found a s → P a s

module _ {A : Type 0} (P : A → List ℕ → Type 0) where
  pub none_back : Back none P
  none_back a s e = let z : ◌≡◌ {A = ℕ} 0 1 = cc in absurd (omega arith)

  pub found_back : (b : A) (t : List ℕ) → P b t → Back (found b t) P
  found_back b t p a s e =
      let x : b ≡ a = cc in
      let y : t ≡ s = cc in
      subst (λ (z : List ℕ). P a z) y (subst (λ (z : A). P z t) x p)

  pub choose_back : (c : Bool) (r q : Read A) → (c ≡ true → Back r P) → (c ≡ false → Back q P) → Back (choose c r q) P
  unfolding choose
  choose_back true r q f g = f refl
  choose_back false r q f g = g refl

  pub then_back : {B : Type 0} (r : Read B) (f : B → List ℕ → Read A) → ((b : B) (t : List ℕ) → r ≡ found b t → Back (f b t) P) → Back (and_then r f) P
  unfolding and_then
  then_back (found b t) f h = h b t refl
  then_back none f h = none_back

-- a number
pub number_again : (n : ℕ) {x : ℕ} → x < 256 ^ n → (rest : List ℕ) → get_number n (field n x ++ rest) ≡ found x rest
unfolding get_number
number_again n {x} h rest =
    let s : List ℕ = field n x ++ rest in
    let l : length (field n x) ≡ n = length_field n x in
    let m : length s ≡ n + length rest = length-append (field n x) rest ∙ ap (λ (k : ℕ). k + length rest) l in
    yes_is (found (number (take n s)) (drop n s)) none (le-leb n (length s) (omega arith))
    ∙ ap₂ (λ (a : ℕ) (b : List ℕ). found a b) (ap number (take_at (field n x) rest n l) ∙ number_field n h) (drop_at (field n x) rest n l)

pub record Number (n : ℕ) (s : List ℕ) (x : ℕ) (rest : List ℕ) : Type 0 where
  pub all : field n x ++ rest ≡ s
  pub fits : x < 256 ^ n
  pub bytes : Bytes rest

pub number_back : (n : ℕ) (s : List ℕ) → Bytes s → Back (get_number n s) (Number n s)
unfolding get_number
number_back n s b =
    choose_back (Number n s) (leb n (length s)) (found (number (take n s)) (drop n s)) none
    (λ e.
    let h : n ≤ length s = leb-true n (length s) e in
    let l : length (take n s) ≡ n = simp length-take (omega arith) in
    let c : Bytes (take n s) = take_bytes n s b in
    found_back (Number n s) (number (take n s)) (drop n s)
    (record {
      all = ap (λ (k : ℕ). field k (number (take n s)) ++ drop n s) (sym l) ∙ ap (λ (x : List ℕ). x ++ drop n s) (field_number (take n s) c) ∙ take-append-drop n s;
      fits = subst (λ (k : ℕ). number (take n s) < 256 ^ k) l (number_bound (take n s) c);
      bytes = drop_bytes n s b;
    }))
    (λ e. none_back (Number n s))

-- a row of bytes
pub row_again : (most : ℕ) (r : List ℕ) → most < 256 ^ 4 → Row most r → (rest : List ℕ) → get_row most (row r ++ rest) ≡ found r rest
unfolding get_row row
row_again most r m h rest =
    let w : length r ≤ most = h.within in
    let l : length (r ++ rest) ≡ length r + length rest = length-append r rest in
    ap (λ (s : List ℕ). and_then (get_number 4 s) λ n t. choose (leb n most && leb n (length t)) (found (take n t) (drop n t)) none)
    (append_assoc (field 4 (length r)) r rest)
    ∙ then_is _ (number_again 4 {x = length r} (omega arith) (r ++ rest))
    ∙ yes_is (found (take (length r) (r ++ rest)) (drop (length r) (r ++ rest))) none
    (and_is (le-leb (length r) most w) (le-leb (length r) (length (r ++ rest)) (omega arith)))
    ∙ ap₂ (λ (a : List ℕ) (b : List ℕ). found a b) (take_at r rest (length r) refl) (drop_at r rest (length r) refl)

pub record Got (most : ℕ) (s r rest : List ℕ) : Type 0 where
  pub all : row r ++ rest ≡ s
  pub fits : Row most r
  pub bytes : Bytes rest

pub row_back : (most : ℕ) (s : List ℕ) → Bytes s → Back (get_row most s) (Got most s)
unfolding get_row row
row_back most s b =
    then_back (Got most s) (get_number 4 s) _
    (λ n t e.
    let g = number_back 4 s b n t e in
    choose_back (Got most s) (leb n most && leb n (length t)) (found (take n t) (drop n t)) none
    (λ e.
    let w : n ≤ most = leb-true n most (and_left (leb n most) (leb n (length t)) e) in
    let h : n ≤ length t = leb-true n (length t) (and_right (leb n most) (leb n (length t)) e) in
    let l : length (take n t) ≡ n = simp length-take (omega arith) in
    found_back (Got most s) (take n t) (drop n t)
    (record {
      all =
          ap (λ (k : ℕ). field 4 k ++ take n t ++ drop n t) l
          ∙ append_assoc (field 4 n) (take n t) (drop n t)
          ∙ ap (λ (x : List ℕ). field 4 n ++ x) (take-append-drop n t)
          ∙ g.all;
      fits = record { bytes = take_bytes n t g.bytes; within = omega arith };
      bytes = drop_bytes n t g.bytes;
    }))
    (λ e. none_back (Got most s)))

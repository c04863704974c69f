-- The laws that the code of this crate cites. Assumes nothing.
use Rattle.std.specs.Prelude.{◌≡◌, refl, Ok, true, false, List, [], ◌++◌, ℕ, ◌+◌, ◌/◌, ◌%◌, ◌^◌, ◌∷◌, ◌≤◌, eqb, length, take}
use Rattle.std.proofs.Common.{sym, ap, ◌∙◌, append-nil, arith, length-append}
use Rattle.std.specs.Int.{w64, to_be_bytes}
use Rattle.wire.specs.Field.{field, length_field}
use Rattle.wire.specs.Splice.{splice, take_front, splice_then}
use Rattle.journal.specs.Bytes.{yes_is, no_is}
use Rattle.journal.specs.Writer.{Done, Met, Told, append_of, kept_number}
use Rattle.entries.specs.Entries.{entry_unless, Keeps}

-- the bytes of a number, highest first, are a field of 8 bytes, whose last ones are the narrower fields
pub bytes_field : (x : ℕ) → to_be_bytes w64 x ≡ field 8 x
unfolding field
bytes_field x =
    let e : x % 256 ≡ x / 256 ^ 0 % 256 = omega arith in
    ap (λ (b : ℕ). x / 256 ^ 7 % 256 ∷ x / 256 ^ 6 % 256 ∷ x / 256 ^ 5 % 256 ∷ x / 256 ^ 4 % 256 ∷ x / 256 ^ 3 % 256 ∷ x / 256 ^ 2 % 256 ∷ x / 256 ^ 1 % 256 ∷ b ∷ []) e

-- the writer's answer as its number
pub met : {D : Done} {r : Told} {k : ℕ} {words book : List ℕ} → Met D r words book → k ≡ kept_number r → Keeps D k words book
met h e = record { answer = e ∙ ap kept_number h.answer; words_are = h.words; book_is = h.book }

-- the two ways of an entry
pub not_kept : (z : ℕ) (words book body : List ℕ) → eqb z 0 ≡ false → Met (entry_unless z words book body) (Ok tt) words book
unfolding entry_unless
not_kept z words book body e = rw (no_is {A = Done} (append_of words book body) (record { answer = Ok tt; words = words; book = book }) e)
    (record { answer = refl; words = refl; book = refl })

pub then_kept : (z : ℕ) (words book body : List ℕ) → eqb z 0 ≡ true → {r : Told} {words' book' : List ℕ} → Met (append_of words book body) r words' book'
    → Met (entry_unless z words book body) r words' book'
unfolding entry_unless
then_kept z words book body e h = rw (yes_is {A = Done} (append_of words book body) (record { answer = Ok tt; words = words; book = book }) e) h

pub two_parts : (head frames : List ℕ) → head ++ [] ++ [] ++ frames ≡ head ++ frames
two_parts head frames = ap (λ (x : List ℕ). x ++ frames) (append-nil (head ++ []) ∙ append-nil head)

-- a length and bytes, laid into a row of bytes one behind the other
pub row_taken : (blank one both s : List ℕ) → 4 + length s ≤ length blank → one ≡ splice blank 0 (field 4 (length s)) → both ≡ splice one 4 s → take (4 + length s) both ≡ field 4 (length s) ++ s
row_taken blank one both s h p q =
    let x : List ℕ = field 4 (length s) ++ s in
    let l : length x ≡ 4 + length s = length-append (field 4 (length s)) s ∙ ap (λ (n : ℕ). n + length s) (length_field 4 (length s)) in
    let e : both ≡ splice blank 0 x = q ∙ ap (λ (y : List ℕ). splice y 4 s) p ∙ splice_then blank 0 (field 4 (length s)) 4 s (length_field 4 (length s)) (omega arith) in
    ap (λ (n : ℕ). take n both) (sym l) ∙ ap (take (length x)) e ∙ take_front blank x (omega (arith, l))

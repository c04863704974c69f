-- Sixteen bytes that begin "HS" are the bytes of the header that they are read as.
use Rattle.std.proofs.Common.{◌≡◌, ℕ, ◌+◌, ◌≤◌, Bool, true, false, ◌&&◌, eqb, List, ◌∷◌, ◌++◌, length, get_or, take, drop, sym, ap, ◌∙◌, ap₂, arith, length-drop, take-append-drop, length-take, take_all, drop-cons, drop-drop, eqb-true}
use mathlib.Core.Bool.{false≢true}
use Rattle.wire.specs.Field.{field, number, number_at, Bytes, field_number}
use Rattle.wire.specs.Message.{header, header_bytes, prologue}
use Rattle.wire.proofs.Bytes.{take_bytes, drop_bytes}

both_true : (a b : Bool) → (a && b) ≡ true → (a ≡ true) × (b ≡ true)
both_true true true e = (e, e)
both_true true false e = absurd (false≢true e)
both_true false b e = absurd (false≢true e)

module _ (x : List ℕ) (n : length x ≡ 16) (b : Bytes x) where
  -- the number at a place, written again
  again : (place k : ℕ) → place + k ≤ 16 → field k (number_at x place k) ≡ take k (drop place x)
  again place k h =
      let y : List ℕ = take k (drop place x) in
      let e : length y ≡ k = simp (length-take, length-drop) (omega arith) in
      ap (λ (j : ℕ). field j (number y)) (sym e) ∙ field_number y (take_bytes k (drop place x) (drop_bytes place x b))

  numbers : field 4 (number_at x 4 4) ++ field 8 (number_at x 8 8) ≡ drop 4 x
  numbers =
      let e : length (drop 8 x) ≤ 8 = simp length-drop (omega arith) in
      ap₂ (λ (y z : List ℕ). y ++ z) (again 4 4 (omega arith)) (again 8 8 (omega arith) ∙ take_all 8 (drop 8 x) e ∙ sym (drop-drop 4 4 x))
      ∙ take-append-drop 4 (drop 4 x)

  pub header_bytes_lem : prologue x ≡ true → x ≡ header_bytes (header x)
  unfolding header_bytes header
  header_bytes_lem p =
      let q = both_true (eqb (get_or x 0 0) 0x48) (eqb (get_or x 1 0) 0x53) p in
      drop-cons x 0 0 (omega arith)
      ∙ ap₂ (λ (y : ℕ) (z : List ℕ). y ∷ z) (eqb-true (get_or x 0 0) 0x48 q.0) (drop-cons x 1 0 (omega arith))
      ∙ ap₂ (λ (y : ℕ) (z : List ℕ). 0x48 ∷ y ∷ z) (eqb-true (get_or x 1 0) 0x53 q.1) (drop-cons x 2 0 (omega arith))
      ∙ ap (λ (z : List ℕ). 0x48 ∷ 0x53 ∷ get_or x 2 0 ∷ z) (drop-cons x 3 0 (omega arith))
      ∙ ap (λ (z : List ℕ). 0x48 ∷ 0x53 ∷ get_or x 2 0 ∷ get_or x 3 0 ∷ z) (sym numbers)

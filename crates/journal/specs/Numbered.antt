-- How a body with a tag and two numbers begins, and that it is written so. Assumes nothing.
use Rattle.std.specs.Prelude.{◌≡◌, ℕ, ◌+◌, ◌≤◌, List, [], ◌∷◌, ◌++◌, length}
use Rattle.std.proofs.Common.{sym, ap, ◌∙◌, append_assoc, arith, length-append}
use Rattle.wire.specs.Field.{field, length_field}
use Rattle.wire.specs.Splice.{splice, splice_splice}
use Rattle.journal.specs.Journal.{headed, entry}
use Rattle.journal.specs.Entry.{length_entry}

-- how a body begins: a tag and two numbers of four bytes
abbrev pub numbered : ℕ → ℕ → ℕ → List ℕ
numbered tag x y = tag ∷ (field 4 x ++ field 4 y)

pub numbered_length : (tag x y : ℕ) → length (numbered tag x y) ≡ 9
numbered_length tag x y = simp (length-append, length_field)

next : (l : List ℕ) (a : ℕ) (x : List ℕ) (p : ℕ) (y : List ℕ) → p ≡ a + length x → a + length x ≤ length l → splice (splice l a x) p y ≡ splice l a (x ++ y)
next l a x p y e h = ap (λ (k : ℕ). splice (splice l a x) k y) e ∙ splice_splice l a x h y

-- the tag and the numbers, one behind the other
pub tag_written : (l : List ℕ) (at tag x y : ℕ) → at + 9 ≤ length l
    → splice (splice (splice l at (tag ∷ [])) (at + 1) (field 4 x)) (at + 5) (field 4 y) ≡ splice l at (numbered tag x y)
tag_written l at tag x y h =
    let e : length ((tag ∷ []) ++ field 4 x) ≡ 5 = simp (length-append, length_field) in
    ap (λ (z : List ℕ). splice z (at + 5) (field 4 y)) (next l at (tag ∷ []) (at + 1) (field 4 x) (λ i. at + 1) (omega arith))
    ∙ next l at ((tag ∷ []) ++ field 4 x) (at + 5) (field 4 y) (omega (arith, e)) (omega (arith, e))

-- the length, the tag and the numbers, one behind the other
pub head_written : (l : List ℕ) (at n tag x y : ℕ) → at + 13 ≤ length l
    → splice (splice (splice (splice l at (field 4 n)) (at + 4) (tag ∷ [])) (at + 5) (field 4 x)) (at + 9) (field 4 y) ≡ splice l at (field 4 n ++ numbered tag x y)
head_written l at n tag x y h =
    let f : List ℕ = field 4 n in
    let e : length f ≡ 4 = length_field 4 n in
    let e₁ : length (f ++ (tag ∷ [])) ≡ 5 = simp (length-append, length_field) in
    let e₂ : length (f ++ (tag ∷ []) ++ field 4 x) ≡ 9 = simp (length-append, length_field) in
    ap (λ (z : List ℕ). splice (splice z (at + 5) (field 4 x)) (at + 9) (field 4 y)) (next l at f (at + 4) (tag ∷ []) (omega arith) (omega arith))
    ∙ ap (λ (z : List ℕ). splice z (at + 9) (field 4 y)) (next l at (f ++ (tag ∷ [])) (at + 5) (field 4 x) (omega arith) (omega arith))
    ∙ next l at (f ++ (tag ∷ []) ++ field 4 x) (at + 9) (field 4 y) (omega arith) (omega arith)
    ∙ ap (splice l at) (simp append_assoc)

module _ (tag x y : ℕ) (b c : List ℕ) where
  abbrev pub numbered_body : List ℕ
  numbered_body = numbered tag x y ++ b ++ c

  pub numbered_size : length numbered_body ≡ 9 + length b + length c
  numbered_size = simp (length-append, length_field)

  -- the parts behind, of what the code has after each
  pub numbered_parts : (l : List ℕ) (at : ℕ) {l₁ l₂ l₃ : List ℕ} → at + length numbered_body ≤ length l → l₁ ≡ splice l at (numbered tag x y) → l₂ ≡ splice l₁ (at + 9) b
      → l₃ ≡ splice l₂ (at + 9 + length b) c → l₃ ≡ splice l at numbered_body
  numbered_parts l at h e₁ e₂ e₃ =
      let f : List ℕ = numbered tag x y in
      let e : length f ≡ 9 = numbered_length tag x y in
      let e₄ : length (f ++ b) ≡ 9 + length b = length-append f b ∙ ap (λ (k : ℕ). k + length b) e in
      e₃ ∙ ap (λ (z : List ℕ). splice z (at + 9 + length b) c)
      (e₂ ∙ ap (λ (z : List ℕ). splice z (at + 9) b) e₁ ∙ next l at f (at + 9) b (omega (arith, e)) (omega (arith, e, numbered_size)))
      ∙ next l at (f ++ b) (at + 9 + length b) c (omega (arith, e₄)) (omega (arith, e₄, numbered_size))

  -- the parts behind the length and the head
  pub numbered_written : (l : List ℕ) (at : ℕ) → at + 13 + length b + length c ≤ length l
      → splice (splice (splice l at (field 4 (9 + length b + length c) ++ numbered tag x y)) (at + 13) b) (at + 13 + length b) c ≡ splice l at (headed numbered_body)
  numbered_written l at h =
      let f : List ℕ = field 4 (length numbered_body) ++ numbered tag x y in
      let e : length f ≡ 13 = simp (length-append, length_field) in
      let e₁ : length (f ++ b) ≡ 13 + length b = length-append f b ∙ ap (λ (k : ℕ). k + length b) e in
      ap (λ (n : ℕ). splice (splice (splice l at (field 4 n ++ numbered tag x y)) (at + 13) b) (at + 13 + length b) c) (sym numbered_size)
      ∙ ap (λ (z : List ℕ). splice z (at + 13 + length b) c) (next l at f (at + 13) b (omega (arith, e)) (omega (arith, e)))
      ∙ next l at (f ++ b) (at + 13 + length b) c (omega (arith, e₁)) (omega (arith, e₁))
      ∙ ap (splice l at) (simp append_assoc)

  pub numbered_entry_size : 9 + length b + length c + 12 ≡ length (entry numbered_body)
  numbered_entry_size = omega (arith, length_entry numbered_body, numbered_size)

  -- the same of what the code has after each
  pub numbered_then : (l : List ℕ) (at : ℕ) {l₁ l₂ l₃ : List ℕ} → at + 13 + length b + length c ≤ length l → l₁ ≡ splice l at (field 4 (9 + length b + length c) ++ numbered tag x y)
      → l₂ ≡ splice l₁ (at + 13) b → l₃ ≡ splice l₂ (at + 13 + length b) c → l₃ ≡ splice l at (headed numbered_body)
  numbered_then l at h e₁ e₂ e₃ =
      e₃ ∙ ap (λ (z : List ℕ). splice z (at + 13 + length b) c) (e₂ ∙ ap (λ (z : List ℕ). splice z (at + 13) b) e₁) ∙ numbered_written l at h

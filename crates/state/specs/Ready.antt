-- A connection that is open and has nothing to skip: one comparison of its two words asks both. Assumes nothing.
use Rattle.std.specs.Prelude.{◌≡◌, refl, Bool, true, false, ◌&&◌, ℕ, zero, suc, ◌≤◌, ◌<◌, ◌%◌, eqb}
use Rattle.std.proofs.Common.{sym, ap, ap₂, ◌∙◌, arith, eqb-true, eq-eqb, ne_eqb}
use Rattle.std.proofs.lemmas.Bool.{eqb-false}
use Rattle.model.specs.State.{Connection}
use Rattle.state.specs.Change.{connection_with}
use Rattle.state.specs.View.{flag}

abbrev pub is_ready : Connection → Bool
is_ready x = x.is_open && eqb x.remainder 0

and_none : (b : Bool) → b && false ≡ false
and_none true = refl
and_none false = refl

-- the words o and l that the connection x shows
module _ (x : Connection) (o l : ℕ) (eo : connection_with 0 o x ≡ x) (el : connection_with 1 l x ≡ x) where
  open_word : x.is_open ≡ flag (o % 2)
  open_word = sym (ap (λ (y : Connection). y.is_open) eo)

  left_word : x.remainder ≡ l
  left_word = sym (ap (λ (y : Connection). y.remainder) el)

  pub ready : l < o % 2 → is_ready x ≡ true
  ready h =
      ap₂ (λ (a : Bool) (n : ℕ). a && eqb n 0) (open_word ∙ eq-eqb (o % 2) 1 (omega arith)) (left_word ∙ (let z : l ≡ 0 = omega arith in z))

  pub unready : o % 2 ≤ l → is_ready x ≡ false
  unready h = go (o % 2) refl
    where
      go : (k : ℕ) → o % 2 ≡ k → is_ready x ≡ false
      go zero e = ap (λ (a : Bool). a && eqb x.remainder 0) (open_word ∙ ap flag e)
      go (suc k) e =
          let z : l ≡ 0 → ⊥ = (λ q. omega arith) in
          ap (λ (a : Bool). x.is_open && a) (ap (λ (n : ℕ). eqb n 0) left_word ∙ ne_eqb l 0 z) ∙ and_none x.is_open

both : (b : Bool) (n : ℕ) → b && eqb n 0 ≡ true → (b ≡ true) × (n ≡ 0)
both true n e = (refl, eqb-true n 0 e)
both false n e = absurd (let y : ◌≡◌ {A = ℕ} 0 1 = cc in omega arith)

one : (b : Bool) (n : ℕ) → b && eqb n 0 ≡ false → b ≡ true → 0 < n
one true n e q = let z : n ≡ 0 → ⊥ = eqb-false n 0 e in omega arith
one false n e q = absurd (let y : ◌≡◌ {A = ℕ} 0 1 = cc in omega arith)

module _ (x : Connection) where
  pub ready_open : is_ready x ≡ true → x.is_open ≡ true
  ready_open e = (both x.is_open x.remainder e).0

  pub ready_none : is_ready x ≡ true → x.remainder ≡ 0
  ready_none e = (both x.is_open x.remainder e).1

  pub unready_left : is_ready x ≡ false → x.is_open ≡ true → 0 < x.remainder
  unready_left e q = one x.is_open x.remainder e q

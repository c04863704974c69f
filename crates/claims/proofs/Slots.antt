-- Laws of slots that theorems H to N share: every slot passes, some slot passes, what a store leaves elsewhere.
use mathlib.Core.Path.{◌≡◌, refl, sym, ◌∙◌}
use mathlib.Core.Bool.{Bool, true, false, not, ◌&&◌, true≢false}
use mathlib.Core.List.{List, [], ◌∷◌}
use Prim.Native.Nat.{ℕ, zero, suc}
use native.Mathlib.Omega.{arith}
use lib.ListN.{set, length}
use Rattle.model.specs.Lists.{all, any}
use Rattle.model.specs.State.{Entry, blank, at}
use Rattle.model.proofs.Basics.{both}

module _ (p : Entry → Bool) where
  pub all_of : (es : List Entry) → ((j : ℕ) → p (at es j) ≡ true) → all p es ≡ true
  all_of [] h = refl
  all_of (x ∷ es) h = both _ _ (h 0) (all_of es (λ j. h (suc j)))

  pub any_at : (es : List Entry) (j : ℕ) → p blank ≡ false → p (at es j) ≡ true → any p es ≡ true
  any_at [] j z h = absurd (true≢false (sym h ∙ z))
  any_at (x ∷ es) zero z h = rw h
  any_at (x ∷ es) (suc j) z h = go (p x) (any_at es j z h)
    where
      go : (b : Bool) → any p es ≡ true → not (not b && all (λ x. not (p x)) es) ≡ true
      go true r = refl
      go false r = r

  pub any_none : (es : List Entry) → ((j : ℕ) → p (at es j) ≡ true → ⊥) → any p es ≡ false
  any_none [] h = refl
  any_none (x ∷ es) h = go (p x) refl (any_none es (λ j. h (suc j)))
    where
      go : (b : Bool) → p x ≡ b → any p es ≡ false → not (not b && all (λ x. not (p x)) es) ≡ false
      go true e r = absurd (h 0 e)
      go false e r = r

-- the same entry stored in the same slot of two lists of one length
pub at_own : (es es' : List Entry) (i : ℕ) (y : Entry) → length es' ≡ length es → at (set es' i y) i ≡ at (set es i y) i
at_own [] [] i y l = refl
at_own [] (z ∷ zs) i y l = absurd (omega arith)
at_own (x ∷ es) [] i y l = absurd (omega arith)
at_own (x ∷ es) (z ∷ zs) zero y l = refl
at_own (x ∷ es) (z ∷ zs) (suc i) y l = at_own es zs i y (omega arith)

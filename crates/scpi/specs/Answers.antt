-- What a test's answer says. Assumes nothing.
use Rattle.std.specs.Prelude.{◌≡◌, refl, ◌⊎◌, ◌↔◌, Bool, true, false, ℕ, ◌≤◌, ◌<◌, ltb}
use Rattle.std.proofs.Common.{inl, inr, arith, ltb-true, ltb-false}
use Rattle.scpi.specs.Grammar.{good, bad}

-- what a test says of a fact
abbrev pub Says : Bool → Type 0 → Type 0
Says true X = X
Says false X = X → ⊥

pub lt_or_ge : (a b : ℕ) → (a < b) ⊎ (b ≤ a)
lt_or_ge a b = go (ltb a b) refl
  where
    go : (t : Bool) → ltb a b ≡ t → (a < b) ⊎ (b ≤ a)
    go true e = inl (ltb-true a b e)
    go false e = inr (ltb-false a b e)

pub untrue : {X : Type 0} → false ≡ true → X
untrue e = absurd (let z : ◌≡◌ {A = ℕ} 0 1 = cc in omega arith)

pub says_yes : {X : Type 0} (r : Bool) → Says r X → r ≡ true → X
says_yes true s e = s
says_yes false s e = absurd (let z : ◌≡◌ {A = ℕ} 0 1 = cc in omega arith)

pub says_no : {X : Type 0} (r : Bool) → Says r X → r ≡ false → X → ⊥
says_no true s e = absurd (let z : ◌≡◌ {A = ℕ} 0 1 = cc in omega arith)
says_no false s e = s

pub says_exactly : {X : Type 0} (r : Bool) → Says r X → (r ≡ true) ↔ X
says_exactly true s = (λ e. s, λ x. refl)
says_exactly false s = (λ e. absurd (let z : ◌≡◌ {A = ℕ} 0 1 = cc in omega arith), λ x. absurd (s x))

pub says_as : {X Y : Type 0} (r : Bool) → Says r X → X ↔ Y → Says r Y
says_as true s f = f.0 s
says_as false s f = λ y. s (f.1 y)

pub good_or_bad : (i : ℕ) → good ≡ bad i → ⊥
good_or_bad i e = let z : ◌≡◌ {A = ℕ} 0 1 = cc in omega arith

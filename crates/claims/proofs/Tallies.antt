-- Counting entries and sessions: one place and all the others, so that a store changes the count at one place alone.
use mathlib.Core.Path.{◌≡◌, refl, sym, ap, ap₂, ◌∙◌}
use mathlib.Core.Bool.{Bool, true, false, not, ◌&&◌, cond}
use mathlib.Core.List.{List, [], ◌∷◌, map}
use Prim.Native.Nat.{ℕ, zero, suc, ◌+◌, ◌<◌}
use native.Mathlib.Omega.{arith}
use lib.Dec.{eqb}
use lib.ListN.{set, length}
use borrow.Author.Tests.{ne_eqb}
use Rattle.model.specs.Lists.{all, keep, tally}
use Rattle.model.specs.State.{Entry, at, live}
use Rattle.model.specs.LockModel.{Session}
use Rattle.model.specs.Agreement.{as_session, as_sessions}

abbrev pub one : Bool → ℕ
one b = cond b 1 0

module _ {A : Type 0} where
  pub tally_cons : (p : A → Bool) (x : A) (xs : List A) → tally p (x ∷ xs) ≡ one (p x) + tally p xs
  tally_cons p x xs = go (p x)
    where
      go : (b : Bool) → cond b (suc (tally p xs)) (tally p xs) ≡ one b + tally p xs
      go true = omega arith
      go false = omega arith

  -- every element passes: none fails
  pub all_tally : (p : A → Bool) (xs : List A) → all p xs ≡ eqb (tally (λ x. not (p x)) xs) 0
  all_tally p [] = refl
  all_tally p (x ∷ xs) = go (p x) (all_tally p xs)
    where
      go : (b : Bool) → all p xs ≡ eqb (tally (λ x. not (p x)) xs) 0 → (b && all p xs) ≡ eqb (cond (not b) (suc (tally (λ x. not (p x)) xs)) (tally (λ x. not (p x)) xs)) 0
      go true h = h
      go false h = sym (ne_eqb (suc (tally (λ x. not (p x)) xs)) 0 (λ z. omega arith))

  pub tally_keep : (p q : A → Bool) (xs : List A) → tally p (keep (λ x. not (q x)) xs) ≡ tally (λ x. not (q x) && p x) xs
  tally_keep p q [] = refl
  tally_keep p q (x ∷ xs) = go (q x) (tally_keep p q xs)
    where
      go : (b : Bool) → tally p (keep (λ x. not (q x)) xs) ≡ tally (λ x. not (q x) && p x) xs
          → tally p (cond (not b) (x ∷ keep (λ x. not (q x)) xs) (keep (λ x. not (q x)) xs)) ≡ cond (not b && p x) (suc (tally (λ x. not (q x) && p x) xs)) (tally (λ x. not (q x) && p x) xs)
      go true h = h
      go false h = ap (λ n. cond (p x) (suc n) n) h

pub tally_map : (p : Session → Bool) (g : Session → Session) (xs : List Session) → tally p (map g xs) ≡ tally (λ x. p (g x)) xs
tally_map p g [] = refl
tally_map p g (x ∷ xs) = ap (λ n. cond (p (g x)) (suc n) n) (tally_map p g xs)

-- the live sessions
abbrev pub lower : (Session → Bool) → Entry → Bool
lower p e = live e && p (as_session e)

pub tally_seen : (p : Session → Bool) (es : List Entry) → tally p (as_sessions es) ≡ tally (lower p) es
tally_seen p [] = refl
tally_seen p (e ∷ es) = go (live e) (tally_seen p es)
  where
    go : (b : Bool) → tally p (as_sessions es) ≡ tally (lower p) es →
        tally p (cond b (as_session e ∷ as_sessions es) (as_sessions es)) ≡ cond (b && p (as_session e)) (suc (tally (lower p) es)) (tally (lower p) es)
    go true h = ap (λ n. cond (p (as_session e)) (suc n) n) h
    go false h = h

-- all places but one
abbrev pub tally_but : (Entry → Bool) → ℕ → List Entry → ℕ
tally_but p i [] = 0
tally_but p zero (x ∷ xs) = tally p xs
tally_but p (suc i) (x ∷ xs) = one (p x) + tally_but p i xs

pub tally_split : (p : Entry → Bool) (es : List Entry) (i : ℕ) → i < length es → tally p es ≡ one (p (at es i)) + tally_but p i es
tally_split p [] i h = absurd (omega arith)
tally_split p (x ∷ es) zero h = tally_cons p x es
tally_split p (x ∷ es) (suc i) h = tally_cons p x es ∙ omega (arith, tally_split p es i (omega arith))

pub tally_but_at : (p : Entry → Bool) (es : List Entry) (i : ℕ) (y : Entry) → tally_but p i (set es i y) ≡ tally_but p i es
tally_but_at p [] i y = refl
tally_but_at p (x ∷ es) zero y = refl
tally_but_at p (x ∷ es) (suc i) y = ap (λ n. one (p x) + n) (tally_but_at p es i y)

pub tally_same : (p : Entry → Bool) (es : List Entry) (i : ℕ) (y : Entry) → p y ≡ p (at es i) → tally p (set es i y) ≡ tally p es
tally_same p [] i y h = refl
tally_same p (x ∷ es) zero y h = ap (λ b. cond b (suc (tally p es)) (tally p es)) h
tally_same p (x ∷ es) (suc i) y h = ap (λ n. cond (p x) (suc n) n) (tally_same p es i y h)

pub tally_cong : (p q : Entry → Bool) (es : List Entry) → ((j : ℕ) → p (at es j) ≡ q (at es j)) → tally p es ≡ tally q es
tally_cong p q [] h = refl
tally_cong p q (x ∷ es) h = ap₂ (λ (b : Bool) (n : ℕ). cond b (suc n) n) (h 0) (tally_cong p q es (λ j. h (suc j)))

pub tally_but_cong : (p q : Entry → Bool) (es : List Entry) (i : ℕ) → ((j : ℕ) → (j ≡ i → ⊥) → p (at es j) ≡ q (at es j)) → tally_but p i es ≡ tally_but q i es
tally_but_cong p q [] i h = refl
tally_but_cong p q (x ∷ es) zero h = tally_cong p q es (λ j. h (suc j) (λ e. omega arith))
tally_but_cong p q (x ∷ es) (suc i) h = ap₂ (λ (b : Bool) (n : ℕ). one b + n) (h 0 (λ e. omega arith)) (tally_but_cong p q es i (λ j d. h (suc j) (λ e. d (omega arith))))

-- Which rule of a row decides, by a test of verdicts that those before it do not pass.
use mathlib.Core.Path.{◌≡◌, refl, sym, ◌∙◌}
use mathlib.Core.Bool.{Bool, true, false, not, cond, true≢false}
use mathlib.Core.List.{List, [], ◌∷◌}
use Prim.Native.Nat.{ℕ, zero, suc}
use lib.ListN.{take, drop}
use Rattle.model.specs.Lists.{all}
use Rattle.model.specs.Checks.{Verdict, Verdict.v_acts, Rule, first}
use Rattle.model.proofs.Basics.{and_l, and_r, not_of}

module _ (q : Verdict → Bool) (passes : q v_acts ≡ false) where
  beyond : (r : Rule) (rs : List Rule) → q r.then ≡ false → q (first (r ∷ rs)) ≡ true → (r.test ≡ false) × (q (first rs) ≡ true)
  beyond r rs n e = go r.test refl e
    where
      go : (b : Bool) → r.test ≡ b → q (cond b r.then (first rs)) ≡ true → (r.test ≡ false) × (q (first rs) ≡ true)
      go true t e = absurd (true≢false (sym e ∙ n))
      go false t e = (t, e)

  -- no rule of the row
  pub never : (rs : List Rule) → all (λ r. not (q r.then)) rs ≡ true → q (first rs) ≡ true → ⊥
  never [] a e = true≢false (sym e ∙ passes)
  never (r ∷ rs) a e = never rs (and_r (not (q r.then)) _ a) (beyond r rs (not_of _ (and_l (not (q r.then)) _ a)) e).1

  -- the first n rules do not apply, and the next ones decide
  abbrev pub Before : ℕ → List Rule → Type 0
  Before zero rs = q (first rs) ≡ true
  Before (suc n) [] = ⊥
  Before (suc n) (r ∷ rs) = (r.test ≡ false) × Before n rs

  pub before : (n : ℕ) (rs : List Rule) → all (λ r. not (q r.then)) (take n rs) ≡ true → q (first rs) ≡ true → Before n rs
  before zero rs a e = e
  before (suc n) [] a e = true≢false (sym e ∙ passes)
  before (suc n) (r ∷ rs) a e =
      let x = beyond r rs (not_of _ (and_l (not (q r.then)) _ a)) e in
      (x.0, before n rs (and_r (not (q r.then)) _ a) x.1)

  -- the first rule does, where no later one can
  abbrev pub Applies : List Rule → Type 0
  Applies [] = ⊥
  Applies (r ∷ rs) = r.test ≡ true

  pub applies : (rs : List Rule) → all (λ r. not (q r.then)) (drop 1 rs) ≡ true → q (first rs) ≡ true → Applies rs
  applies [] a e = true≢false (sym e ∙ passes)
  applies (r ∷ rs) a e = go r.test refl e
    where
      go : (b : Bool) → r.test ≡ b → q (cond b r.then (first rs)) ≡ true → r.test ≡ true
      go true t e = t
      go false t e = absurd (never rs a e)

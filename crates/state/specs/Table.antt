-- A table as a list: `tab f a n` is f at a, a + 1, .., n times. Its laws, once, for any row. Assumes nothing.
use Rattle.std.specs.Prelude.{◌≡◌, Bool, true, false, ◌&&◌, ◌⊎◌, length, get_or, set}
use Rattle.std.proofs.Math.Path.{refl, ap}
use Rattle.std.proofs.Common.{sym, ◌∙◌, inl, inr, ⊎_elim, not-suc-le-zero, le_of_suc-le-suc}
use mathlib.Core.List.{List, [], ◌∷◌, ◌++◌}
use Prim.Native.Nat.{ℕ, zero, suc, ◌+◌, ◌≤◌, ◌<◌}
use Rattle.std.proofs.Math.Nat.{add-zero}
use native.Mathlib.Omega.{arith}
use Rattle.wire.specs.Both.{and_left, and_right}
use Rattle.model.specs.Lists.{all, all_but}

unfoldable pub tab : {A : Type 0} → (ℕ → A) → ℕ → ℕ → List A
tab f a zero = []
tab f a (suc n) = f a ∷ tab f (suc a) n

-- two places that differ: one is before the other
pub apart : (j i : ℕ) → (j ≡ i → ⊥) → (j < i) ⊎ (i < j)
apart zero zero h = absurd (h refl)
apart zero (suc i) h = inl (omega arith)
apart (suc j) zero h = inr (omega arith)
apart (suc j) (suc i) h = ⊎_elim (λ (l : j < i). inl (omega arith)) (λ (l : i < j). inr (omega arith)) (apart j i (λ e. h (ap suc e)))

pub below : (a b : ℕ) → (a < b) ⊎ (b ≤ a)
below a zero = inr (omega arith)
below zero (suc b) = inl (omega arith)
below (suc a) (suc b) = ⊎_elim (λ (l : a < b). inl (omega arith)) (λ (l : b ≤ a). inr (omega arith)) (below a b)

and_no : (x : Bool) {y : Bool} → y ≡ false → (x && y) ≡ false
and_no true q = q
and_no false q = refl

module _ {A : Type 0} where
  pub length_tab : (f : ℕ → A) (a n : ℕ) → length (tab f a n) ≡ n
  unfolding tab
  length_tab f a zero = refl
  length_tab f a (suc n) = ap suc (length_tab f (suc a) n)

  -- reading row i
  pub get_d_tab : (f : ℕ → A) (a n i : ℕ) (d : A) → i < n → get_or (tab f a n) i d ≡ f (a + i)
  unfolding tab
  get_d_tab f a zero i d h = absurd (not-suc-le-zero h)
  get_d_tab f a (suc n) zero d h = rw add-zero
  get_d_tab f a (suc n) (suc i) d h = get_d_tab f (suc a) n i d (le_of_suc-le-suc h) ∙ ap f (omega arith)

  -- two tables that agree on every row
  pub tab_same : (f g : ℕ → A) (a n : ℕ) → ((j : ℕ) → a ≤ j → j < a + n → f j ≡ g j) → tab f a n ≡ tab g a n
  unfolding tab
  tab_same f g a zero h = refl
  tab_same f g a (suc n) h = λ k. h a (omega arith) (omega arith) k ∷ tab_same f g (suc a) n (λ j p q. h j (omega arith) (omega arith)) k

  -- a table g that is f but at row i, where it is x
  pub tab_set : (f g : ℕ → A) (a n i : ℕ) (x : A) → i < n → g (a + i) ≡ x
      → ((j : ℕ) → a ≤ j → j < a + n → (j ≡ a + i → ⊥) → g j ≡ f j) → tab g a n ≡ set (tab f a n) i x
  unfolding tab
  tab_set f g a zero i x h e o = absurd (not-suc-le-zero h)
  tab_set f g a (suc n) zero x h e o =
      λ k. (ap g (sym (add-zero a)) ∙ e) k ∷ tab_same g f (suc a) n (λ j p q. o j (omega arith) (omega arith) (omega arith)) k
  tab_set f g a (suc n) (suc i) x h e o =
      let m : suc a + i ≡ a + suc i = omega arith in
      λ k. o a (omega arith) (omega arith) (omega arith) k
      ∷ tab_set f g (suc a) n i x (le_of_suc-le-suc h) (ap g m ∙ e) (λ j p q r. o j (omega arith) (omega arith) (omega arith)) k

  -- a test that every row passes, one that a row fails; and the same for all rows but one
  pub all_tab : (p : A → Bool) (f : ℕ → A) (a n : ℕ) → ((j : ℕ) → a ≤ j → j < a + n → p (f j) ≡ true) → all p (tab f a n) ≡ true
  unfolding tab
  all_tab p f a zero h = refl
  all_tab p f a (suc n) h = rw (h a (omega arith) (omega arith)) (all_tab p f (suc a) n (λ j x y. h j (omega arith) (omega arith)))

  pub not_all_tab : (p : A → Bool) (f : ℕ → A) (a n i : ℕ) → i < n → p (f (a + i)) ≡ false → all p (tab f a n) ≡ false
  unfolding tab
  not_all_tab p f a zero i h e = absurd (not-suc-le-zero h)
  not_all_tab p f a (suc n) zero h e = rw (ap (λ (m : ℕ). p (f m)) (sym (add-zero a)) ∙ e)
  not_all_tab p f a (suc n) (suc i) h e =
      let m : suc a + i ≡ a + suc i = omega arith in
      and_no (p (f a)) (not_all_tab p f (suc a) n i (le_of_suc-le-suc h) (ap (λ (k : ℕ). p (f k)) m ∙ e))

  -- and back: a row of a table all of whose rows pass
  pub all_tab_row : (p : A → Bool) (f : ℕ → A) (a n i : ℕ) → all p (tab f a n) ≡ true → i < n → p (f (a + i)) ≡ true
  unfolding tab
  all_tab_row p f a zero i e h = absurd (not-suc-le-zero h)
  all_tab_row p f a (suc n) zero e h = ap (λ (m : ℕ). p (f m)) (add-zero a) ∙ and_left (p (f a)) (all p (tab f (suc a) n)) e
  all_tab_row p f a (suc n) (suc i) e h =
      let m : a + suc i ≡ suc a + i = omega arith in
      ap (λ (k : ℕ). p (f k)) m ∙ all_tab_row p f (suc a) n i (and_right (p (f a)) (all p (tab f (suc a) n)) e) (le_of_suc-le-suc h)

  -- a table with one row more
  pub tab_more : (f : ℕ → A) (a n : ℕ) → tab f a (suc n) ≡ tab f a n ++ (f (a + n) ∷ [])
  unfolding tab
  tab_more f a zero = ap (λ (m : ℕ). f m ∷ []) (sym (add-zero a))
  tab_more f a (suc n) =
      let m : suc a + n ≡ a + suc n = omega arith in
      ap (λ (l : List A). f a ∷ l) (tab_more f (suc a) n ∙ ap (λ (k : ℕ). tab f (suc a) n ++ (f k ∷ [])) m)

  pub all_but_tab : (p : A → Bool) (f : ℕ → A) (a n i : ℕ) → ((j : ℕ) → a ≤ j → j < a + n → (j ≡ a + i → ⊥) → p (f j) ≡ true) → all_but p i (tab f a n) ≡ true
  unfolding tab
  all_but_tab p f a zero i h = refl
  all_but_tab p f a (suc n) zero h = all_tab p f (suc a) n (λ j x y. h j (omega arith) (omega arith) (omega arith))
  all_but_tab p f a (suc n) (suc i) h =
      rw (h a (omega arith) (omega arith) (omega arith)) (all_but_tab p f (suc a) n i (λ j x y o. h j (omega arith) (omega arith) (omega arith)))

  pub not_all_but_tab : (p : A → Bool) (f : ℕ → A) (a n i j : ℕ) → j < n → (j ≡ i → ⊥) → p (f (a + j)) ≡ false → all_but p i (tab f a n) ≡ false
  unfolding tab
  not_all_but_tab p f a zero i j h o e = absurd (not-suc-le-zero h)
  not_all_but_tab p f a (suc n) zero zero h o e = absurd (o refl)
  not_all_but_tab p f a (suc n) zero (suc j) h o e =
      let m : suc a + j ≡ a + suc j = omega arith in
      not_all_tab p f (suc a) n j (le_of_suc-le-suc h) (ap (λ (k : ℕ). p (f k)) m ∙ e)
  not_all_but_tab p f a (suc n) (suc i) zero h o e = rw (ap (λ (m : ℕ). p (f m)) (sym (add-zero a)) ∙ e)
  not_all_but_tab p f a (suc n) (suc i) (suc j) h o e =
      let m : suc a + j ≡ a + suc j = omega arith in
      and_no (p (f a)) (not_all_but_tab p f (suc a) n i j (le_of_suc-le-suc h) (λ q. o (ap suc q)) (ap (λ (k : ℕ). p (f k)) m ∙ e))

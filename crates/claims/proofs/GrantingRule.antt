-- The laws of the granting rule: it says what 01 says, both ways (D); it goes by the locks alone; and a lock given to another never makes a
-- request grantable. Nothing else opens the definition.
use mathlib.Core.Path.{◌≡◌, refl, sym, ap, ap₂, ◌∙◌}
use mathlib.Core.Bool.{Bool, true, false, not, ◌&&◌, ◌||◌, false≢true, true≢false}
use mathlib.Core.List.{List, [], ◌∷◌}
use mathlib.Core.Logic.{inl, inr}
use Prim.Native.Nat.{ℕ, zero, suc}
use native.Mathlib.Omega.{arith}
use lib.Dec.{eqb}
use lib.ListN.{set}
use lib.Seq.{get_or-set_other}
use borrow.Author.Tests.{eqb-true, eq-eqb}
use Rattle.model.specs.Lists.{is_nil, same, all, all_but}
use Rattle.model.specs.State.{Entry, blank, at, live}
use Rattle.model.specs.Locks.{no_exclusive, no_shared, fits, holds, give, give_at, grant, may_grant}
use Rattle.model.specs.Granting.{MayExclusive, MayShared}
use Rattle.model.proofs.Basics.{and_l, and_r, both, not_of, isn't, or_of, or_r, or→, or_map, not_not, all_at, all_back, all_but_back, all_same, all_but_same, allBut→}

module _ (p : Entry → Bool) (pb : p blank ≡ true) where
  all→ : (es : List Entry) → all p es ≡ true → (j : ℕ) → p (at es j) ≡ true
  all→ es a j = all_at p es j pb a

  all← : (es : List Entry) → ((j : ℕ) → p (at es j) ≡ true) → all p es ≡ true
  all← [] h = refl
  all← (x ∷ es) h = both _ _ (h 0) (all← es (λ j. h (suc j)))

  allBut← : (es : List Entry) (i : ℕ) → ((j : ℕ) → (j ≡ i → ⊥) → p (at es j) ≡ true) → all_but p i es ≡ true
  allBut← [] i h = refl
  allBut← (x ∷ es) zero h = all← es (λ j. h (suc j) (λ e. omega arith))
  allBut← (x ∷ es) (suc i) h = both _ _ (h 0 (λ e. omega arith)) (allBut← es i (λ j d. h (suc j) (λ e. d (omega arith))))

pub nil→ : (l : List ℕ) → is_nil l ≡ true → l ≡ []
nil→ [] e = refl
nil→ (x ∷ l) e = absurd (false≢true e)

pub nil← : (l : List ℕ) → l ≡ [] → is_nil l ≡ true
nil← l e = rw e

pub same→ : (k l : List ℕ) → same k l ≡ true → k ≡ l
same→ [] [] e = refl
same→ [] (y ∷ l) e = absurd (false≢true e)
same→ (x ∷ k) [] e = absurd (false≢true e)
same→ (x ∷ k) (y ∷ l) e = ap₂ ◌∷◌ (eqb-true x y (and_l (eqb x y) _ e)) (same→ k l (and_r (eqb x y) _ e))

pub same_refl : (k : List ℕ) → same k k ≡ true
same_refl [] = refl
same_refl (x ∷ k) = both _ _ (eq-eqb x x refl) (same_refl k)

pub may_exclusive : (es : List Entry) (i : ℕ) → may_grant es i [] ≡ true → MayExclusive es i
unfolding may_grant
may_exclusive es i h =
    record {
      no_other = λ j d. not_of _ (allBut→ no_exclusive es i refl (and_l (all_but no_exclusive i es) _ h) j d);
      shared =
          mathlib.Core.Logic.⊎_elim
          (λ a. inl (λ j d. nil→ _ (allBut→ no_shared es i refl a j d)))
          (λ a. inr (λ e. true≢false (sym a ∙ ap not (nil← _ e))))
          (or→ (all_but no_shared i es) _ (and_r (all_but no_exclusive i es) _ h));
    }

pub exclusive_may : (es : List Entry) (i : ℕ) → MayExclusive es i → may_grant es i [] ≡ true
unfolding may_grant
exclusive_may es i m =
    both
    _
    _
    (allBut← no_exclusive refl es i (λ j d. ap not (m.no_other j d)))
    (mathlib.Core.Logic.⊎_elim
    (λ a. or_of _ _ (allBut← no_shared refl es i (λ j d. nil← _ (a j d))))
    (λ n. or_r (all_but no_shared i es) _ (ap not (isn't (no_shared (at es i)) (λ e. n (nil→ _ e)))))
    m.shared)

pub may_shared : (es : List Entry) (i x : ℕ) (k : List ℕ) → may_grant es i (x ∷ k) ≡ true → MayShared es i (x ∷ k)
unfolding may_grant
may_shared es i x k h =
    record {
      no_other = λ j d. not_of _ (allBut→ no_exclusive es i refl (and_l (all_but no_exclusive i es) _ h) j d);
      alike =
          λ j n.
          mathlib.Core.Logic.⊎_elim
          (λ a. absurd (n (nil→ _ a)))
          (λ a. same→ _ _ a)
          (or→ (no_shared (at es j)) _ (all→ (fits (x ∷ k)) refl es (and_r (all_but no_exclusive i es) _ h) j));
    }

pub shared_may : (es : List Entry) (i x : ℕ) (k : List ℕ) → MayShared es i (x ∷ k) → may_grant es i (x ∷ k) ≡ true
unfolding may_grant
shared_may es i x k m =
    both
    _
    _
    (allBut← no_exclusive refl es i (λ j d. ap not (m.no_other j d)))
    (all← (fits (x ∷ k)) refl es (λ j. go j (no_shared (at es j)) refl))
  where
    go : (j : ℕ) (b : Bool) → no_shared (at es j) ≡ b → (b || same (at es j).shared (x ∷ k)) ≡ true
    go j true e = refl
    go j false e = rw (m.alike j (λ n. true≢false (sym (nil← _ n) ∙ e))) (same_refl (x ∷ k))

-- the rule's tests, as they stand
pub exclusive_rule : (es : List Entry) (i : ℕ) → may_grant es i [] ≡ (all_but no_exclusive i es && (all_but no_shared i es || not (no_shared (at es i))))
unfolding may_grant
exclusive_rule es i = refl

pub shared_rule : (es : List Entry) (i x : ℕ) (k : List ℕ) → may_grant es i (x ∷ k) ≡ (all_but no_exclusive i es && all (fits (x ∷ k)) es)
unfolding may_grant
shared_rule es i x k = refl

-- a live session that does not hold that kind
abbrev pub ready : Entry → List ℕ → Bool
ready e k = live e && not (holds k e)

-- a grant to another slot leaves what was refused refused
no_excl_give : (k : List ℕ) (e : Entry) → no_exclusive (give k e) ≡ true → no_exclusive e ≡ true
no_excl_give [] e h = absurd (false≢true h)
no_excl_give (x ∷ k) e h = h

no_shared_give : (k : List ℕ) (e : Entry) → no_shared (give k e) ≡ true → no_shared e ≡ true
no_shared_give [] e h = h
no_shared_give (x ∷ k) e h = absurd (false≢true h)

fits_give : (k : List ℕ) (m : List ℕ) (e : Entry) → ready e m ≡ true → fits k (give m e) ≡ true → fits k e ≡ true
fits_give k [] e r h = h
fits_give k (x ∷ m) e r h = or_of (no_shared e) _ (sym (not_not (no_shared e)) ∙ and_r (live e) _ r)

pub may_back : (now : ℕ) (es : List Entry) (i j : ℕ) (m k : List ℕ) → (j ≡ i → ⊥) → ready (at es i) m ≡ true → may_grant (grant now es i m) j k ≡ true → may_grant es j k ≡ true
unfolding may_grant
may_back now es i j m [] d r h =
    let g = give_at now m (at es i) in
    both
    _
    _
    (all_but_back no_exclusive es i j g (no_excl_give m _) (and_l (all_but no_exclusive j (set es i g)) _ h))
    (or_map
    (all_but no_shared j (set es i g))
    _
    _
    (all_but_back no_shared es i j g (no_shared_give m _))
    (rw (get_or-set_other es i j g blank d) at (and_r (all_but no_exclusive j (set es i g)) _ h)))
may_back now es i j m (x ∷ k) d r h =
    let g = give_at now m (at es i) in
    both
    _
    _
    (all_but_back no_exclusive es i j g (no_excl_give m _) (and_l (all_but no_exclusive j (set es i g)) _ h))
    (all_back (fits (x ∷ k)) es i g (fits_give (x ∷ k) m _ r) (and_r (all_but no_exclusive j (set es i g)) _ h))

-- a store that leaves the locks as they are leaves the granting rule as it is
pub may_same : (es : List Entry) (i j : ℕ) (y : Entry) (k : List ℕ) → y.exclusive ≡ (at es i).exclusive → y.shared ≡ (at es i).shared → may_grant (set es i y) j k ≡ may_grant es j k
unfolding may_grant
may_same es i j y [] x s =
    rw (all_but_same no_exclusive es i j y (ap not x), all_but_same no_shared es i j y (ap Rattle.model.specs.Lists.is_nil s), shared_at es i j)
  where
    shared_at : (es : List Entry) (i j : ℕ) → y.shared ≡ (at es i).shared → (at (set es i y) j).shared ≡ (at es j).shared
    shared_at [] i j s = refl
    shared_at (z ∷ es) zero zero s = s
    shared_at (z ∷ es) zero (suc j) s = refl
    shared_at (z ∷ es) (suc i) zero s = refl
    shared_at (z ∷ es) (suc i) (suc j) s = shared_at es i j s
may_same es i j y (z ∷ k) x s =
    rw (all_but_same no_exclusive es i j y (ap not x), all_same (fits (z ∷ k)) es i y (ap (λ l. Rattle.model.specs.Lists.is_nil l || Rattle.model.specs.Lists.same l (z ∷ k)) s))

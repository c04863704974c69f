-- A list of waiting requests with just one of a slot, or none: what stays of it when some are dropped, when a look goes over it, and when one comes.
use mathlib.Core.Path.{◌≡◌, refl, sym, ap, ◌∙◌}
use mathlib.Core.Bool.{Bool, true, false, not, ◌&&◌, ◌||◌, cond, true≢false}
use mathlib.Core.List.{List, [], ◌∷◌, ◌++◌, map}
use mathlib.Core.Logic.{◌⊎◌, inl, inr}
use Prim.Native.Nat.{ℕ}
use lib.Dec.{eqb}
use borrow.Author.Tests.{eq-eqb, ne_eqb}
use Rattle.wire.specs.Frame.{Frame}
use Rattle.model.specs.Lists.{all, keep}
use Rattle.model.specs.State.{Entry, Waiting, at}
use Rattle.model.specs.Locks.{elsewhere}
use Rattle.model.specs.Closing.{OldestFirst, OldestFirst.pass_end, OldestFirst.pass_grant, OldestFirst.pass_wait}
use Rattle.model.specs.LocalityReplies.{waiting_answer}
use Rattle.model.specs.Locality.{Look}
use Rattle.model.specs.AnsweredOnce.{codes_to}
use Rattle.model.proofs.Basics.{and_l, and_r, both, not_of, all_keep, apart}
use Rattle.claims.proofs.Invariant.{Good}

-- just one is of slot j, with deadline t
abbrev pub One : ℕ → ℕ → List Waiting → Type 0
One j t [] = ⊥
One j t (w ∷ ws) = ((w.slot ≡ j) × (w.deadline ≡ t) × (all (elsewhere j) ws ≡ true)) ⊎ ((elsewhere j w ≡ true) × One j t ws)

abbrev pub None : ℕ → List Waiting → Type 0
None j ws = all (elsewhere j) ws ≡ true

pub all_imp : (p q : Waiting → Bool) → ((w : Waiting) → p w ≡ true → q w ≡ true) → (ws : List Waiting) → all p ws ≡ true → all q ws ≡ true
all_imp p q f [] a = refl
all_imp p q f (w ∷ ws) a = both _ _ (f w (and_l (p w) _ a)) (all_imp p q f ws (and_r (p w) _ a))

pub all_and : (p q : Waiting → Bool) (ws : List Waiting) → all p ws ≡ true → all q ws ≡ true → all (λ w. p w && q w) ws ≡ true
all_and p q [] a b = refl
all_and p q (w ∷ ws) a b = both _ _ (both _ _ (and_l (p w) _ a) (and_l (q w) _ b)) (all_and p q ws (and_r (p w) _ a) (and_r (q w) _ b))

-- some are dropped
module _ (j t : ℕ) (q : Waiting → Bool) where
  pub keep_one : ((w : Waiting) → w.slot ≡ j → w.deadline ≡ t → q w ≡ true) → (ws : List Waiting) → One j t ws → One j t (keep q ws)
  keep_one f [] o = absurd o
  keep_one f (w ∷ ws) (inl o) = rw (f w o.0 o.1) (inl (o.0, o.1, all_keep (elsewhere j) q ws o.2))
  keep_one f (w ∷ ws) (inr o) = go (q w) (keep_one f ws o.1)
    where
      go : (b : Bool) → One j t (keep q ws) → One j t (cond b (w ∷ keep q ws) (keep q ws))
      go true r = inr (o.0, r)
      go false r = r

  pub keep_gone : ((w : Waiting) → w.slot ≡ j → w.deadline ≡ t → q w ≡ false) → (ws : List Waiting) → One j t ws → None j (keep q ws)
  keep_gone f [] o = absurd o
  keep_gone f (w ∷ ws) (inl o) = rw (f w o.0 o.1) (all_keep (elsewhere j) q ws o.2)
  keep_gone f (w ∷ ws) (inr o) = go (q w) (keep_gone f ws o.1)
    where
      go : (b : Bool) → None j (keep q ws) → None j (cond b (w ∷ keep q ws) (keep q ws))
      go true r = both _ _ o.0 r
      go false r = r

-- a look
old_all : (p : Waiting → Bool) {now : ℕ} {es es' : List Entry} {ws vs gs : List Waiting} → OldestFirst now es ws es' vs gs → all p ws ≡ true → (all p vs ≡ true) × (all p gs ≡ true)
old_all p pass_end a = (refl, refl)
old_all p (pass_grant w m l) a = let r = old_all p l (and_r (p w) _ a) in (r.0, both _ _ (and_l (p w) _ a) r.1)
old_all p (pass_wait w m l) a = let r = old_all p l (and_r (p w) _ a) in (both _ _ (and_l (p w) _ a) r.0, r.1)

old_one : (j t : ℕ) {now : ℕ} {es es' : List Entry} {ws vs gs : List Waiting} → OldestFirst now es ws es' vs gs → One j t ws → (One j t vs × None j gs) ⊎ (None j vs × One j t gs)
old_one j t pass_end o = absurd o
old_one j t (pass_grant w m l) (inl o) = let r = old_all (elsewhere j) l o.2 in inr (r.0, inl (o.0, o.1, r.1))
old_one j t (pass_grant {vs = vs} {gs = gs} w m l) (inr o) = go (old_one j t l o.1)
  where
    go : (One j t vs × None j gs) ⊎ (None j vs × One j t gs) → (One j t vs × None j (w ∷ gs)) ⊎ (None j vs × One j t (w ∷ gs))
    go (inl r) = inl (r.0, both _ _ o.0 r.1)
    go (inr r) = inr (r.0, inr (o.0, r.1))
old_one j t (pass_wait w m l) (inl o) = let r = old_all (elsewhere j) l o.2 in inl (inl (o.0, o.1, r.0), r.1)
old_one j t (pass_wait {vs = vs} {gs = gs} w m l) (inr o) = go (old_one j t l o.1)
  where
    go : (One j t vs × None j gs) ⊎ (None j vs × One j t gs) → (One j t (w ∷ vs) × None j gs) ⊎ (None j (w ∷ vs) × One j t gs)
    go (inl r) = inl (inr (o.0, r.0), r.1)
    go (inr r) = inr (both _ _ o.0 r.0, r.1)

pub look_all : (now : ℕ) (p : Waiting → Bool) (b : Bool) (es : List Entry) (ws : List Waiting) (es' : List Entry) (vs gs : List Waiting) →
    Look now b es ws es' vs gs → all p ws ≡ true → (all p vs ≡ true) × (all p gs ≡ true)
look_all now p true es ws es' vs gs l a = old_all p l a
look_all now p false es ws es' vs gs l a = (rw l.1 a, rw l.2)

pub look_one : (now j t : ℕ) (b : Bool) (es : List Entry) (ws : List Waiting) (es' : List Entry) (vs gs : List Waiting) → Look now b es ws es' vs gs →
    One j t ws → (One j t vs × None j gs) ⊎ (None j vs × One j t gs)
look_one now j t true es ws es' vs gs l o = old_one j t l o
look_one now j t false es ws es' vs gs l o = inl (rw l.1 o, rw l.2)

-- one comes
pub snoc_one : (j t : ℕ) (w : Waiting) → elsewhere j w ≡ true → (ws : List Waiting) → One j t ws → One j t (ws ++ w ∷ [])
snoc_one j t w e [] o = absurd o
snoc_one j t w e (u ∷ ws) (inl o) = inl (o.0, o.1, none-snoc ws o.2)
  where
    none-snoc : (ws : List Waiting) → None j ws → None j (ws ++ w ∷ [])
    none-snoc [] a = both _ _ e refl
    none-snoc (u ∷ ws) a = both _ _ (and_l (elsewhere j u) _ a) (none-snoc ws (and_r (elsewhere j u) _ a))
snoc_one j t w e (u ∷ ws) (inr o) = inr (o.0, snoc_one j t w e ws o.1)

pub new_one : (j t : ℕ) (w : Waiting) → w.slot ≡ j → w.deadline ≡ t → (ws : List Waiting) → None j ws → One j t (ws ++ w ∷ [])
new_one j t w s d [] a = inl (s, d, refl)
new_one j t w s d (u ∷ ws) a = inr (and_l (elsewhere j u) _ a, new_one j t w s d ws (and_r (elsewhere j u) _ a))

-- where no two are of one slot, none before it is of its slot
pub good_none : (es : List Entry) (j : ℕ) (w : Waiting) → w.slot ≡ j → (ws : List Waiting) → Good es (ws ++ w ∷ []) → None j ws
good_none es j w s [] g = refl
good_none es j w s (u ∷ ws) g = both _ _ (ap not (ne_eqb u.slot j (λ e. last ws g.1 (e ∙ sym s)))) (good_none es j w s ws g.2)
  where
    last : (ws : List Waiting) → all (elsewhere u.slot) (ws ++ w ∷ []) ≡ true → u.slot ≡ w.slot → ⊥
    last [] a e = apart u.slot w (and_l (elsewhere u.slot w) _ a) (sym e)
    last (x ∷ ws) a e = last ws (and_r (elsewhere u.slot x) _ a) e

pub one_none : (j t : ℕ) (ws : List Waiting) → One j t ws → None j ws → ⊥
one_none j t [] o n = o
one_none j t (w ∷ ws) (inl o) n = apart j w (and_l (elsewhere j w) _ n) o.0
one_none j t (w ∷ ws) (inr o) n = one_none j t ws o.1 (and_r (elsewhere j w) _ n)

-- the codes to a connection of answers to requests: none is its session's; just one is
module _ (c k : ℕ) (es : List Entry) where
  -- the request's session does not have connection c
  abbrev pub away : Waiting → Bool
  away w = not (eqb (at es w.slot).asynchronous c)

  pub codes_none : (ws : List Waiting) → all away ws ≡ true → codes_to c (map (waiting_answer k es) ws) ≡ []
  codes_none [] a = refl
  codes_none (w ∷ ws) a =
      let far : eqb (at es w.slot).asynchronous c ≡ false = not_of _ (and_l (away w) _ a) in
      rw far (codes_none ws (and_r (away w) _ a))

  pub codes_one : (j t : ℕ) → (at es j).asynchronous ≡ c → (ws : List Waiting) → all (λ w. eqb w.slot j || away w) ws ≡ true → One j t ws → codes_to c (map (waiting_answer k es) ws) ≡ k ∷ []
  codes_one j t e [] a o = absurd o
  codes_one j t e (w ∷ ws) a (inl o) =
      let here : eqb (at es w.slot).asynchronous c ≡ true = eq-eqb _ _ (ap (λ (i : ℕ). (at es i).asynchronous) o.0 ∙ e) in
      rw here (ap (λ xs. k ∷ xs)
      (codes_none ws (all_imp (λ w. (eqb w.slot j || away w) && elsewhere j w) away drops ws
      (all_and (λ w. eqb w.slot j || away w) (elsewhere j) ws (and_r (eqb w.slot j || away w) _ a) o.2))))
    where
      drops : (w : Waiting) → ((eqb w.slot j || away w) && elsewhere j w) ≡ true → away w ≡ true
      drops w h = go (eqb w.slot j) h
        where
          go : (b : Bool) → ((b || away w) && not b) ≡ true → away w ≡ true
          go true h = absurd (true≢false (sym (and_r (true || away w) (not true) h)))
          go false h = and_l (away w) true h
  codes_one j t e (w ∷ ws) a (inr o) =
      let far : eqb w.slot j ≡ false = not_of _ o.0 in
      let there : away w ≡ true = rw far at (and_l (eqb w.slot j || away w) _ a) in
      let not_there : eqb (at es w.slot).asynchronous c ≡ false = not_of _ there in
      rw not_there (codes_one j t e ws (and_r (eqb w.slot j || away w) _ a) o.1)

pub codes_append : (c : ℕ) (xs ys : List Frame) → codes_to c (xs ++ ys) ≡ codes_to c xs ++ codes_to c ys
codes_append c [] ys = refl
codes_append c (f ∷ xs) ys = go (eqb f.to c) (codes_append c xs ys)
  where
    go : (b : Bool) → codes_to c (xs ++ ys) ≡ codes_to c xs ++ codes_to c ys →
        cond b (f.message.code ∷ codes_to c (xs ++ ys)) (codes_to c (xs ++ ys)) ≡ cond b (f.message.code ∷ codes_to c xs) (codes_to c xs) ++ codes_to c ys
    go true e = ap (λ zs. f.message.code ∷ zs) e
    go false e = e

-- Waiting requests have different slots, so no more of them wait than there are slots, and fewer while some session has none waiting.
use mathlib.Core.Path.{◌≡◌, refl, ap}
use mathlib.Core.Bool.{Bool, true, false, ◌||◌, cond}
use mathlib.Core.List.{List, [], ◌∷◌}
use Prim.Native.Nat.{ℕ, zero, suc, ◌≤◌, ◌<◌}
use native.Mathlib.Omega.{arith}
use lib.Dec.{eqb, ltb}
use lib.ListN.{length}
use borrow.Author.Tests.{eqb-true, ltb-true, lt-ltb, lt-leb}
use Rattle.model.specs.Sizes.{session_limit}
use Rattle.model.specs.Lists.{all, keep}
use Rattle.model.specs.State.{Entry, Waiting, Locks, at, live}
use Rattle.model.specs.Locks.{LockEvent.request, Ruling, elsewhere, holds, may_grant, no_place, invalid_by, ruling, respond, change}
use Rattle.model.proofs.Basics.{and_l, and_r, both, not_off, apart, inside, all_keep, all_kept}
use Rattle.claims.proofs.Invariant.{Good, Firm}

-- no two requests of one slot
abbrev Distinct : List Waiting → Type 0
Distinct [] = Unit {0}
Distinct (w ∷ ws) = (all (elsewhere w.slot) ws ≡ true) × Distinct ws

good_distinct : (es : List Entry) (ws : List Waiting) → Good es ws → Distinct ws
good_distinct es [] g = tt
good_distinct es (w ∷ ws) g = (g.1, good_distinct es ws g.2)

distinct_keep : (q : Waiting → Bool) (ws : List Waiting) → Distinct ws → Distinct (keep q ws)
distinct_keep q [] g = tt
distinct_keep q (w ∷ ws) g = go (q w) (distinct_keep q ws g.1)
  where
    go : (b : Bool) → Distinct (keep q ws) → Distinct (cond b (w ∷ keep q ws) (keep q ws))
    go true r = (all_keep (elsewhere w.slot) q ws g.0, r)
    go false r = r

-- at most one of them is slot n's
one_fewer : (n : ℕ) (ws : List Waiting) → Distinct ws → length ws ≤ suc (length (keep (elsewhere n) ws))
one_fewer n [] g = omega arith
one_fewer n (w ∷ ws) g = go (elsewhere n w) refl (one_fewer n ws g.1)
  where
    kept_all : (vs : List Waiting) → all (elsewhere w.slot) vs ≡ true → w.slot ≡ n → keep (elsewhere n) vs ≡ vs
    kept_all [] a e = refl
    kept_all (v ∷ vs) a e =
        let h : elsewhere n v ≡ true = rw e at (and_l (elsewhere w.slot v) _ a) in
        rw h (ap (λ l. v ∷ l) (kept_all vs (and_r (elsewhere w.slot v) _ a) e))

    go : (b : Bool) → elsewhere n w ≡ b → length ws ≤ suc (length (keep (elsewhere n) ws)) → suc (length ws) ≤ suc (length (cond b (w ∷ keep (elsewhere n) ws) (keep (elsewhere n) ws)))
    go true e l = omega arith
    go false e l = omega (arith, ap length (kept_all ws g.0 (eqb-true w.slot n (not_off _ e))))

lower : (n : ℕ) (ws : List Waiting) → all (λ w. ltb w.slot (suc n)) ws ≡ true → all (elsewhere n) ws ≡ true → all (λ w. ltb w.slot n) ws ≡ true
lower n [] a b = refl
lower n (w ∷ ws) a b =
    both _ _ (lt-ltb w.slot n (omega (arith, ltb-true w.slot (suc n) (and_l (ltb w.slot (suc n)) _ a), apart n w (and_l (elsewhere n w) _ b))))
    (lower n ws (and_r (ltb w.slot (suc n)) _ a) (and_r (elsewhere n w) _ b))

-- slots below n: no more than n of them
slots_bound : (n : ℕ) (ws : List Waiting) → Distinct ws → all (λ w. ltb w.slot n) ws ≡ true → length ws ≤ n
slots_bound zero ws g a = none ws a
  where
    none : (ws : List Waiting) → all (λ w. ltb w.slot 0) ws ≡ true → length ws ≤ 0
    none [] a = omega arith
    none (w ∷ ws) a = absurd (omega (arith, ltb-true w.slot 0 (and_l (ltb w.slot 0) _ a)))
slots_bound (suc n) ws g a =
    let ks = keep (elsewhere n) ws in
    omega (arith, one_fewer n ws g, slots_bound n ks (distinct_keep (elsewhere n) ws g) (lower n ks (all_keep (λ w. ltb w.slot (suc n)) (elsewhere n) ws a) (all_kept (elsewhere n) ws)))

-- the slots are live, so inside the table
good_inside : (es : List Entry) (ws : List Waiting) → Good es ws → all (λ w. ltb w.slot (length es)) ws ≡ true
good_inside es [] g = refl
good_inside es (w ∷ ws) g = both _ _ (lt-ltb _ _ (inside live es w.slot refl (and_l (live (at es w.slot)) _ g.0))) (good_inside es ws g.2)

pub few_wait : (es : List Entry) (ws : List Waiting) → Good es ws → length ws ≤ length es
few_wait es ws g = slots_bound (length es) ws (good_distinct es ws g) (good_inside es ws g)

pub room_to_wait : (es : List Entry) (ws : List Waiting) (i : ℕ) → Good es ws → live (at es i) ≡ true → all (elsewhere i) ws ≡ true → length ws < length es
room_to_wait es ws i g h a =
    let w : Waiting = record { slot = i; deadline = 0; string = [] } in
    slots_bound (length es) (w ∷ ws) (a, good_distinct es ws g) (both _ _ (lt-ltb _ _ (inside live es i refl h)) (good_inside es ws g))

-- so the place test of a request never decides
ruling_same : (h b s m z p : Bool) → (b ≡ true → p ≡ false) → ruling h b s m (z || p) ≡ ruling h b s m z
ruling_same true b s m z p f = refl
ruling_same false false s m z p f = refl
ruling_same false true s m true p f = refl
ruling_same false true s m false p f = ap (ruling false true s m) (f refl)

pub request_rule : (l : Locks) → Good l.entries l.waiting → Firm l.entries → (i : ℕ) → live (at l.entries i) ≡ true → (t : ℕ) (k : List ℕ) → change l (request i t k)
    ≡ respond (ruling (holds k (at l.entries i)) (all (elsewhere i) l.waiting) (invalid_by k (at l.entries i)) (may_grant l.entries i k) (eqb t 0)) l i t k
unfolding change
request_rule l g f i h t k =
    ap
    (λ (r : Ruling). respond r l i t k)
    (ruling_same (holds k (at l.entries i)) (all (elsewhere i) l.waiting) _ (may_grant l.entries i k) (eqb t 0) (no_place l.waiting)
    (λ a. lt-leb session_limit (length l.waiting) (omega (arith, room_to_wait l.entries l.waiting i g h a, f.slots))))

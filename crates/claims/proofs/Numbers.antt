-- The number issued to a new session is no live session's: with a free slot, one of 32 candidates is free (a count of entries).
use mathlib.Core.Path.{◌≡◌, refl, sym, ap, ◌∙◌}
use mathlib.Core.Bool.{Bool, true, false, not, ◌&&◌, ◌||◌, cond, false≢true, true≢false}
use mathlib.Core.List.{List, [], ◌∷◌}
use mathlib.Core.Logic.{◌⊎◌, inl, inr}
use Prim.Native.Nat.{ℕ, zero, suc, ◌+◌, ◌<◌, ◌≤◌}
use native.Mathlib.Omega.{arith}
use lib.Dec.{eqb}
use lib.ListN.{length}
use borrow.Author.Tests.{eqb-true, eqb-false, eq-eqb, ne_eqb}
use Rattle.model.specs.Sizes.{session_limit}
use Rattle.model.specs.Lists.{all, tally}
use Rattle.model.specs.State.{Entry, blank, at, live, slot_of_number}
use Rattle.model.specs.Locks.{candidate, IsLive, issued}
use Rattle.model.proofs.Basics.{and_l, and_r, not_of, or_of, or_r, or→, pos_found, pos_or, inside}
use Rattle.claims.proofs.Invariant.{numbered}

-- counting entries
tally_mono : (p q : Entry → Bool) (es : List Entry) → ((e : Entry) → p e ≡ true → q e ≡ true) → tally p es ≤ tally q es
tally_mono p q [] h = omega arith
tally_mono p q (x ∷ es) h = go (p x) (q x) refl refl (tally_mono p q es h)
  where
    go : (a b : Bool) → p x ≡ a → q x ≡ b → tally p es ≤ tally q es → cond a (suc (tally p es)) (tally p es) ≤ cond b (suc (tally q es)) (tally q es)
    go true true u v l = omega arith
    go true false u v l = absurd (true≢false (sym (h x u) ∙ v))
    go false true u v l = omega arith
    go false false u v l = l

tally_more : (p q : Entry → Bool) (es : List Entry) (j : ℕ) → ((e : Entry) → p e ≡ true → q e ≡ true) → j < length es → p (at es j) ≡ false → q (at es j) ≡ true → tally p es < tally q es
tally_more p q [] j h l u v = absurd (omega arith)
tally_more p q (x ∷ es) zero h l u v = rw (u, v) (omega (arith, tally_mono p q es h))
tally_more p q (x ∷ es) (suc j) h l u v = go (p x) (q x) refl refl (tally_more p q es j h (omega arith) u v)
  where
    go : (a b : Bool) → p x ≡ a → q x ≡ b → tally p es < tally q es → cond a (suc (tally p es)) (tally p es) < cond b (suc (tally q es)) (tally q es)
    go true true u v l = omega arith
    go true false u v l = absurd (true≢false (sym (h x u) ∙ v))
    go false true u v l = omega arith
    go false false u v l = l

tally_le : (p : Entry → Bool) (es : List Entry) → tally p es ≤ length es
tally_le p [] = omega arith
tally_le p (x ∷ es) = go (p x) (tally_le p es)
  where
    go : (a : Bool) → tally p es ≤ length es → cond a (suc (tally p es)) (tally p es) ≤ suc (length es)
    go true l = omega arith
    go false l = omega arith

tally_free : (p : Entry → Bool) (es : List Entry) → ((e : Entry) → p e ≡ true → live e ≡ true) → all live es ≡ false → tally p es < length es
tally_free p [] h a = absurd (true≢false a)
tally_free p (x ∷ es) h a = go (p x) (live x) refl refl a (λ a. tally_free p es h a)
  where
    go : (b c : Bool) → p x ≡ b → live x ≡ c → (c && all live es) ≡ false → (all live es ≡ false → tally p es < length es) → cond b (suc (tally p es)) (tally p es) < suc (length es)
    go true true u v a f = omega (arith, f a)
    go true false u v a f = absurd (true≢false (sym (h x u) ∙ v))
    go false c u v a f = omega (arith, tally_le p es)

-- the entries that have one of the first k candidates
abbrev below : ℕ → ℕ → Entry → Bool
below last zero e = false
below last (suc k) e = eqb e.number (candidate last k) || below last k e

differ : (last k m : ℕ) → m < k → k ≤ session_limit → candidate last k ≡ candidate last m → ⊥
differ last k m l b e = omega arith

below_not : (last k m : ℕ) → m ≤ k → k ≤ session_limit → (e : Entry) → e.number ≡ candidate last k → below last m e ≡ false
below_not last k zero l b e q = refl
below_not last k (suc m) l b e q = rw (ne_eqb e.number (candidate last m) (λ z. differ last k m (omega arith) b (sym q ∙ z))) (below_not last k m (omega arith) b e q)

numbered_live : (e : Entry) (k : ℕ) → eqb e.number (suc k) ≡ true → live e ≡ true
numbered_live e k h = ap not (ne_eqb e.number 0 (λ z. omega (arith, eqb-true e.number (suc k) h)))

below_live : (last k : ℕ) (e : Entry) → below last k e ≡ true → live e ≡ true
below_live last zero e h = absurd (false≢true h)
below_live last (suc k) e h = go (λ u. below_live last k e u) (or→ (eqb e.number (candidate last k)) _ h)
  where
    go : (below last k e ≡ true → live e ≡ true) → (eqb e.number (candidate last k) ≡ true) ⊎ (below last k e ≡ true) → live e ≡ true
    go f (inl u) = numbered_live e _ u
    go f (inr u) = f u

pub live_found : (es : List Entry) (n : ℕ) → IsLive es n ≡ true → (at es (slot_of_number es n)).number ≡ n
live_found es n v = go (pos_or (λ e. eqb e.number n) es)
  where
    go : (eqb (at es (slot_of_number es n)).number n ≡ true) ⊎ (at es (slot_of_number es n) ≡ blank) → (at es (slot_of_number es n)).number ≡ n
    go (inl h) = eqb-true _ _ h
    go (inr h) = absurd (false≢true (rw h at v))

one_more : (es : List Entry) (last k : ℕ) → k ≤ session_limit → IsLive es (candidate last k) ≡ true → tally (below last k) es < tally (below last (suc k)) es
one_more es last k b v =
    let j = slot_of_number es (candidate last k) in
    let q = live_found es (candidate last k) v in
    tally_more (below last k) (below last (suc k)) es j (λ e h. or_r (eqb e.number (candidate last k)) _ h) (inside live es j refl v)
    (below_not last k k (omega arith) b (at es j) q) (or_of _ _ (eq-eqb _ _ q))

module _ (es : List Entry) (last : ℕ) (free : all live es ≡ false) (slots : length es ≡ session_limit) where
  issued_free : (f k : ℕ) → f + k ≡ session_limit → k ≤ tally (below last k) es → IsLive es (issued f k es last) ≡ false
  issued_free zero k s l = absurd (omega (arith, tally_free (below last k) es (below_live last k) free))
  issued_free (suc f) k s l = go (IsLive es (candidate last k)) refl (λ e l. issued_free f (suc k) e l)
    where
      go : (b : Bool) → IsLive es (candidate last k) ≡ b → (f + suc k ≡ session_limit → suc k ≤ tally (below last (suc k)) es → IsLive es (issued f (suc k) es last) ≡ false)
          → IsLive es (elim b [ true ↦ issued f (suc k) es last | false ↦ candidate last k ]) ≡ false
      go true v ih = ih (omega arith) (omega (arith, one_more es last k (omega arith) v))
      go false v ih = v

  issued_some : (f k : ℕ) → eqb (issued f k es last) 0 ≡ false
  issued_some zero k = ne_eqb (candidate last k) 0 (λ z. omega arith)
  issued_some (suc f) k = go (IsLive es (candidate last k)) (issued_some f (suc k))
    where
      go : (b : Bool) → eqb (issued f (suc k) es last) 0 ≡ false → eqb (elim b [ true ↦ issued f (suc k) es last | false ↦ candidate last k ]) 0 ≡ false
      go true ih = ih
      go false ih = ne_eqb (candidate last k) 0 (λ z. omega arith)

pub live_number : (es : List Entry) (n j : ℕ) → numbered n (at es j) ≡ true → IsLive es n ≡ true
live_number es n j h =
    let e : (at es j).number ≡ n = eqb-true _ _ (and_r (live (at es j)) _ h) in
    let z : eqb n 0 ≡ false = rw e at (not_of (eqb (at es j).number 0) (and_l (live (at es j)) _ h)) in
    let f : eqb (at es (slot_of_number es n)).number n ≡ true = pos_found (λ e. eqb e.number n) es j (ne_eqb 0 n (λ q. eqb-false n 0 z (sym q))) (and_r (live (at es j)) _ h) in
    rw (eqb-true (at es (slot_of_number es n)).number n f, z)

-- what a new session gets
pub record Issued (es : List Entry) (n : ℕ) : Type 0 where
  pub nonzero : eqb n 0 ≡ false
  pub fresh : (j : ℕ) → numbered n (at es j) ≡ true → ⊥

pub issues : (es : List Entry) (last : ℕ) → all live es ≡ false → length es ≡ session_limit → Issued es (issued session_limit 0 es last)
issues es last a s =
    record {
      nonzero = issued_some es last a s session_limit 0;
      fresh = λ j h. true≢false (sym (live_number es (issued session_limit 0 es last) j h) ∙ issued_free es last a s session_limit 0 refl (omega arith));
    }

-- The rows for the front panel, proved: one walk over the slots, with each row put in its place.
use mathlib.Core.Path.{◌≡◌, refl, sym, ap, ◌∙◌}
use mathlib.Core.Bool.{Bool, true, false, not, ◌&&◌, ◌||◌, cond, true≢false}
use mathlib.Core.List.{List, [], ◌∷◌}
use Prim.Native.Nat.{ℕ, suc, ◌<◌, ◌≤◌}
use native.Mathlib.Omega.{arith}
use lib.Dec.{ltb}
use borrow.Author.Tests.{ltb-true, ltb-false, eq-eqb}
use Rattle.model.specs.Lists.{all, tally}
use Rattle.model.specs.State.{Entry, at, live, fresh, Making}
use Rattle.model.specs.Interface.{Event}
use Rattle.model.specs.Locks.{no_exclusive, no_shared}
use Rattle.model.specs.Acts.{holder}
use Rattle.model.specs.Step.{final}
use Rattle.model.specs.LockModel.{Session, not_shared}
use Rattle.model.specs.Agreement.{as_session, as_sessions}
use Rattle.model.specs.Holders.{HolderRow, row_of, put_by, session_of, holders_of, Above, Ascending, holds_lock, HoldersShown}
use Rattle.model.proofs.Basics.{and_l, and_r, both, all_at}
use Rattle.claims.proofs.Invariant.{clean, Firm}
use Rattle.claims.proofs.Fits.{inv_run}
use Rattle.claims.proofs.Agreement.{agreement}

-- a row put in its place is one more, whatever is counted
swap : (a b : Bool) (n : ℕ) → cond a (suc (cond b (suc n) n)) (cond b (suc n) n) ≡ cond b (suc (cond a (suc n) n)) (cond a (suc n) n)
swap true true n = refl
swap true false n = refl
swap false true n = refl
swap false false n = refl

tally_put : (q : HolderRow → Bool) (r : HolderRow) (xs : List HolderRow) → tally q (put_by session_of r xs) ≡ tally q (r ∷ xs)
tally_put q r [] = refl
tally_put q r (x ∷ xs) = go (ltb r.session x.session) (λ y. tally_put q y xs)
  where
    go : (b : Bool) → ((y : HolderRow) → tally q (put_by session_of y xs) ≡ tally q (y ∷ xs)) → tally q (cond b r x ∷ put_by session_of (cond b x r) xs) ≡ tally q (r ∷ x ∷ xs)
    go true ih = ap (λ (n : ℕ). cond (q r) (suc n) n) (ih x)
    go false ih = ap (λ (n : ℕ). cond (q x) (suc n) n) (ih r) ∙ swap (q x) (q r) (tally q xs)

-- counted over the slots
tally_rows : (q : HolderRow → Bool) (es : List Entry) → tally q (holders_of es) ≡ tally (λ e. holder e && q (row_of e)) es
tally_rows q [] = refl
tally_rows q (e ∷ es) = go (holder e) (tally_rows q es)
  where
    go : (b : Bool) → tally q (holders_of es) ≡ tally (λ e. holder e && q (row_of e)) es →
        tally q (cond b (put_by session_of (row_of e) (holders_of es)) (holders_of es)) ≡ cond (b && q (row_of e)) (suc (tally (λ e. holder e && q (row_of e)) es))
        (tally (λ e. holder e && q (row_of e)) es)
    go true ih = tally_put q (row_of e) (holders_of es) ∙ ap (λ (n : ℕ). cond (q (row_of e)) (suc n) n) ih
    go false ih = ih

-- a free slot holds nothing, so the live sessions are enough
module _ (p : ℕ → Bool → Bool → Bool) where
  abbrev of_row : HolderRow → Bool
  of_row r = p r.session r.exclusive r.shared

  abbrev of_session : Session → Bool
  of_session s = holds_lock s && p s.number s.exclusive (not (not_shared s))

  tally_live : (es : List Entry) → all clean es ≡ true → tally (λ e. holder e && of_row (row_of e)) es ≡ tally of_session (as_sessions es)
  tally_live [] c = refl
  tally_live (e ∷ es) c = go (live e) refl (tally_live es (and_r (clean e) _ c))
    where
      go : (b : Bool) → live e ≡ b → tally (λ e. holder e && of_row (row_of e)) es ≡ tally of_session (as_sessions es)
          → cond (holder e && of_row (row_of e)) (suc (tally (λ e. holder e && of_row (row_of e)) es)) (tally (λ e. holder e && of_row (row_of e)) es) ≡ tally
          of_session (cond b (as_session e ∷ as_sessions es) (as_sessions es))
      go true l h = ap (λ (n : ℕ). cond (holder e && of_row (row_of e)) (suc n) n) h
      go false l h =
          let z : (no_exclusive e && no_shared e) ≡ true = sym (ap (λ (b : Bool). b || (no_exclusive e && no_shared e)) l) ∙ and_l (clean e) _ c in
          ap (λ (b : Bool). cond (not b && of_row (row_of e)) (suc (tally (λ e. holder e && of_row (row_of e)) es)) (tally (λ e. holder e && of_row (row_of e)) es)) z ∙ h

-- none of the rows has this SessionID
abbrev Lacks : ℕ → List HolderRow → Type 0
Lacks n [] = Unit {0}
Lacks n (r ∷ rs) = (r.session ≡ n → ⊥) × Lacks n rs

lacks_put : (n : ℕ) (r : HolderRow) (xs : List HolderRow) → (r.session ≡ n → ⊥) → Lacks n xs → Lacks n (put_by session_of r xs)
lacks_put n r [] h l = (h, tt)
lacks_put n r (x ∷ xs) h l = go (ltb r.session x.session) (λ y k. lacks_put n y xs k l.1)
  where
    go : (b : Bool) → ((y : HolderRow) → (y.session ≡ n → ⊥) → Lacks n (put_by session_of y xs)) → Lacks n (cond b r x ∷ put_by session_of (cond b x r) xs)
    go true ih = (h, ih x l.0)
    go false ih = (l.0, ih r h)

above_put : (n : ℕ) (r : HolderRow) (xs : List HolderRow) → n < r.session → Above n xs → Above n (put_by session_of r xs)
above_put n r [] h b = (h, tt)
above_put n r (x ∷ xs) h b = go (ltb r.session x.session) (λ y k. above_put n y xs k b.1)
  where
    go : (t : Bool) → ((y : HolderRow) → n < y.session → Above n (put_by session_of y xs)) → Above n (cond t r x ∷ put_by session_of (cond t x r) xs)
    go true ih = (h, ih x b.0)
    go false ih = (b.0, ih r h)

above_less : (m n : ℕ) (xs : List HolderRow) → m < n → Above n xs → Above m xs
above_less m n [] h b = tt
above_less m n (x ∷ xs) h b = (let q : n < x.session = b.0 in omega arith, above_less m n xs h b.1)

ascending_put : (r : HolderRow) (xs : List HolderRow) → Lacks r.session xs → Ascending xs → Ascending (put_by session_of r xs)
ascending_put r [] l a = (tt, tt)
ascending_put r (x ∷ xs) l a = go (ltb r.session x.session) refl (λ y k. ascending_put y xs k a.1)
  where
    lacks-self : (ys : List HolderRow) → Above x.session ys → Lacks x.session ys
    lacks-self [] b = tt
    lacks-self (y ∷ ys) b = (λ e. let q : x.session < y.session = b.0 in omega arith, lacks-self ys b.1)

    go : (t : Bool) → ltb r.session x.session ≡ t → ((y : HolderRow) → Lacks y.session xs → Ascending (put_by session_of y xs)) → Ascending (cond t r x ∷ put_by session_of (cond t x r) xs)
    go true e ih =
        let h : r.session < x.session = ltb-true r.session x.session e in
        (above_put r.session x xs h (above_less r.session x.session xs h a.0), ih x (lacks-self xs a.0))
    go false e ih =
        let h : x.session ≤ r.session = ltb-false r.session x.session e in
        let n : x.session ≡ r.session → ⊥ = l.0 in
        (above_put x.session r xs (omega arith) a.0, ih r l.1)

-- no two holders have one SessionID
abbrev Distinct : List Entry → Type 0
Distinct es = (i j : ℕ) → holder (at es i) ≡ true → holder (at es j) ≡ true → (at es i).number ≡ (at es j).number → i ≡ j

lacks_rows : (n : ℕ) (es : List Entry) → ((j : ℕ) → holder (at es j) ≡ true → (at es j).number ≡ n → ⊥) → Lacks n (holders_of es)
lacks_rows n [] h = tt
lacks_rows n (e ∷ es) h = go (holder e) refl (lacks_rows n es (λ j. h (suc j)))
  where
    go : (b : Bool) → holder e ≡ b → Lacks n (holders_of es) → Lacks n (cond b (put_by session_of (row_of e) (holders_of es)) (holders_of es))
    go true q ih = lacks_put n (row_of e) (holders_of es) (h 0 q) ih
    go false q ih = ih

ascending_rows : (es : List Entry) → Distinct es → Ascending (holders_of es)
ascending_rows [] d = tt
ascending_rows (e ∷ es) d = go (holder e) refl (ascending_rows es (λ i j p q n. let z : suc i ≡ suc j = d (suc i) (suc j) p q n in omega arith))
  where
    go : (b : Bool) → holder e ≡ b → Ascending (holders_of es) → Ascending (cond b (put_by session_of (row_of e) (holders_of es)) (holders_of es))
    go true q ih =
        ascending_put (row_of e) (holders_of es)
        (lacks_rows e.number es (λ j p n. let z : suc j ≡ 0 = d (suc j) 0 p q n in omega arith))
        ih
    go false q ih = ih

pub holders_shown : (v : Making) (es : List Event) → HoldersShown v es
holders_shown v es =
    record {
      ascending = ascending_rows l distinct;
      exactly = λ p. tally_rows (λ r. p r.session r.exclusive r.shared) l ∙ tally_live p l firm.clean_all
          ∙ sym ((agreement v es).locks.sessions (λ s. holds_lock s && p s.number s.exclusive (not (not_shared s))));
    }
  where
    l : List Entry
    l = (final (fresh v) es).locks.entries

    firm : Firm l
    firm = (inv_run v es).sound.firm

    -- who holds is live
    lives : (i : ℕ) → holder (at l i) ≡ true → live (at l i) ≡ true
    lives i h = by (live (at l i)) refl
      where
        by : (b : Bool) → live (at l i) ≡ b → b ≡ true
        by true e = refl
        by false e = absurd (true≢false (sym h ∙ ap not (sym (ap (λ (b : Bool). b || (no_exclusive (at l i) && no_shared (at l i))) e) ∙ all_at clean l i refl firm.clean_all)))

    distinct : Distinct l
    distinct i j p q n = firm.numbers (at l i).number i j (both _ _ (lives i p) (eq-eqb (at l i).number (at l i).number refl))
        (both _ _ (lives j q) (eq-eqb (at l j).number (at l i).number (sym n)))

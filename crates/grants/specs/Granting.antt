-- The granting rule by the tests of the code, and a grant as one change of the table. Assumes nothing.
use Rattle.std.specs.Prelude.{◌≡◌, Bool, ◌&&◌, ◌||◌, cond, ℕ, zero, suc, ◌^◌, ◌%◌, ◌≤◌, ◌<◌, ltb, length, set}
use Rattle.std.proofs.Math.Path.{refl}
use Rattle.std.proofs.Common.{sym, ap, ap₂, subst, ◌∙◌, arith, eqb-true, ltb-true}
use Rattle.std.proofs.Math.Bool.{true, false, not}
use mathlib.Core.List.{List, [], ◌∷◌}
use Rattle.std.proofs.lemmas.Bool.{eqb-false}
use Rattle.model.specs.Sizes.{session_limit, grants_limit}
use Rattle.wire.specs.Both.{and_left, and_right}
use Rattle.model.specs.Lists.{same, all, all_but}
use Rattle.model.specs.State.{Entry, Server, at, blank}
use Rattle.model.specs.Locks.{no_exclusive, no_shared, fits, may_grant, give, give_at, with_granted, one_more, note_grant, grant, with_entries}
use Rattle.state.specs.Grid.{upd, upd_upd, upd_set}
use Rattle.state.specs.Change.{on_entry, order_with}
use Rattle.state.specs.Layout.{SHARERS}
use Rattle.state.specs.View.{word, key_of, locks_of}
use Rattle.state.specs.Holders.{sharers_test, fits_none, fits_some}

-- all strings fit where nobody shares; else the shared one decides
pub fits_free : (w s k : List ℕ) → all no_shared (locks_of w s).entries ≡ true → all (fits k) (locks_of w s).entries ≡ true
fits_free w s k e = fits_none w s k (eqb-true (word w SHARERS % 2 ^ session_limit) 0 (sym (sharers_test w s) ∙ e))

pub fits_key : (w s k : List ℕ) → all no_shared (locks_of w s).entries ≡ false → all (fits k) (locks_of w s).entries ≡ same (key_of w s) k
fits_key w s k e = fits_some w s k (eqb-false (word w SHARERS % 2 ^ session_limit) 0 (sym (sharers_test w s) ∙ e))

-- where slot i does not share, nobody else shares just where nobody does
all_but_one : (es : List Entry) (i : ℕ) → no_shared (at es i) ≡ true → all_but no_shared i es ≡ all no_shared es
all_but_one [] i o = refl
all_but_one (x ∷ es) zero o = rw o
all_but_one (x ∷ es) (suc i) o = ap (λ (b : Bool). no_shared x && b) (all_but_one es i o)

module _ (es : List Entry) (i : ℕ) where
  -- somebody else holds exclusive
  pub may_not : (k : List ℕ) → all_but no_exclusive i es ≡ false → may_grant es i k ≡ false
  unfolding may_grant
  may_not [] e = rw e
  may_not (x ∷ k) e = rw e

  -- exclusive: slot i itself shares, or nobody does
  pub may_sharing : (k : List ℕ) → length k ≡ 0 → all_but no_exclusive i es ≡ true → no_shared (at es i) ≡ false → may_grant es i k ≡ true
  unfolding may_grant
  may_sharing [] n e o = rw (e, o) (or_true (all_but no_shared i es))
    where
      or_true : (p : Bool) → (p || true) ≡ true
      or_true true = refl
      or_true false = refl
  may_sharing (x ∷ k) n e o = absurd (omega arith)

  pub may_alone : (k : List ℕ) (b : Bool) → length k ≡ 0 → all_but no_exclusive i es ≡ true → no_shared (at es i) ≡ true → all no_shared es ≡ b → may_grant es i k ≡ b
  unfolding may_grant
  may_alone [] b n e o p = rw (e, o) (or_false (all_but no_shared i es) ∙ all_but_one es i o ∙ p)
    where
      or_false : (p : Bool) → (p || false) ≡ p
      or_false true = refl
      or_false false = refl
  may_alone (x ∷ k) b n e o p = absurd (omega arith)

  -- shared
  pub may_share : (k : List ℕ) (b : Bool) → (length k ≡ 0 → ⊥) → all_but no_exclusive i es ≡ true → all (fits k) es ≡ b → may_grant es i k ≡ b
  unfolding may_grant
  may_share [] b n e o = absurd (n refl)
  may_share (x ∷ k) b n e o = rw (e, o)

  -- what a grant that may be wants of the table
  pub may_exclusive : (k : List ℕ) → may_grant es i k ≡ true → all_but no_exclusive i es ≡ true
  unfolding may_grant
  may_exclusive [] e = and_left (all_but no_exclusive i es) (all_but no_shared i es || not (no_shared (at es i))) e
  may_exclusive (x ∷ k) e = and_left (all_but no_exclusive i es) (all (fits (x ∷ k)) es) e

  pub may_fits : (k : List ℕ) → (length k ≡ 0 → ⊥) → may_grant es i k ≡ true → all (fits k) es ≡ true
  unfolding may_grant
  may_fits [] n e = absurd (n refl)
  may_fits (x ∷ k) n e = and_right (all_but no_exclusive i es) (all (fits (x ∷ k)) es) e

-- no string at all asks for the exclusive lock
pub no_string : (k : List ℕ) → length k ≡ 0 → k ≡ []
no_string [] n = refl
no_string (x ∷ k) n = absurd (omega arith)

-- the server with another table of sessions
abbrev with_entries_in : Server → List Entry → Server
with_entries_in d es = record { locks = with_entries d.locks es; rest = d.rest }

-- a grant, as the model writes it
pub grant_upd : (now : ℕ) (es : List Entry) (i : ℕ) (k : List ℕ) → grant now es i k ≡ upd es i (give_at now k)
grant_upd now es i k = upd_set es i blank (give_at now k)

-- noted by two stores
pub noted : (d d₁ d₂ : Server) (i t n m : ℕ) → t ≡ d.locks.clock → n ≡ (at d.locks.entries i).locks_granted.grants → m ≡ one_more n
    → d₁ ≡ on_entry d i (order_with 2 t) → d₂ ≡ on_entry d₁ i (order_with 3 m) → d₂ ≡ on_entry d i (note_grant d.locks.clock)
noted d d₁ d₂ i t n m et en em e f =
    let es : List Entry = d.locks.entries in
    f
    ∙ ap (λ (x : Server). on_entry x i (order_with 3 m)) e
    ∙ ap (with_entries_in d)
    (upd_upd es i (order_with 2 t) (order_with 3 m)
    ∙ sym (upd_set es i blank (with_granted (record { granted_at = t; grants = m })))
    ∙ ap₂ (λ (x y : ℕ). set es i (with_granted (record { granted_at = x; grants = y }) (at es i))) et (em ∙ ap one_more en)
    ∙ upd_set es i blank (note_grant d.locks.clock))

-- the number of locks granted stays within its range
pub grants_fit : (m n g : ℕ) → m ≡ one_more n → n ≡ g → g ≤ 2 ^ 62 → m ≤ 2 ^ 62
grants_fit m n g e f h = subst (λ (x : ℕ). x ≤ 2 ^ 62) (sym e) (go (ltb n grants_limit) refl)
  where
    go : (b : Bool) → ltb n grants_limit ≡ b → cond b (suc n) n ≤ 2 ^ 62
    go true l = let x : n < grants_limit = ltb-true n grants_limit l in omega arith
    go false l = omega arith

-- a lock given, then noted
pub given_noted : (d d₁ d₂ : Server) (i : ℕ) (k : List ℕ) → d₁ ≡ on_entry d i (give k) → d₂ ≡ on_entry d₁ i (note_grant d₁.locks.clock) → d₂ ≡ on_entry d i (give_at d.locks.clock k)
given_noted d d₁ d₂ i k e f =
    f ∙ ap (λ (x : Server). on_entry x i (note_grant x.locks.clock)) e ∙ ap (with_entries_in d) (upd_upd d.locks.entries i (give k) (note_grant d.locks.clock))

-- The row of rules of a connection without a role, by the tests of the code: one law for each way out. Assumes nothing.
use Rattle.std.specs.Prelude.{◌≡◌, refl, Bool, true, false, ◌||◌, List, [], ◌∷◌, ℕ, suc, ◌%◌, ◌≤◌, ◌<◌, eqb, length}
use Rattle.std.proofs.Common.{sym, ap, ◌∙◌, le_of_suc-le-suc, not-suc-le-zero, eqb-true, eq-eqb, ne_eqb, lt-ltb, le-ltb}
use Rattle.std.proofs.Math.Dec.{eqb-zero-suc, eqb-suc-suc}
use Rattle.std.proofs.Math.ListN.{get_or-eq_default}
use Rattle.model.specs.Sizes.{session_limit, no_connection}
use Rattle.model.specs.Lists.{is_nil, same, all}
use Rattle.model.specs.MessageTypes.{Initialize, AsyncInitialize}
use Rattle.model.specs.State.{Server, Entry, at, blank, live, half_open, slot_of_number}
use Rattle.model.specs.Checks.{Verdict, Verdict.v_acts, Verdict.v_fatal, first, hislip0, opening_rules}
use Rattle.state.specs.Change.{sessions_held, entry_with}
use Rattle.state.specs.Search.{asynchronous_read}
use Rattle.state.specs.View.{locks_of}
use Rattle.checks.specs.Verdicts.{message}

-- searching the table of sessions for a number: all slots are taken where number 0 is not found
pub all_live : (es : List Entry) → all live es ≡ eqb (slot_of_number es 0) (length es)
all_live [] = refl
all_live (e ∷ es) = by (eqb e.number 0) refl (all_live es)
  where
    by : (b : Bool) → eqb e.number 0 ≡ b → all live es ≡ eqb (slot_of_number es 0) (length es) → all live (e ∷ es) ≡ eqb (slot_of_number (e ∷ es) 0) (suc (length es))
    by true q r = rw q (sym (eqb-zero-suc (length es)))
    by false q r = rw q (r ∙ sym (eqb-suc-suc (slot_of_number es 0) (length es)))

-- number 0 finds a free slot, or none
free : (es : List Entry) → (at es (slot_of_number es 0)).number ≡ 0
free [] = refl
free (e ∷ es) = by (eqb e.number 0) refl (free es)
  where
    by : (b : Bool) → eqb e.number 0 ≡ b → (at es (slot_of_number es 0)).number ≡ 0 → (at (e ∷ es) (slot_of_number (e ∷ es) 0)).number ≡ 0
    by true q r = rw q (eqb-true e.number 0 q)
    by false q r = rw q r

-- a slot that was found has the number
found : (es : List Entry) (n : ℕ) → slot_of_number es n < length es → (at es (slot_of_number es n)).number ≡ n
found [] n l = absurd (not-suc-le-zero l)
found (e ∷ es) n l = by (eqb e.number n) refl (found es n) l
  where
    by : (b : Bool) → eqb e.number n ≡ b → (slot_of_number es n < length es → (at es (slot_of_number es n)).number ≡ n) → slot_of_number (e ∷ es) n < suc (length es)
        → (at (e ∷ es) (slot_of_number (e ∷ es) n)).number ≡ n
    by true q r l = rw q (eqb-true e.number n q)
    by false q r l = rw q (r (le_of_suc-le-suc (rw q at l)))

module _ (es : List Entry) (n : ℕ) where
  pub half_free : n ≡ 0 → half_open (at es (slot_of_number es n)) ≡ false
  half_free e = rw e (rw (eq-eqb (at es (slot_of_number es 0)).number 0 (free es)))

  half_none : length es ≤ slot_of_number es n → half_open (at es (slot_of_number es n)) ≡ false
  half_none l = ap half_open (get_or-eq_default es blank l)

  half_live : (n ≡ 0 → ⊥) → slot_of_number es n < length es → half_open (at es (slot_of_number es n)) ≡ eqb (at es (slot_of_number es n)).asynchronous no_connection
  half_live z l = rw (ne_eqb (at es (slot_of_number es n)).number 0 (λ q. z (sym (found es n l) ∙ q)))

-- the table in memory
pub all_taken : (w s : List ℕ) (slot : ℕ) → slot_of_number (locks_of w s).entries 0 ≡ slot → all live (locks_of w s).entries ≡ eqb slot session_limit
all_taken w s slot e = all_live (locks_of w s).entries ∙ rw (e, sessions_held w s)

module _ (w s : List ℕ) (n slot : ℕ) (e : slot_of_number (locks_of w s).entries n ≡ slot) where
  pub number_none : session_limit ≤ slot → half_open (at (locks_of w s).entries (slot_of_number (locks_of w s).entries n)) ≡ false
  number_none l = half_none (locks_of w s).entries n (rw (e, sessions_held w s) l)

  pub number_found : (n ≡ 0 → ⊥) → slot < session_limit → (r : ℕ) → entry_with 2 r (at (locks_of w s).entries slot) ≡ at (locks_of w s).entries slot
      → half_open (at (locks_of w s).entries (slot_of_number (locks_of w s).entries n)) ≡ eqb (r % 256) no_connection
  number_found z l r q =
      half_live (locks_of w s).entries n z (rw (e, sessions_held w s) l)
      ∙ rw e (ap (λ (x : ℕ). eqb x no_connection) (asynchronous_read (at (locks_of w s).entries slot) r q))

module _ (d : Server) (kind code param len : ℕ) (p : List ℕ) where
  abbrev pub row : Verdict
  row = first (opening_rules d (message kind code param len) p)

  pub open_other : (kind ≡ Initialize → ⊥) → (kind ≡ AsyncInitialize → ⊥) → row ≡ v_fatal 3
  open_other a b = rw (ne_eqb kind 0 a, ne_eqb kind 17 b)

  module _ (e : kind ≡ Initialize) where
    pub open_address : (is_nil p || same p hislip0) ≡ false → row ≡ v_fatal 3
    open_address a = rw (e, a)

    pub open_full : (is_nil p || same p hislip0) ≡ true → all live d.locks.entries ≡ true → row ≡ v_fatal 4
    open_full a b = rw (e, a, b)

    pub open_session : (is_nil p || same p hislip0) ≡ true → all live d.locks.entries ≡ false → row ≡ v_acts
    open_session a b = rw (e, a, b)

  module _ (e : kind ≡ AsyncInitialize) where
    pub join_payload : 0 < len → row ≡ v_fatal 3
    join_payload l = rw (e, lt-ltb 0 len l)

    pub join_unknown : len ≤ 0 → half_open (at d.locks.entries (slot_of_number d.locks.entries param)) ≡ false → row ≡ v_fatal 3
    join_unknown l a = rw (e, le-ltb 0 len l, a)

    pub join_session : len ≤ 0 → half_open (at d.locks.entries (slot_of_number d.locks.entries param)) ≡ true → row ≡ v_acts
    join_session l a = rw (e, le-ltb 0 len l, a)

-- A release that stands takes effect (02, Q-3): with the message that it names, or with a device clear. Assumes nothing.
use Rattle.std.specs.Prelude.{◌≡◌, refl, false, Option, Some, None, List, ℕ, ◌^◌, ◌≤◌, ◌<◌, length}
use Rattle.std.proofs.Common.{subst, ◌∙◌, true≢false, mod-eq_of_lt, eq-eqb, ne_eqb}
use Rattle.std.proofs.Math.Path.{ap}
use Rattle.model.specs.Sizes.{before_first}
use Rattle.model.specs.State.{Entry, Locks, Server, Kind, Standing, Standing.no_release, Standing.release_of, at, blank}
use Rattle.model.specs.Locks.{LockEvent.command, LockEvent.clear, LockResult, Due, Due.not_due, Due.due_now, tell, without, with_order, with_entries, unanswered}
use Rattle.model.specs.Locks.{release_code, due_at, due_any, completed, is_due, stands, change, settle, grant_pass}
use Rattle.state.specs.Change.{on_entry, order_with}
use Rattle.state.specs.Grid.{upd, upd_upd, upd_set}
use Rattle.state.specs.View.{Memory, view}
use Rattle.holding.specs.Outcome.{Met, told}
use Rattle.locks.specs.Settled.{both, settled, met_both}
use Rattle.holding.specs.Standing.{kind_of, standing_as}
use Rattle.holding.specs.declared.standing.Standing.{Standing as Kept}
use Rattle.holding.specs.Sweep.{turned_away}

-- the last message's number is n; and besides, the release took effect
abbrev pub noted : Locks → ℕ → ℕ → Locks
noted l i n = with_entries l (upd l.entries i (λ (e : Entry). with_order n e.standing e))

abbrev pub ended : Locks → ℕ → Kind → ℕ → Locks
ended l i k n = with_entries l (upd l.entries i (λ (e : Entry). with_order n no_release (without k e)))

module _ (l : Locks) (i n : ℕ) where
  pub completed_due : (k : Kind) → completed (due_now k) l i n ≡ told (ended l i k n) (tell l.entries i (release_code k) false)
  completed_due k =
      ap (λ (es : List Entry). told (with_entries l es) (tell l.entries i (release_code k) false)) (upd_set l.entries i blank (λ (e : Entry). with_order n no_release (without k e)))

  pub completed_not : completed not_due l i n ≡ unanswered (noted l i n)
  completed_not = ap (λ (es : List Entry). unanswered (with_entries l es)) (upd_set l.entries i blank (λ (e : Entry). with_order n e.standing e))

  -- a message, by what is due
  done : (x : Due) → due_at n (at l.entries i).standing ≡ x → settled l (command i n) ≡ both (completed x l i n) (settle (is_due x) (completed x l i n).locks)
  unfolding change
  done x e = ap (λ (y : Due). both (completed y l i n) (settle (is_due y) (completed y l i n).locks)) e

  pub message_not : due_at n (at l.entries i).standing ≡ not_due → settled l (command i n) ≡ unanswered (noted l i n)
  message_not e = done not_due e ∙ completed_not

  pub message_due : (k : Kind) → due_at n (at l.entries i).standing ≡ due_now k
      → settled l (command i n) ≡ both (completed (due_now k) l i n) (grant_pass (completed (due_now k) l i n).locks)
  message_due k e = done (due_now k) e

-- what is due, by the release that stands
module _ (x : Standing) (r : Option Kept) (n : ℕ) (e : x ≡ standing_as r) where
  pub due_none : r ≡ None → due_at n x ≡ not_due
  due_none z = ap (due_at n) (e ∙ ap standing_as z)

  pub due_any_none : r ≡ None → due_any x ≡ not_due
  due_any_none z = ap due_any (e ∙ ap standing_as z)

  module _ (k : Kept) (z : r ≡ Some k) where
    pub due_other : (k.number ≡ n → ⊥) → due_at n x ≡ not_due
    due_other o = ap (due_at n) (e ∙ ap standing_as z) ∙ rw (ne_eqb k.number n o)

    pub due_this : k.number ≡ n → due_at n x ≡ due_now (kind_of k.kind)
    due_this o = ap (due_at n) (e ∙ ap standing_as z) ∙ rw (eq-eqb k.number n o)

    pub due_any_lem : due_any x ≡ due_now (kind_of k.kind)
    due_any_lem = ap due_any (e ∙ ap standing_as z)

pub due_unstood : (x : Standing) (n : ℕ) → stands x ≡ false → due_at n x ≡ not_due
due_unstood no_release n e = refl
due_unstood (release_of k m) n e = absurd (true≢false e)

-- the stores
pub noted_stored : (d d₁ : Server) (i n : ℕ) → n < 2 ^ 32 → d₁ ≡ on_entry d i (order_with 0 n) → d₁ ≡ record { locks = noted d.locks i n; rest = d.rest }
noted_stored d d₁ i n h e = e ∙ ap (λ (x : ℕ). on_entry d i (λ (e : Entry). with_order x e.standing e)) (mod-eq_of_lt h)

pub ended_stored : (d d₁ d₂ d₃ : Server) (i n : ℕ) (k : Kind) → n < 2 ^ 32 → d₁ ≡ on_entry d i (without k) → d₂ ≡ on_entry d₁ i (order_with 0 n) → d₃ ≡ on_entry d₂ i (order_with 1 0)
    → d₃ ≡ record { locks = ended d.locks i k n; rest = d.rest }
ended_stored d d₁ d₂ d₃ i n k h e₁ e₂ e₃ = rw (e₃, e₂, e₁, upd_upd, upd_upd, mod-eq_of_lt h)

-- a device clear: the request is turned away, and then the release
pub met_clear : (m m₁ m' : Memory) (i : ℕ) (out out₁ out' : List ℕ) (at' a r : ℕ) → a ≤ length out → Met (turned_away (view m).locks i) m m₁ out out₁ at' a
    → Met (completed (due_any (at (view m₁).locks.entries i).standing) (view m₁).locks i before_first) m₁ m' out₁ out' a r
    → Met (change (view m).locks (clear i)) m m' out out' at' r
unfolding change
met_clear m m₁ m' i out out₁ out' at' a r fits p q =
    let f : Locks → LockResult = (λ l. completed (due_any (at l.entries i).standing) l i before_first) in
    met_both (turned_away (view m).locks i) (f (turned_away (view m).locks i).locks) m m₁ m' out out₁ out' at' a r fits p
    (subst (λ (l : Locks). Met (f l) m₁ m' out₁ out' a r) p.locks q)

-- A release (02, Q-3): 3, at once, or it stands. Assumes nothing.
use Rattle.std.specs.Prelude.{◌≡◌, refl, Bool, true, false, not, cond, Option, Some, None, List, ℕ, eqb}
use Rattle.std.proofs.Common.{◌∙◌}
use Rattle.std.proofs.Math.Path.{ap}
use Rattle.model.specs.State.{Entry, Locks, Server, Kind, Kind.exclusive_lock, Kind.shared_lock, Standing, Standing.release_of, at, blank}
use Rattle.model.specs.Locks.{LockEvent.release, Releasing, Releasing.r_invalid, Releasing.r_now, Releasing.r_stands, tell, no_shared, without, with_order}
use Rattle.model.specs.Locks.{with_entries, unanswered, release_code, stands, releasing, releasing_of, released, change, frees_now, settle, grant_pass}
use Rattle.state.specs.Change.{on_entry, order_with}
use Rattle.state.specs.Grid.{upd, upd_set}
use Rattle.state.specs.View.{standing_of}
use Rattle.holding.specs.Outcome.{told}
use Rattle.locks.specs.Settled.{both, settled}
use Rattle.holding.specs.Standing.{kind_of}
use Rattle.holding.specs.declared.standing.LockKind.{LockKind}
use Rattle.holding.specs.declared.standing.LockKind.TheVariants.{Exclusive, Shared}

-- by the lock that it frees (none: none is held, or a release stands) and whether the number that it names is the last message's
abbrev pub ruled_by : Option LockKind → Bool → Releasing
ruled_by None a = r_invalid
ruled_by (Some k) a = cond a (r_now (kind_of k)) (r_stands (kind_of k))

module _ (e : Entry) (n : ℕ) where
  pub ruled_standing : stands e.standing ≡ true → releasing_of e n ≡ ruled_by None (eqb e.last n)
  ruled_standing h = rw h

  pub ruled_exclusive : stands e.standing ≡ false → e.exclusive ≡ true → releasing_of e n ≡ ruled_by (Some Exclusive) (eqb e.last n)
  ruled_exclusive h x = rw (h, x) (by (eqb e.last n))
    where
      by : (a : Bool) → releasing false true (no_shared e) a ≡ cond a (r_now exclusive_lock) (r_stands exclusive_lock)
      by true = refl
      by false = refl

  pub ruled_shared : stands e.standing ≡ false → e.exclusive ≡ false → no_shared e ≡ not true → releasing_of e n ≡ ruled_by (Some Shared) (eqb e.last n)
  ruled_shared h x y = rw (h, x, y) (by (eqb e.last n))
    where
      by : (a : Bool) → releasing false false false a ≡ cond a (r_now shared_lock) (r_stands shared_lock)
      by true = refl
      by false = refl

  pub ruled_nothing : stands e.standing ≡ false → e.exclusive ≡ false → no_shared e ≡ not false → releasing_of e n ≡ ruled_by None (eqb e.last n)
  ruled_nothing h x y = rw (h, x, y)

-- by the code's tests
module _ (r : Option LockKind) (a : Bool) where
  pub ruled_invalid : r ≡ None → ruled_by r a ≡ r_invalid
  ruled_invalid e = rw e

  pub ruled_now : (k : LockKind) → r ≡ Some k → a ≡ true → ruled_by r a ≡ r_now (kind_of k)
  ruled_now k e h = rw (e, h)

  pub ruled_stands : (k : LockKind) → r ≡ Some k → a ≡ false → ruled_by r a ≡ r_stands (kind_of k)
  ruled_stands k e h = rw (e, h)

-- the lock is free
abbrev pub freed : Locks → ℕ → Kind → Locks
freed l i k = with_entries l (upd l.entries i (without k))

-- the release stands until message n
abbrev pub standing : Locks → ℕ → Kind → ℕ → Locks
standing l i k n = with_entries l (upd l.entries i (λ (e : Entry). with_order e.last (release_of k n) e))

module _ (l : Locks) (i n : ℕ) where
  -- what is done, by the ruling
  done : (x : Releasing) → releasing_of (at l.entries i) n ≡ x → settled l (release i n) ≡ both (released x l i n) (settle (frees_now x) (released x l i n).locks)
  unfolding change
  done x e = ap (λ (y : Releasing). both (released y l i n) (settle (frees_now y) (released y l i n).locks)) e

  pub release_invalid : releasing_of (at l.entries i) n ≡ r_invalid → settled l (release i n) ≡ told l (tell l.entries i 3 false)
  release_invalid e = done r_invalid e

  pub release_now : (k : Kind) → releasing_of (at l.entries i) n ≡ r_now k
      → settled l (release i n) ≡ both (told (freed l i k) (tell l.entries i (release_code k) false)) (grant_pass (freed l i k))
  release_now k e =
      done (r_now k) e
      ∙ ap (λ (es : List Entry). both (told (with_entries l es) (tell l.entries i (release_code k) false)) (grant_pass (with_entries l es))) (upd_set l.entries i blank (without k))

  pub release_stands : (k : Kind) → releasing_of (at l.entries i) n ≡ r_stands k → settled l (release i n) ≡ unanswered (standing l i k n)
  release_stands k e =
      done (r_stands k) e ∙ ap (λ (es : List Entry). unanswered (with_entries l es)) (upd_set l.entries i blank (λ (e : Entry). with_order e.last (release_of k n) e))

-- the word that is stored
pub standing_stored : (d d₁ : Server) (i v : ℕ) (k : Kind) (n : ℕ) → standing_of v ≡ release_of k n → d₁ ≡ on_entry d i (order_with 1 v) →
    d₁ ≡ record { locks = standing d.locks i k n; rest = d.rest }
standing_stored d d₁ i v k n e q = q ∙ ap (λ (x : Standing). on_entry d i (λ (e : Entry). with_order e.last x e)) e

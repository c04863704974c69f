-- The two lock messages that are done in few steps: an exclusive request while all is free, and a release that ends at once with nobody
-- waiting. Assumes nothing.
use Rattle.std.specs.Prelude.{◌≡◌, refl, true, false, Some, List, [], ◌∷◌, ℕ, eqb, length}
use Rattle.std.proofs.Common.{◌∙◌, arith}
use Rattle.std.proofs.lemmas.Bool.{not-true}
use Rattle.model.specs.Lists.{all}
use Rattle.model.specs.State.{Waiting, Locks, Kind.exclusive_lock, at}
use Rattle.model.specs.Locks.{LockEvent.release, LockEvent.request, no_exclusive, no_shared, may_grant, give_at, tell, with_entries, elsewhere, stands, change, grant_pass}
use Rattle.state.specs.Grid.{upd}
use Rattle.holding.specs.Access.{but_one, one_of}
use Rattle.locks.specs.Asking.{decided_granted, holds_none, request_decided, unable_waits}
use Rattle.grants.specs.Granting.{may_alone}
use Rattle.holding.specs.Outcome.{told}
use Rattle.holding.specs.declared.standing.LockKind.TheVariants.{Exclusive}
use Rattle.locks.specs.Release.{freed, release_now, ruled_exclusive, ruled_now}
use Rattle.locks.specs.Settled.{both, settled}

none_waits : (i : ℕ) (ws : List Waiting) → length ws ≡ 0 → all (elsewhere i) ws ≡ true
none_waits i [] n = refl
none_waits i (x ∷ ws) n = absurd (omega arith)

-- no lock is held, nobody waits, and no release of slot i stands
pub record Free (l : Locks) (i : ℕ) : Type 0 where
  pub settles : stands (at l.entries i).standing ≡ false
  pub exclusive : all no_exclusive l.entries ≡ true
  pub shared : all no_shared l.entries ≡ true
  pub waiting : length l.waiting ≡ 0

module _ (l : Locks) (i : ℕ) (k : List ℕ) (n : length k ≡ 0) (f : Free l i) where
  pub free_grants : may_grant l.entries i k ≡ true
  free_grants = may_alone l.entries i k true n (but_one no_exclusive l.entries i f.exclusive) (one_of no_shared l.entries i refl f.shared) f.shared

  pub free_request : (t : ℕ) → change l (request i t k) ≡ told (with_entries l (upd l.entries i (give_at l.clock k))) (tell l.entries i 1 true)
  free_request t =
      request_decided l i k t
      (unable_waits l i k true (omega arith) f.settles (holds_none k (at l.entries i) n
      ∙ not-true (at l.entries i).exclusive (one_of no_exclusive l.entries i refl f.exclusive)) (none_waits i l.waiting f.waiting))
      ∙ decided_granted l i k t free_grants

-- slot i holds the exclusive lock, message n is the last, nobody waits, and no release of the slot stands
pub record Ended (l : Locks) (i n : ℕ) : Type 0 where
  pub settles : stands (at l.entries i).standing ≡ false
  pub exclusive : (at l.entries i).exclusive ≡ true
  pub last : eqb (at l.entries i).last n ≡ true
  pub waiting : length l.waiting ≡ 0

pub ended_release : (l : Locks) (i n : ℕ) → Ended l i n
    → settled l (release i n) ≡ both (told (freed l i exclusive_lock) (tell l.entries i 1 false)) (grant_pass (freed l i exclusive_lock))
ended_release l i n e =
    release_now l i n exclusive_lock (ruled_exclusive (at l.entries i) n e.settles e.exclusive ∙ ruled_now (Some Exclusive) (eqb (at l.entries i).last n) Exclusive refl e.last)

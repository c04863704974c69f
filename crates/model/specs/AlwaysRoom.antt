-- P. There is always room to wait: where a request comes to wait, a place is left for it, so its last test is 01's, "0 if timeout is 0".
-- Assumes nothing.
use Rattle.std.specs.Prelude.{◌≡◌, true, List, ℕ, ◌<◌, eqb, length}
use Rattle.model.specs.Sizes.{session_limit}
use Rattle.model.specs.Lists.{all}
use Rattle.model.specs.State.{Locks, at, live, fresh, Making}
use Rattle.model.specs.Interface.{Event}
use Rattle.model.specs.Locks.{LockEvent.request, holds, may_grant, elsewhere, invalid_by, ruling, respond, change}
use Rattle.model.specs.Step.{final}

pub record RoomToWait (l : Locks) (i : ℕ) : Type 0 where
  -- 01: "one waiting request per session": while live session i has none waiting, fewer than 32 wait
  pub fewer_wait : all (elsewhere i) l.waiting ≡ true → length l.waiting < session_limit
  -- 01: "3 if S already holds that kind, has a request waiting, or the string exceeds 64 [Q-6: 256]; 1 if it may be granted, and it
  -- is; 0 if timeout is 0; else it waits" (02, Q-3: "A further AsyncLock while it stands gets 3"): the test for a place never decides
  pub as_in_01 : (t : ℕ) (k : List ℕ) → change l (request i t k)
      ≡ respond (ruling (holds k (at l.entries i)) (all (elsewhere i) l.waiting) (invalid_by k (at l.entries i)) (may_grant l.entries i k) (eqb t 0)) l i t k

-- after any list from the fresh server, for the session in any slot
pub record AlwaysRoom (v : Making) (es : List Event) : Type 0 where
  pub room : (i : ℕ) → live (at (final (fresh v) es).locks.entries i) ≡ true → RoomToWait (final (fresh v) es).locks i

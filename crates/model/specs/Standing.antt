-- Q. A release that stands (02, Q-3): "it stands until a Data, DataEND or Trigger of that number acts, an AsyncDeviceClear acts (the release then
-- takes effect ..) or the session closes", "Which lock it frees is fixed when it arrives", "A further AsyncLock while it stands gets 3".
-- Assumes nothing.
use Rattle.std.specs.Prelude.{◌≡◌, Bool, true, not, ◌&&◌, cond, List, [], ◌⊎◌, ℕ, eqb}
use Rattle.wire.specs.Message.{header}
use Rattle.wire.specs.Frame.{Frame}
use Rattle.wire.specs.Class.{one_of}
use Rattle.model.specs.MessageTypes.{AsyncLock, AsyncLockResponse, AsyncDeviceClear, commands}
use Rattle.model.specs.Lists.{any}
use Rattle.model.specs.State.{Entry, Kind, Kind.exclusive_lock, Kind.shared_lock, Standing.release_of, Server, at}
use Rattle.model.specs.Interface.{Event, Event.delivery, Outcome.acted, Reply.took}
use Rattle.model.specs.Place.{slot_of}
use Rattle.model.specs.Locks.{no_shared, release_code}
use Rattle.model.specs.Step.{step}
use Rattle.model.specs.Closing.{Closes}

-- the lock of a kind is held
abbrev pub held_kind : Kind → Entry → Bool
held_kind exclusive_lock e = e.exclusive
held_kind shared_lock e = not (no_shared e)

-- the session in slot j, number n, holds the lock of kind k, and a release of it stands for message m
pub record Stands (n j : ℕ) (k : Kind) (m : ℕ) (d : Server) : Type 0 where
  pub number : (at d.locks.entries j).number ≡ n
  pub release : (at d.locks.entries j).standing ≡ release_of k m
  pub held : held_kind k (at d.locks.entries j) ≡ true

-- the lock that a release frees: exclusive first
abbrev pub frees_first : Entry → Kind
frees_first e = cond e.exclusive exclusive_lock shared_lock

-- AsyncLockResponse with a code, to a connection
abbrev pub is_answer_to : ℕ → ℕ → Frame → Bool
is_answer_to n x f = (eqb f.message.kind AsyncLockResponse && eqb f.message.code n) && eqb f.to x

-- a call sends an answer with a code to the session in slot j
abbrev pub Answers : Server → ℕ → ℕ → Event → Type 0
Answers d j n e = any (is_answer_to n (at d.locks.entries j).asynchronous) (step d e).frames ≡ true

-- how it ends: its session's Data, DataEND or Trigger of that number, or its AsyncDeviceClear, acts, and the release is answered by its kind;
-- or the session closes
pub data Completes (d : Server) (j : ℕ) (k : Kind) (m : ℕ) : Event → Type 0 where
  by_message : (c : ℕ) (bs : List ℕ) (room a n : ℕ) → slot_of d c ≡ j → (step d (delivery c bs room)).reply ≡ took acted a n → one_of commands (header bs).kind ≡ true → (header bs).param ≡ m
      → Answers d j (release_code k) (delivery c bs room) → Completes d j k m (delivery c bs room)
  by_clear : (c : ℕ) (bs : List ℕ) (room a n : ℕ) → slot_of d c ≡ j → (step d (delivery c bs room)).reply ≡ took acted a n → (header bs).kind ≡ AsyncDeviceClear
      → Answers d j (release_code k) (delivery c bs room) → Completes d j k m (delivery c bs room)
  by_closing : {e : Event} (c : ℕ) → slot_of d c ≡ j → Closes d e c → Completes d j k m e

-- on server d (specs/Statements.antt: on every one that a list from the fresh server leaves)
pub record StandsOn (d : Server) (j : ℕ) (k : Kind) (m : ℕ) : Type 0 where
  -- it begins with a release, AsyncLock with code 0, that acts and sends nothing
  pub begins : (c : ℕ) (bs : List ℕ) (room a b : ℕ) → slot_of d c ≡ j → (step d (delivery c bs room)).reply ≡ took acted a b
      → (header bs).kind ≡ AsyncLock → (header bs).code ≡ 0 → (step d (delivery c bs room)).frames ≡ []
      → (header bs).param ≡ m → frees_first (at d.locks.entries j) ≡ k
      → Stands (at d.locks.entries j).number j k m (step d (delivery c bs room)).server
  -- its lock is held
  pub held : (at d.locks.entries j).standing ≡ release_of k m → held_kind k (at d.locks.entries j) ≡ true
  -- one call ends it, or leaves it standing for the same message and lock, which is still held
  pub until : (n : ℕ) (e : Event) → Stands n j k m d → Completes d j k m e ⊎ Stands n j k m (step d e).server
  -- while it stands, an AsyncLock of the session that acts is answered 3
  pub gets_3 : (n c : ℕ) (bs : List ℕ) (room a b : ℕ) → Stands n j k m d → slot_of d c ≡ j
      → (step d (delivery c bs room)).reply ≡ took acted a b → (header bs).kind ≡ AsyncLock → Answers d j 3 (delivery c bs room)

-- N. Isolation over the run (01, "Access: the exclusive holder alone"): from the answer that grants S exclusive until the answer to its
-- release or its closing, every Data, DataEND and Trigger that acts is S's. Assumes nothing.
use Rattle.std.specs.Prelude.{◌≡◌, Bool, true, ◌&&◌, List, [], ◌∷◌, ℕ, eqb}
use Rattle.wire.specs.Message.{header}
use Rattle.wire.specs.Class.{one_of}
use Rattle.model.specs.Sizes.{no_connection}
use Rattle.model.specs.MessageTypes.{AsyncLock, commands}
use Rattle.model.specs.Lists.{is_nil, any}
use Rattle.model.specs.State.{Locks, Kind.exclusive_lock, Standing.no_release, Standing.release_of, at, Server, fresh, Making}
use Rattle.model.specs.Interface.{Event, Event.delivery, Outcome.acted, Reply.took}
use Rattle.model.specs.Place.{slot_of}
use Rattle.model.specs.Step.{Line, step, final, log}
use Rattle.model.specs.Fewer.{answers1}
use Rattle.model.specs.Standing.{Answers, Completes}
use Rattle.model.specs.Closing.{Closes}

-- how it begins, for the session in slot j: its AsyncLock with code 1 and an empty string acts and is answered 1; or it waits for
-- exclusive, and a call sends answer 1 to its asynchronous connection
abbrev pub awaits_exclusive : Locks → ℕ → Bool
awaits_exclusive l j = any (λ w. eqb w.slot j && is_nil w.string) l.waiting

pub data Begins (d : Server) (j : ℕ) : Event → Type 0 where
  at_once : (c : ℕ) (bs : List ℕ) (room k n : ℕ) → slot_of d c ≡ j → (step d (delivery c bs room)).reply ≡ took acted k n
      → (header bs).kind ≡ AsyncLock → (header bs).code ≡ 1 → (header bs).len ≡ 0
      → any answers1 (step d (delivery c bs room)).frames ≡ true → Begins d j (delivery c bs room)
  later : (e : Event) → awaits_exclusive d.locks j ≡ true → ((at d.locks.entries j).asynchronous ≡ no_connection → ⊥)
      → any (λ f. answers1 f && eqb f.to (at d.locks.entries j).asynchronous) (step d e).frames ≡ true → Begins d j e

-- how it ends, with answer 1 (02, Q-3: "The lock counts as released when its answer is sent"): its release, AsyncLock with code 0, acts at
-- once, since none stands and it names the last message; or one that stands for the exclusive lock is completed; or it closes. The answer
-- is its own release's: a grant to it in the same call ends nothing
pub data Ends (d : Server) (j : ℕ) : Event → Type 0 where
  released_now : (c : ℕ) (bs : List ℕ) (room k n : ℕ) → slot_of d c ≡ j → (step d (delivery c bs room)).reply ≡ took acted k n → (header bs).kind ≡ AsyncLock → (header bs).code ≡ 0
      → (at d.locks.entries j).standing ≡ no_release → (at d.locks.entries j).last ≡ (header bs).param → Answers d j 1 (delivery c bs room)
      → Ends d j (delivery c bs room)
  released_later : {e : Event} (m : ℕ) → (at d.locks.entries j).standing ≡ release_of exclusive_lock m → Completes d j exclusive_lock m e → Ends d j e
  closes : {e : Event} (c : ℕ) → slot_of d c ≡ j → Closes d e c → Ends d j e

-- no call of the list ends it
abbrev pub Undisturbed : ℕ → Server → List Event → Type 0
Undisturbed j d [] = Unit {0}
Undisturbed j d (e ∷ es) = (Ends d j e → ⊥) × Undisturbed j (step d e).server es

-- session n is in slot j and holds exclusive
pub record Holder (n j : ℕ) (d : Server) : Type 0 where
  pub number : (at d.locks.entries j).number ≡ n
  pub exclusive : (at d.locks.entries j).exclusive ≡ true

-- before the list, and after each of its calls
abbrev pub Throughout : (Server → Type 0) → Server → List Event → Type 0
Throughout P d [] = P d
Throughout P d (e ∷ es) = P d × Throughout P (step d e).server es

-- every Data, DataEND and Trigger that acted is session n's
abbrev pub OnlyOf : ℕ → List Line → Type 0
OnlyOf n [] = Unit {0}
OnlyOf n (l ∷ ls) =
    ((c : ℕ) (bs : List ℕ) (room k m : ℕ) → l.event ≡ delivery c bs room → l.reply ≡ took acted k m → one_of commands (header bs).kind ≡ true → m ≡ n)
    × OnlyOf n ls

pub record Exclusive (n j : ℕ) (d : Server) (fs : List Event) : Type 0 where
  pub holds_on : Throughout (Holder n j) d fs
  pub only_its_own : OnlyOf n (log d fs)

-- after any list from the fresh server
pub record IsolationRun (v : Making) (es : List Event) (j : ℕ) : Type 0 where
  -- of a session that holds exclusive
  pub from_now : (fs : List Event) → (at (final (fresh v) es).locks.entries j).exclusive ≡ true → Undisturbed j (final (fresh v) es) fs
      → Exclusive (at (final (fresh v) es).locks.entries j).number j (final (fresh v) es) fs
  -- of a session that the next call grants exclusive
  pub from_grant : (e : Event) (fs : List Event) → Begins (final (fresh v) es) j e → Undisturbed j (step (final (fresh v) es) e).server fs
      → Exclusive (at (final (fresh v) es).locks.entries j).number j (step (final (fresh v) es) e).server fs

-- What a host may ask; asking changes nothing. Beside 02, for hosts that sleep until something is due and that cut long answers. Assumes
-- nothing.
use Rattle.std.specs.Prelude.{◌≡◌, cond, List, [], ◌∷◌, ℕ, ◌≤◌, ◌<◌, min, length}
use Rattle.readings.specs.Record.{Recorded}
use Rattle.model.specs.State.{Server, Waiting, at, live, slot_of_number, exchange_at, sensing_at}
use Rattle.model.specs.Interface.{Event.clock, Reply.done}
use Rattle.model.specs.Interface.{no_such_session}
use Rattle.model.specs.Step.{step}

-- the earliest deadline of those that wait; 0 if none waits
abbrev pub earliest_of : ℕ → List Waiting → ℕ
earliest_of t [] = t
earliest_of t (w ∷ ws) = earliest_of (min t w.deadline) ws

abbrev pub earliest : List Waiting → ℕ
earliest [] = 0
earliest (w ∷ ws) = earliest_of w.deadline ws

pub record DeadlineAnswer : Type 0 where
  pub waiting : ℕ
  pub deadline : ℕ

abbrev pub deadline_answer : Server → DeadlineAnswer
deadline_answer d = record { waiting = length d.locks.waiting; deadline = earliest d.locks.waiting }

-- the largest answer that a session's client takes; refused as 8 where there is no such session
pub record SizeAnswer : Type 0 where
  pub refusal : ℕ
  pub size : ℕ

abbrev pub size_answer : Server → ℕ → SizeAnswer
size_answer d n =
    let i = slot_of_number d.locks.entries n in
    cond (live (at d.locks.entries i))
    (record { refusal = 0; size = (exchange_at d.rest i).client_size })
    (record { refusal = no_such_session; size = 0 })

-- 02, Q-11: "The host may ask for them, and is told if there are none yet; only 8 refuses this.": the last, lowest and highest numeric reading by
-- their bits, once one was seen; else all is 0
pub record ReadingsAnswer : Type 0 where
  pub refusal : ℕ
  pub seen : ℕ
  pub last : ℕ
  pub lowest : ℕ
  pub highest : ℕ

abbrev pub no_readings : ℕ → ReadingsAnswer
no_readings n = record { refusal = n; seen = 0; last = 0; lowest = 0; highest = 0 }

abbrev pub readings_told : Recorded → ReadingsAnswer
readings_told r = cond r.seen (record { refusal = 0; seen = 1; last = r.last; lowest = r.lowest; highest = r.highest }) (no_readings 0)

abbrev pub readings_answer : Server → ℕ → ReadingsAnswer
readings_answer d n =
    let i = slot_of_number d.locks.entries n in
    cond (live (at d.locks.entries i)) (readings_told (sensing_at d.rest i).recorded) (no_readings no_such_session)

-- what a host may rely on that sleeps until the deadline told: a reading before it answers nobody, one at or past it that is accepted
-- answers at least one. Of any server
pub record Wakes (d : Server) : Type 0 where
  pub before : (t room : ℕ) → t < (deadline_answer d).deadline → (step d (clock t room)).frames ≡ []
  pub at_last : (t room : ℕ) → 0 < (deadline_answer d).waiting → (deadline_answer d).deadline ≤ t → (step d (clock t room)).reply ≡ done
      → 0 < length (step d (clock t room)).frames

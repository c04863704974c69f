-- K. The output of a call always fits the buffer lent with it (01: "The host lends an output buffer of at least 2,048 bytes"). Assumes nothing.
use Rattle.std.specs.Prelude.{◌≡◌, ℕ, ◌+◌, ◌*◌, ◌≤◌, List, length}
use Rattle.wire.specs.Frame.{bytes_of}
use Rattle.model.specs.Sizes.{payload_limit, session_limit, output_minimum}
use Rattle.model.specs.State.{Server, fresh, Making}
use Rattle.model.specs.Interface.{Event, Event.opening, Event.delivery, Event.cut, Event.clock, Event.answer, Event.status, Event.setting}
use Rattle.model.specs.Refusals.{refusal}
use Rattle.model.specs.Step.{step, final}

-- a frame without payload: the connection, then sixteen bytes
abbrev pub frame_size : ℕ
frame_size = 17

-- an answer to each session's request
abbrev pub answers_room : ℕ
answers_room = frame_size * session_limit

-- one frame with the largest payload, an answer to each session's request, and five more (02, Q-11: one for the request for service)
abbrev pub output_bound : ℕ
output_bound = frame_size + payload_limit + answers_room + frame_size * 5

-- the buffer lent with a call; openings, status changes and what the host sets have none
abbrev pub room_of : Event → ℕ
room_of (opening c) = 0
room_of (delivery c bs room) = room
room_of (cut c room) = room
room_of (clock t room) = room
room_of (answer n p end sh room) = room
room_of (status b) = 0
room_of (setting s) = 0

-- on any server: one frame with the largest payload, an answer to each waiting request, and four more
pub record Output (d : Server) (e : Event) : Type 0 where
  pub total : length (bytes_of (step d e).frames) ≤ frame_size + payload_limit + frame_size * (length d.locks.waiting + 4)

-- on any server on which no more requests wait than there are sessions
pub record Bound (d : Server) : Type 0 where
  pub within : (e : Event) → length (bytes_of (step d e).frames) ≤ output_bound
  -- a call that is not refused, as one with a small buffer is, has room for all that it writes
  pub has_room : (e : Event) → refusal d e ≡ 0 → length (bytes_of (step d e).frames) ≤ room_of e

-- after any list from the fresh server
pub record BoundRun (v : Making) (es : List Event) : Type 0 where
  pub waiting : length (final (fresh v) es).locks.waiting ≤ session_limit
  pub bound : Bound (final (fresh v) es)

pub record OutputFits : Type 0 where
  pub any_server : (d : Server) (e : Event) → Output d e
  pub few_waiting : (d : Server) → length d.locks.waiting ≤ session_limit → Bound d
  pub any_run : (v : Making) (es : List Event) → BoundRun v es
  -- the sum: 17 + 1,024 + 17 * 32 + 17 * 5
  pub sum : output_bound ≡ 1670
  -- 01, refusal 7: an output buffer under 2,048; Q-6: it may stay so
  pub enough : output_bound ≤ output_minimum

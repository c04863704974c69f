-- What passes between the host and the server: the six events and what the host sets, the replies, and the numbers of 01 that the C interface returns for
-- them. Assumes nothing.
use Rattle.std.specs.Prelude.{Bool, List, ℕ}
use Rattle.readings.specs.Watch.{Limits}

-- what the host sets, without a buffer
pub data Setting : Type 0 where
  -- 02, Q-11: the watch of a session: its number, and the watch by its limits' bits
  watch : ℕ → Limits → Setting
  -- 02, Q-12: the list of allowed commands, as a text: a pattern a line
  patterns : List ℕ → Setting

-- 01: six events; 02 adds what the host sets (Q-11: "Setting a watch is an event for demand 3"; Q-12: so is setting a list). ROOM is the length of the lent output buffer
pub data Event : Type 0 where
  -- a connection opens
  opening : ℕ → Event
  -- connection, all its unread bytes, room
  delivery : ℕ → List ℕ → ℕ → Event
  -- connection, room
  cut : ℕ → ℕ → Event
  -- milliseconds, room
  clock : ℕ → ℕ → Event
  -- the instrument answers (01: meter answer): session number, payload, with END, the session's unread synchronous bytes (02, Q-5), room
  answer : ℕ → List ℕ → Bool → List ℕ → ℕ → Event
  -- the instrument's status byte changes
  status : ℕ → Event
  -- the host sets something
  setting : Setting → Event

-- 01: one outcome of a delivery
pub data Outcome : Type 0 where
  more_needed skipped held ignored error_sent closed acted : Outcome

-- refused with a number; done; 02, Q-5: an answer withheld; a delivery's outcome, bytes taken, and session number (0 if none)
pub data Reply : Type 0 where
  refused : ℕ → Reply
  done : Reply
  withheld : Reply
  took : Outcome → ℕ → ℕ → Reply

-- the number of each outcome at the C interface
abbrev pub outcome_number : Outcome → ℕ
outcome_number more_needed = 0
outcome_number skipped = 1
outcome_number held = 2
outcome_number ignored = 3
outcome_number error_sent = 4
outcome_number closed = 5
outcome_number acted = 6

-- 01, "Numbers given to the host"
-- connection number above 63; for a delivery or a cut, also not open
abbrev pub no_such_connection : ℕ
no_such_connection = 1

-- opening one already open
abbrev pub already_open : ℕ
already_open = 2

-- clock below the last reading (equal is fine)
abbrev pub clock_back : ℕ
clock_back = 3

-- clock above 2^62
abbrev pub clock_above : ℕ
clock_above = 4

-- the session has asked nothing
abbrev pub nothing_asked : ℕ
nothing_asked = 5

-- meter answer above 1,024 or above the client's size
abbrev pub answer_too_long : ℕ
answer_too_long = 6

-- output buffer under 2,048
abbrev pub buffer_too_small : ℕ
buffer_too_small = 7

-- no live session of that number
abbrev pub no_such_session : ℕ
no_such_session = 8

-- 02, Q-11: a limit that is not a number, or low above high
abbrev pub bad_limits : ℕ
bad_limits = 10

-- 02, Q-12: the first bad pattern of a list
abbrev pub bad_pattern : ℕ
bad_pattern = 11

-- a list of more than 32 patterns
abbrev pub too_many_patterns : ℕ
too_many_patterns = 12

-- what hislip_deliver returns, from the reply, the bytes written and the bytes missing (specs/Missing.antt): on a refusal every other
-- number is 0
pub record DeliveryAnswer : Type 0 where
  pub refusal : ℕ
  pub outcome : ℕ
  pub session : ℕ
  pub taken : ℕ
  pub output : ℕ
  pub missing : ℕ

abbrev pub delivery_answer : Reply → ℕ → ℕ → DeliveryAnswer
delivery_answer (refused n) output missing = record { refusal = n; outcome = 0; session = 0; taken = 0; output = 0; missing = 0 }
delivery_answer done output missing = record { refusal = 0; outcome = 0; session = 0; taken = 0; output = output; missing = 0 }
delivery_answer withheld output missing = record { refusal = 0; outcome = 0; session = 0; taken = 0; output = output; missing = 0 }
delivery_answer (took o k n) output missing = record { refusal = 0; outcome = outcome_number o; session = n; taken = k; output = output; missing = missing }

-- what an opening, a cut and a clock reading return
pub record DoneAnswer : Type 0 where
  pub refusal : ℕ
  pub output : ℕ

abbrev pub done_answer : Reply → ℕ → DoneAnswer
done_answer (refused n) output = record { refusal = n; output = 0 }
done_answer done output = record { refusal = 0; output = output }
done_answer withheld output = record { refusal = 0; output = output }
done_answer (took o k n) output = record { refusal = 0; output = output }

-- what hislip_answer returns; 02, Q-5: "A withheld answer is reported to the host by name": 1 if it was withheld
pub record AnsweredAnswer : Type 0 where
  pub refusal : ℕ
  pub withheld : ℕ
  pub output : ℕ

abbrev pub answered_answer : Reply → ℕ → AnsweredAnswer
answered_answer (refused n) output = record { refusal = n; withheld = 0; output = 0 }
answered_answer done output = record { refusal = 0; withheld = 0; output = output }
answered_answer withheld output = record { refusal = 0; withheld = 1; output = output }
answered_answer (took o k n) output = record { refusal = 0; withheld = 0; output = output }

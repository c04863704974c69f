-- The table of what a call sends: every field of every frame. Written from 01's sentences by type number, apart from the definitions of
-- what a message does. Reply fields not named are 0.
use Rattle.std.specs.Prelude.{Bool, not, ◌&&◌, ◌||◌, cond, List, [], ◌∷◌, ◌++◌, map, ℕ, ◌+◌, ◌*◌, ◌/◌, ◌%◌, ◌^◌, min, eqb}
use Rattle.wire.specs.Frame.{Frame, frame_of}
use Rattle.readings.specs.Request.{request_code}
use Rattle.model.specs.Lists.{is_nil, any, keep, tally}
use Rattle.model.specs.State.{Server, Entry, Exchange, Waiting, Asked, Asked.none, Asked.some, at, live, slot_of_number, exchange_at, Sensing, sensing_at}
use Rattle.model.specs.Place.{slot_in}
use Rattle.model.specs.Happening.{Heard, Heard.silence, Heard.with_code, Action, Happening, Happening.unmoved, Happening.connected}
use Rattle.model.specs.Happening.{Happening.disconnected, Happening.skipped_over, Happening.errored, Happening.message_acted, Happening.clock_read}
use Rattle.model.specs.Happening.{Happening.status_set, Happening.setting_made, Happening.answer_sent, Happening.answer_withheld}
use Rattle.model.specs.LocalityRows.{kind_of, slot_acted, trips_by, available_row, interrupted_by, ended_with, requests_of, reached_by, connections_of}

-- a message to a connection with a type, code and parameter and no payload
abbrev pub plain_to : ℕ → ℕ → ℕ → ℕ → Frame
plain_to c t k x = frame_of c t k x []

-- the reply to a type of message
pub record ReplyTo : Type 0 where
  pub type : ℕ
  pub reply : Frame

-- a type that the table does not have is not replied to
abbrev pub reply_in : List ReplyTo → ℕ → List Frame
reply_in [] t = []
reply_in (r ∷ rs) t = cond (eqb t r.type) (r.reply ∷ []) (reply_in rs t)

-- 01: the status response is the meter's byte with value 16 replaced by message available
abbrev pub with16 : ℕ → Bool → ℕ
with16 b available = b / 32 * 32 + cond available 16 0 + b % 16

-- 01: AsyncLockInfo: code 1 if exclusive is held; parameter, sessions holding any lock, each once
abbrev pub holds_any : Entry → Bool
holds_any e = e.exclusive || not (is_nil e.shared)

-- 02, Q-1: the mode that the host prefers
abbrev pub preferred : Server → ℕ
preferred d = cond d.rest.made.prefers_overlap 1 0

-- message available as a status query leaves it; 02, Q-1: in overlap mode, some answer was sent since the last reset and the query's number
-- differs from the last one sent
abbrev pub available_seen : Action → Exchange → Bool
available_seen a x = cond x.overlap (x.any_sent && not (eqb ((a.message.param + 2) % 2 ^ 32) x.count)) ((available_row x).by_message a x.message_available)

-- the direct reply to a message that acted, on its own connection
abbrev pub replies : Server → Action → List ReplyTo
replies d a =
    let c = a.connection in
    let es = d.locks.entries in
    -- 01: control 0 (02, Q-1: bit 0, the mode that the host prefers); upper half the smaller of client version and 0100 hex; lower half the SessionID
    record { type = 0; reply = plain_to c 1 (preferred d) (min (a.message.param / 65536) 0x100 * 65536 + a.session) }
    -- 01: vendor number in the lower half
    ∷ record { type = 17; reply = plain_to c 18 0 d.rest.made.vendor }
    -- 02, Q-1: bit 0 as it is granted
    ∷ record { type = 8; reply = plain_to c 9 (a.message.code % 2) 0 }
    ∷ record { type = 10; reply = plain_to c 11 0 0 }
    -- 01: the reply says 1,024, in 8 bytes
    ∷ record { type = 15; reply = frame_of c 16 0 0 (0 ∷ 0 ∷ 0 ∷ 0 ∷ 0 ∷ 0 ∷ 4 ∷ 0 ∷ []) }
    ∷ record { type = 19; reply = plain_to c 23 (preferred d) 0 }
    -- message available as the query leaves it
    ∷ record { type = 21; reply = plain_to c 22 (with16 d.rest.status (available_seen a (exchange_at d.rest (slot_acted es a)))) 0 }
    ∷ record { type = 24; reply = plain_to c 25 (cond (any (λ e. e.exclusive) es) 1 0) (tally holds_any es) }
    ∷ []

-- as a code was heard, in one frame to each of some connections
abbrev pub said_to : Heard → ℕ → List ℕ → List Frame
said_to silence t cs = []
said_to (with_code k) t cs = map (λ c. plain_to c t k 0) cs

-- 01: a FatalError goes to each connection of the session, synchronous first (without a session, to that connection alone)
abbrev pub fatal_to : List Entry → ℕ → List ℕ
fatal_to es c = let e = at es (slot_in es c) in cond (live e) (connections_of e) (c ∷ [])

abbrev pub asked_number : Asked → ℕ
asked_number none = 0
asked_number (some n) = n

abbrev pub number_sent : Exchange → ℕ
number_sent x = cond x.overlap x.count (asked_number x.asked)

-- 02, Q-5: AsyncInterrupted (14), then Interrupted (13), with the number of the interrupting message
abbrev pub pair_to : Entry → ℕ → List Frame
pair_to e n = plain_to e.asynchronous 14 0 n ∷ plain_to e.synchronous 13 0 n ∷ []

-- 02, Q-11: the first trip since the watch was set: AsyncServiceRequest (20), "whose code is the meter's byte with values 16 and 64 set"
abbrev pub service_from : ℕ → Sensing → List ℕ → ℕ → List Frame
service_from c s p b = cond (not s.tripped && trips_by p s) (plain_to c 20 (request_code b) 0 ∷ []) []

abbrev pub service_to : Entry → Sensing → List ℕ → ℕ → List Frame
service_to e s p b = service_from e.asynchronous s p b

-- what stands before the lock answers: the pair of a message that interrupts
abbrev pub said_first : Server → Happening → List Frame
said_first d unmoved = []
said_first d (connected c) = []
said_first d (disconnected c k) = []
said_first d (skipped_over c k) = []
said_first d (errored c h k) = []
said_first d (message_acted a) = let i = slot_acted d.locks.entries a in cond (interrupted_by (exchange_at d.rest i) a) (pair_to (at d.locks.entries i) a.message.param) []
said_first d (clock_read t) = []
said_first d (status_set b) = []
said_first d (setting_made s) = []
said_first d (answer_sent n p end) = []
said_first d (answer_withheld n m) = []

-- every other frame but the lock answers
abbrev pub direct : Server → Happening → List Frame
direct d unmoved = []
direct d (connected c) = []
direct d (disconnected c k) = said_to k 2 (fatal_to d.locks.entries c)
direct d (skipped_over c k) = []
-- 01: errors go back on the same lane, with code as control code, parameter 0, no payload
direct d (errored c h k) = said_to k 3 (c ∷ [])
direct d (message_acted a) = reply_in (replies d a) (kind_of a)
direct d (clock_read t) = []
direct d (status_set b) = []
direct d (setting_made s) = []
-- 01: a meter answer is sent as Data (6) or DataEND (7) with the number that is asked; 02, Q-1: in overlap mode with the count of answers;
-- 02, Q-11: after it the request for service
direct d (answer_sent n p end) =
    let i = slot_of_number d.locks.entries n in
    frame_of (at d.locks.entries i).synchronous (cond end 7 6) 0 (number_sent (exchange_at d.rest i)) p ∷ service_to (at d.locks.entries i) (sensing_at d.rest i) p d.rest.status
-- 02, Q-5: the pair in place of the answer
direct d (answer_withheld n m) = pair_to (at d.locks.entries (slot_of_number d.locks.entries n)) m

-- an answer to a waiting request goes to its session's asynchronous connection
abbrev pub waiting_answer : ℕ → List Entry → Waiting → Frame
waiting_answer k es w = plain_to (at es w.slot).asynchronous 5 k 0

-- the lock answers that come before a direct reply: of AsyncLock (4) its own; of a clear (19) and a clock reading 0 to each request that
-- waits no more, oldest first; then that of a standing release that the message ends (02, Q-3)
abbrev pub answered_first : Server → Happening → List Frame
answered_first d unmoved = []
answered_first d (connected c) = []
answered_first d (disconnected c k) = []
answered_first d (skipped_over c k) = []
answered_first d (errored c h k) = []
answered_first d (message_acted a) =
    let es = d.locks.entries in
    let e = at es (slot_acted es a) in
    cond (eqb (kind_of a) 4) (said_to a.told 5 (a.connection ∷ []))
    (cond (eqb (kind_of a) 19) (map (waiting_answer 0 es) (keep (requests_of (slot_acted es a)) d.locks.waiting)) [] ++ said_to (ended_with a e.standing) 5 (e.asynchronous ∷ []))
answered_first d (clock_read t) = map (waiting_answer 0 d.locks.entries) (keep (reached_by t) d.locks.waiting)
answered_first d (status_set b) = []
answered_first d (setting_made s) = []
answered_first d (answer_sent n p end) = []
answered_first d (answer_withheld n m) = []

-- the session's number in a reply: of a message that acted and of a delivery that closed
abbrev pub session_said : Server → Happening → ℕ → ℕ
session_said d (message_acted a) n = cond (eqb (kind_of a) 0) n (at d.locks.entries (slot_acted d.locks.entries a)).number
session_said d (disconnected c k) n = (at d.locks.entries (slot_in d.locks.entries c)).number
session_said d unmoved n = 0
session_said d (connected c) n = 0
session_said d (skipped_over c k) n = 0
session_said d (errored c h k) n = 0
session_said d (clock_read t) n = 0
session_said d (status_set b) n = 0
session_said d (setting_made s) n = 0
session_said d (answer_sent s p end) n = 0
session_said d (answer_withheld s m) n = 0

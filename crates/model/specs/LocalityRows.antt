-- The table of locality: for each field of the server what may change it, and to what. Written from 01's sentences by type number, code,
-- parameter and payload, apart from the definitions of the checks and of what a message does.
use Rattle.std.specs.Prelude.{Bool, true, false, not, ◌&&◌, ◌||◌, cond, List, [], ◌∷◌, ◌++◌, ℕ, suc, ◌+◌, ◌-◌, ◌%◌, ◌^◌, eqb, leb, ltb}
use Rattle.wire.specs.declared.Header.{Header}
use Rattle.wire.specs.Field.{number}
use Rattle.wire.specs.Class.{one_of}
use Rattle.readings.specs.Watch.{Limits.off, trips}
use Rattle.readings.specs.Record.{Recorded, nothing, noted}
use Rattle.readings.specs.Payload.{readings_of}
use Rattle.readings.specs.Some as Tests
use Rattle.model.specs.Sizes.{no_connection}
use Rattle.model.specs.Lists.{is_nil, keep}
use Rattle.model.specs.State.{Making, Allowed, Allowed.only, Granted, no_grants, Entry, Waiting, Kind.exclusive_lock, Kind.shared_lock, Standing}
use Rattle.model.specs.State.{Standing.no_release, Standing.release_of, Asked, Asked.none, Asked.some, Exchange, at, live, slot_of_number, Sensing}
use Rattle.model.specs.Interface.{Setting, Setting.watch, Setting.patterns}
use Rattle.model.specs.Place.{slot_in}
use Rattle.model.specs.Happening.{Heard, Heard.silence, Heard.with_code, Action, Happening, Happening.unmoved, Happening.connected}
use Rattle.model.specs.Happening.{Happening.disconnected, Happening.skipped_over, Happening.errored, Happening.message_acted, Happening.clock_read}
use Rattle.model.specs.Happening.{Happening.status_set, Happening.setting_made, Happening.answer_sent, Happening.answer_withheld}

abbrev pub kind_of : Action → ℕ
kind_of a = a.message.kind

-- the slot of the session that a message acted for: Initialize (0) takes the first free one, AsyncInitialize (17) names its session, any
-- other message is its connection's session's
abbrev pub slot_acted : List Entry → Action → ℕ
slot_acted es a = cond (eqb (kind_of a) 0) (slot_of_number es 0) (cond (eqb (kind_of a) 17) (slot_of_number es a.message.param) (slot_in es a.connection))

-- a field that each session has: what a message of the session makes of it, what an answer to it makes of it, with or without END, what one
-- that is withheld makes of it (02, Q-5), what a message on its synchronous connection that is answered Error makes of it (02, Q-10), and what
-- it is once the session is closed
pub record Row (A : Type 0) : Type 0 where
  pub by_message : Action → A → A
  pub by_answer : Bool → A → A
  pub when_withheld : A → A
  pub by_error : Header → A → A
  pub once_closed : A

-- of the session in slot i; nothing else changes it
abbrev pub in_slot : {A : Type 0} → Row A → List Entry → ℕ → Happening → A → A
in_slot r es i unmoved x = x
in_slot r es i (connected c) x = x
in_slot r es i (disconnected c k) x = cond (eqb i (slot_in es c)) r.once_closed x
in_slot r es i (skipped_over c k) x = x
in_slot r es i (errored c h k) x = cond (eqb i (slot_in es c) && eqb (at es i).synchronous c) (r.by_error h x) x
in_slot r es i (message_acted a) x = cond (eqb i (slot_acted es a)) (r.by_message a x) x
in_slot r es i (clock_read t) x = x
in_slot r es i (status_set b) x = x
in_slot r es i (setting_made s) x = x
in_slot r es i (answer_sent n p end) x = cond (eqb i (slot_of_number es n)) (r.by_answer end x) x
in_slot r es i (answer_withheld n m) x = cond (eqb i (slot_of_number es n)) (r.when_withheld x) x

-- EXCHANGES. 01: AsyncDeviceClear (19); DeviceClearComplete (8) ends it. A session begins (0) outside a clear
abbrev pub clear_row : Row Bool
clear_row =
    record {
      by_message = λ a b. cond (eqb (kind_of a) 19) true (cond (one_of (0 ∷ 8 ∷ []) (kind_of a)) false b);
      by_answer = λ end b. b;
      when_withheld = λ b. b;
      by_error = λ h b. b;
      once_closed = false;
    }

-- 02, Q-5: in synchronized mode a Data, DataEND or Trigger (6, 7, 12) interrupts if its RMT-delivered (code 1) differs from whether one is
-- expected
abbrev pub interrupted_by : Exchange → Action → Bool
interrupted_by x a = one_of (6 ∷ 7 ∷ 12 ∷ []) (kind_of a) && (not x.overlap && cond (eqb a.message.code 1) (not x.rmt_expected) x.rmt_expected)

-- 01: DataEND (7) and Trigger (12) acted on set what is asked to their MessageID; at a clear (19) nothing is asked any more; an answer by
-- DataEND then clears it. 02, Q-5: so do an interruption, before the message acts, and an answer that is withheld
abbrev pub asked_row : Exchange → Row Asked
asked_row x =
    record {
      by_message = λ a q. cond (one_of (7 ∷ 12 ∷ []) (kind_of a)) (some a.message.param) (cond (one_of (0 ∷ 19 ∷ []) (kind_of a) || interrupted_by x a) none q);
      by_answer = λ end q. cond end none q;
      when_withheld = λ q. none;
      by_error = λ h q. q;
      once_closed = none;
    }

-- 01: message available goes on when an answer is sent, off when a message that acts carries RMT-delivered 1 (6, 7, 12, 21), and at a
-- clear (19). 02, Q-5: off at an interruption, and where an answer is withheld
abbrev pub available_row : Exchange → Row Bool
available_row x =
    record {
      by_message = λ a b. cond (one_of (0 ∷ 19 ∷ []) (kind_of a) || (interrupted_by x a || (one_of (6 ∷ 7 ∷ 12 ∷ 21 ∷ []) (kind_of a) && eqb a.message.code 1))) false b;
      by_answer = λ end b. true;
      when_withheld = λ b. false;
      by_error = λ h b. b;
      once_closed = false;
    }

-- 01: a client's size starts at 1,024 per session; AsyncMaximumMessageSize (15) says it in its payload
abbrev pub size_row : Row ℕ
size_row =
    record {
      by_message = λ a n. cond (eqb (kind_of a) 15) (number a.message.payload) (cond (eqb (kind_of a) 0) 1024 n);
      by_answer = λ end n. n;
      when_withheld = λ n. n;
      by_error = λ h n. n;
      once_closed = 1024;
    }

-- 02, Q-1: a session starts (0) in the mode that the host prefers; DeviceClearComplete's (8) bit 0 is granted as asked
abbrev pub mode_row : Bool → Row Bool
mode_row preferred =
    record {
      by_message = λ a b. cond (eqb (kind_of a) 0) preferred (cond (eqb (kind_of a) 8) (eqb (a.message.code % 2) 1) b);
      by_answer = λ end b. b;
      when_withheld = λ b. b;
      by_error = λ h b. b;
      once_closed = false;
    }

-- 02, Q-1: answers are counted from ffffff00 hex by two, wrapping; initialization (0) and AsyncDeviceClear (19) reset the count
abbrev pub count_row : Row ℕ
count_row =
    record {
      by_message = λ a n. cond (one_of (0 ∷ 19 ∷ []) (kind_of a)) 0xffffff00 n;
      by_answer = λ end n. (n + 2) % 2 ^ 32;
      when_withheld = λ n. n;
      by_error = λ h n. n;
      once_closed = 0xffffff00;
    }

-- some answer was sent since the last reset
abbrev pub sent_row : Row Bool
sent_row = record { by_message = λ a b. cond (one_of (0 ∷ 19 ∷ []) (kind_of a)) false b; by_answer = λ end b. true; when_withheld = λ b. b; by_error = λ h b. b; once_closed = false }

-- 02, Q-5: an RMT is expected after an answer with END was sent, until the next Data, DataEND or Trigger (6, 7, 12), a clear (19), or a status
-- query (21) with RMT-delivered
abbrev pub expected_row : Row Bool
expected_row =
    record {
      by_message = λ a b. cond (one_of (0 ∷ 6 ∷ 7 ∷ 12 ∷ 19 ∷ []) (kind_of a) || (eqb (kind_of a) 21 && eqb a.message.code 1)) false b;
      by_answer = λ end b. cond end true b;
      when_withheld = λ b. b;
      by_error = λ h b. b;
      once_closed = false;
    }

-- 02, Q-10: the number expected: "ffffff00 hex first after opening or clear" (0, 19), "each next two more, wrapping". It moves with each Data,
-- DataEND or Trigger (6, 7, 12) that acts, and with one that is answered Error, if that is outside a clear and carries it
abbrev pub step_row : Exchange → Row ℕ
step_row x =
    record {
      by_message = λ a n. cond (one_of (6 ∷ 7 ∷ 12 ∷ []) (kind_of a)) ((n + 2) % 2 ^ 32) (cond (one_of (0 ∷ 19 ∷ []) (kind_of a)) 0xffffff00 n);
      by_answer = λ end n. n;
      when_withheld = λ n. n;
      by_error = λ h n. cond (not x.in_clear && (one_of (6 ∷ 7 ∷ 12 ∷ []) h.kind && eqb h.param n)) ((n + 2) % 2 ^ 32) n;
      once_closed = 0xffffff00;
    }

-- SESSIONS. 01: Initialize (0) issues the number in its reply and is the synchronous connection, AsyncInitialize (17) the other one
abbrev pub number_row : Row ℕ
number_row = record { by_message = λ a n. cond (eqb (kind_of a) 0) a.session n; by_answer = λ end n. n; when_withheld = λ n. n; by_error = λ h n. n; once_closed = 0 }

abbrev pub synchronous_row : Row ℕ
synchronous_row = record { by_message = λ a c. cond (eqb (kind_of a) 0) a.connection c; by_answer = λ end c. c; when_withheld = λ c. c; by_error = λ h c. c; once_closed = no_connection }

abbrev pub asynchronous_row : Row ℕ
asynchronous_row =
    record {
      by_message = λ a c. cond (eqb (kind_of a) 17) a.connection (cond (eqb (kind_of a) 0) no_connection c);
      by_answer = λ end c. c;
      when_withheld = λ c. c;
      by_error = λ h c. c;
      once_closed = no_connection;
    }

-- AsyncLock (4): a release (code 0); a request granted at once (answered 1) and one that is not answered, so waits
abbrev pub is_code : ℕ → Heard → Bool
is_code k silence = false
is_code k (with_code n) = eqb n k

abbrev pub is_silence : Heard → Bool
is_silence silence = true
is_silence (with_code n) = false

abbrev pub is_release : Action → Bool
is_release a = eqb (kind_of a) 4 && eqb a.message.code 0

abbrev pub obtains : Action → Bool
obtains a = eqb (kind_of a) 4 && (not (eqb a.message.code 0) && is_code 1 a.told)

abbrev pub waits : Action → Bool
waits a = eqb (kind_of a) 4 && (not (eqb a.message.code 0) && is_silence a.told)

-- the code that answers a standing release whose number passes a test: 1 for exclusive, 2 for shared
abbrev pub code_where : (ℕ → Bool) → Standing → Heard
code_where t no_release = silence
code_where t (release_of exclusive_lock n) = cond (t n) (with_code 1) silence
code_where t (release_of shared_lock n) = cond (t n) (with_code 2) silence

-- 02, Q-3: a standing release ends with a Data, DataEND or Trigger (6, 7, 12) of the number that it names, and with any AsyncDeviceClear
-- (19)
abbrev pub ended_with : Action → Standing → Heard
ended_with a s = cond (one_of (6 ∷ 7 ∷ 12 ∷ []) (kind_of a)) (code_where (λ n. eqb n a.message.param) s) (cond (eqb (kind_of a) 19) (code_where (λ n. true) s) silence)

-- the code with which a message answers a release of its session e: a release its own, if it is answered at once; else one that stood
abbrev pub released_with : Entry → Action → Heard
released_with e a = cond (is_release a) a.told (ended_with a e.standing)

-- the locks of session e by its own doing, before waiting requests are looked at. 01: exclusive has the empty string; release frees
-- exclusive first (1), then shared (2). 02, Q-3: a lock counts as released when its answer is sent
abbrev pub exclusive_row : Entry → Row Bool
exclusive_row e =
    record {
      by_message = λ a b. cond (eqb (kind_of a) 0 || is_code 1 (released_with e a)) false (cond (obtains a && is_nil a.message.payload) true b);
      by_answer = λ end b. b;
      when_withheld = λ b. b;
      by_error = λ h b. b;
      once_closed = false;
    }

abbrev pub shared_row : Entry → Row (List ℕ)
shared_row e =
    record {
      by_message = λ a s. cond (eqb (kind_of a) 0 || is_code 2 (released_with e a)) [] (cond (obtains a && not (is_nil a.message.payload)) a.message.payload s);
      by_answer = λ end s. s;
      when_withheld = λ s. s;
      by_error = λ h s. s;
      once_closed = [];
    }

-- 02, Q-3: the number of the last Data, DataEND or Trigger acted on since opening (0) or the last AsyncDeviceClear (19); before any,
-- fffffefe hex
abbrev pub last_row : Row ℕ
last_row =
    record {
      by_message = λ a n. cond (one_of (6 ∷ 7 ∷ 12 ∷ []) (kind_of a)) a.message.param (cond (one_of (0 ∷ 19 ∷ []) (kind_of a)) 0xfffffefe n);
      by_answer = λ end n. n;
      when_withheld = λ n. n;
      by_error = λ h n. n;
      once_closed = 0xfffffefe;
    }

-- 02, Q-3: a release that is not answered at once stands for the message that it names; "Which lock it frees is fixed when it arrives",
-- exclusive first
abbrev pub standing_row : Entry → Row Standing
standing_row e =
    record {
      by_message = λ a s.
          cond (is_release a && is_silence a.told) (release_of (cond e.exclusive exclusive_lock shared_lock) a.message.param)
          (cond (eqb (kind_of a) 0 || not (is_silence (ended_with a s))) no_release s);
      by_answer = λ end s. s;
      when_withheld = λ s. s;
      by_error = λ h s. s;
      once_closed = no_release;
    }

-- 02, Q-9: "the clock reading of its last grant and the number of locks granted to it, as answers sent since it opened (once at 2^62 it
-- stays there)": one grant more, while the clock reads now; a request granted at once is one, and a session begins (0) with none
abbrev pub more_granted : ℕ → Granted → Granted
more_granted now g = record { granted_at = now; grants = cond (ltb g.grants (2 ^ 62)) (suc g.grants) g.grants }

abbrev pub granted_row : ℕ → Row Granted
granted_row now =
    record {
      by_message = λ a g. cond (eqb (kind_of a) 0) no_grants (cond (obtains a) (more_granted now g) g);
      by_answer = λ end g. g;
      when_withheld = λ g. g;
      by_error = λ h g. g;
      once_closed = no_grants;
    }

-- READINGS. 02, Q-11: what is set arms the watch, also the same one again, and leaves the record; the readings of an answer that is sent trip it
-- and go to the record, one after the other; a closing forgets both. Nothing else changes them
abbrev pub trips_by : List ℕ → Sensing → Bool
trips_by p s = Tests.some (trips s.watch) (readings_of p)

abbrev pub noted_all : List ℕ → Recorded → Recorded
noted_all [] r = r
noted_all (b ∷ bs) r = noted_all bs (noted r b)

abbrev pub set_by : List Entry → ℕ → Setting → Sensing → Sensing
set_by es i (watch n l) s = cond (eqb i (slot_of_number es n)) (record { watch = l; tripped = false; recorded = s.recorded }) s
set_by es i (patterns text) s = s

abbrev pub sensing_row : List Entry → ℕ → Happening → Sensing → Sensing
sensing_row es i unmoved s = s
sensing_row es i (connected c) s = s
sensing_row es i (disconnected c k) s = cond (eqb i (slot_in es c)) (record { watch = off; tripped = false; recorded = nothing }) s
sensing_row es i (skipped_over c k) s = s
sensing_row es i (errored c h k) s = s
sensing_row es i (message_acted a) s = s
sensing_row es i (clock_read t) s = s
sensing_row es i (status_set b) s = s
sensing_row es i (setting_made x) s = set_by es i x s
sensing_row es i (answer_sent n p end) s =
    cond (eqb i (slot_of_number es n)) (record { watch = s.watch; tripped = s.tripped || trips_by p s; recorded = noted_all (readings_of p) s.recorded }) s
sensing_row es i (answer_withheld n m) s = s

-- REQUESTS, before they are looked at: one that waits is the last, until clock of arrival plus timeout; a clear (19) and a closing take
-- the session's; a clock reading takes those at whose deadline it is, or past it
abbrev pub requests_of : ℕ → Waiting → Bool
requests_of i w = eqb w.slot i

abbrev pub reached_by : ℕ → Waiting → Bool
reached_by t w = leb w.deadline t

abbrev pub requests_left : List Entry → ℕ → Happening → List Waiting → List Waiting
requests_left es now unmoved ws = ws
requests_left es now (connected c) ws = ws
requests_left es now (disconnected c k) ws = keep (λ w. not (requests_of (slot_in es c) w)) ws
requests_left es now (skipped_over c k) ws = ws
requests_left es now (errored c h k) ws = ws
requests_left es now (message_acted a) ws =
    cond (waits a) (ws ++ record { slot = slot_acted es a; deadline = now + a.message.param; string = a.message.payload } ∷ [])
    (cond (eqb (kind_of a) 19) (keep (λ w. not (requests_of (slot_acted es a) w)) ws) ws)
requests_left es now (clock_read t) ws = keep (λ w. not (reached_by t w)) ws
requests_left es now (status_set b) ws = ws
requests_left es now (setting_made s) ws = ws
requests_left es now (answer_sent n p end) ws = ws
requests_left es now (answer_withheld n m) ws = ws

-- they are looked at where a release was answered 1 or 2, so a lock was freed, and after a closing (that a look would grant nobody after
-- any other call is `always_settled`)
abbrev pub looks_after : List Entry → Happening → Bool
looks_after es unmoved = false
looks_after es (connected c) = false
looks_after es (disconnected c k) = true
looks_after es (skipped_over c k) = false
looks_after es (errored c h k) = false
looks_after es (message_acted a) = let r = released_with (at es (slot_acted es a)) a in is_code 1 r || is_code 2 r
looks_after es (clock_read t) = false
looks_after es (status_set b) = false
looks_after es (setting_made s) = false
looks_after es (answer_sent n p end) = false
looks_after es (answer_withheld n m) = false

-- CONNECTIONS. A closing of connection c concerns c and each connection of its session
abbrev pub connections_of : Entry → List ℕ
connections_of e = e.synchronous ∷ cond (eqb e.asynchronous no_connection) [] (e.asynchronous ∷ [])

abbrev pub concerns : List Entry → ℕ → ℕ → Bool
concerns es c x = let e = at es (slot_in es c) in eqb x c || (live e && one_of (connections_of e) x)

-- a field that each connection has: what it is once the connection is open, and once it is closed; what bytes that are skipped make of it, and
-- a message that is answered Error
pub record Way (A : Type 0) : Type 0 where
  pub once_open : A
  pub once_closed : A
  pub by_skip : ℕ → A → A
  pub by_error : Header → A → A

-- of connection x; nothing else changes it
abbrev pub in_place : {A : Type 0} → Way A → List Entry → ℕ → Happening → A → A
in_place r es x unmoved y = y
in_place r es x (connected c) y = cond (eqb x c) r.once_open y
in_place r es x (disconnected c k) y = cond (concerns es c x) r.once_closed y
in_place r es x (skipped_over c k) y = cond (eqb x c) (r.by_skip k y) y
in_place r es x (errored c h k) y = cond (eqb x c) (r.by_error h y) y
in_place r es x (message_acted a) y = y
in_place r es x (clock_read t) y = y
in_place r es x (status_set b) y = y
in_place r es x (setting_made s) y = y
in_place r es x (answer_sent n p end) y = y
in_place r es x (answer_withheld n m) y = y

-- whether it is open
abbrev pub open_row : Way Bool
open_row = record { once_open = true; once_closed = false; by_skip = λ k b. b; by_error = λ h b. b }

-- its remainder to skip. Check 4: length above 1,024, the payload is skipped as it comes
abbrev pub remainder_row : Way ℕ
remainder_row = record { once_open = 0; once_closed = 0; by_skip = λ k r. r - k; by_error = λ h r. cond (ltb 1024 h.len) h.len r }

-- SINGLE FIELDS: what a message makes of it, a clock reading, a status change, what the host sets; nothing else changes it
pub record Single (A : Type 0) : Type 0 where
  pub on_message : Action → A → A
  pub on_clock : ℕ → A → A
  pub on_status : ℕ → A → A
  pub on_setting : Setting → A → A

abbrev pub singly : {A : Type 0} → Single A → Happening → A → A
singly r unmoved x = x
singly r (connected c) x = x
singly r (disconnected c k) x = x
singly r (skipped_over c k) x = x
singly r (errored c h k) x = x
singly r (message_acted a) x = r.on_message a x
singly r (clock_read t) x = r.on_clock t x
singly r (status_set b) x = r.on_status b x
singly r (setting_made s) x = r.on_setting s x
singly r (answer_sent n p end) x = x
singly r (answer_withheld n m) x = x

abbrev pub clock_row : Single ℕ
clock_row = record { on_message = λ a x. x; on_clock = λ t x. t; on_status = λ b x. x; on_setting = λ s x. x }

abbrev pub status_row : Single ℕ
status_row = record { on_message = λ a x. x; on_clock = λ t x. x; on_status = λ b x. b; on_setting = λ s x. x }

-- how the server was made: its vendor number and the mode that the host prefers
abbrev pub made_row : Single Making
made_row = record { on_message = λ a x. x; on_clock = λ t x. x; on_status = λ b x. x; on_setting = λ s x. x }

-- 02, Q-12: the allowed commands: those of the list set last
abbrev pub list_by : Setting → Allowed → Allowed
list_by (watch n l) x = x
list_by (patterns text) x = only text

abbrev pub allowed_row : Single Allowed
allowed_row = record { on_message = λ a x. x; on_clock = λ t x. x; on_status = λ b x. x; on_setting = list_by }

-- the SessionID issued last: Initialize (0), the number in its reply
abbrev pub issued_row : Single ℕ
issued_row = record { on_message = λ a x. cond (eqb (kind_of a) 0) a.session x; on_clock = λ t x. x; on_status = λ b x. x; on_setting = λ s x. x }

-- a flag: AsyncRemoteLocalControl (10), with the codes that set it and those that clear it
abbrev pub flag : List ℕ → List ℕ → Single Bool
flag ons offs =
    record {
      on_message = λ a b. cond (eqb (kind_of a) 10) (cond (one_of ons a.message.code) true (cond (one_of offs a.message.code) false b)) b;
      on_clock = λ t b. b;
      on_status = λ s b. b;
      on_setting = λ s b. b;
    }

-- 01: codes 0 and 2 clear all three; 1 sets enable; 3 sets enable and remote; 4 enable and lockout; 5 all; 6 clears remote
abbrev pub enable_row : Single Bool
enable_row = flag (1 ∷ 3 ∷ 4 ∷ 5 ∷ []) (0 ∷ 2 ∷ [])

abbrev pub lockout_row : Single Bool
lockout_row = flag (4 ∷ 5 ∷ []) (0 ∷ 2 ∷ [])

abbrev pub remote_row : Single Bool
remote_row = flag (3 ∷ 5 ∷ []) (0 ∷ 2 ∷ 6 ∷ [])

-- One call and a list of calls: what each verdict does, the plan of each event, the grant pass after it, the reply and the frames.
-- Assumes nothing.
use Rattle.std.specs.Prelude.{Bool, true, false, not, ◌&&◌, cond, List, [], ◌∷◌, ◌++◌, map, ℕ, zero, suc, ◌-◌, eqb, set}
use Rattle.wire.specs.Message.{header}
use Rattle.wire.specs.Frame.{Frame, frame_of}
use Rattle.model.specs.Sizes.{no_connection}
use Rattle.model.specs.MessageTypes.{FatalError, Error, AsyncLockResponse, Data, DataEND}
use Rattle.model.specs.State.{Server, Rest, Exchange, Connection, at, live, slot_of_number, exchange_at, connection_at, open_connection, closed_connection}
use Rattle.model.specs.State.{fresh_exchange, fresh_sensing, sensing_at, with_connections, with_connection, with_exchange, with_sensing, with_sensings}
use Rattle.model.specs.State.{with_status}
use Rattle.model.specs.Interface.{Event, Event.opening, Event.delivery, Event.cut, Event.clock, Event.answer, Event.status, Event.setting}
use Rattle.model.specs.Interface.{Outcome.more_needed, Outcome.skipped, Outcome.held, Outcome.ignored, Outcome.error_sent, Outcome.closed, Reply}
use Rattle.model.specs.Interface.{Reply.refused, Reply.done, Reply.withheld, Reply.took}
use Rattle.model.specs.Scan.{Scan, Scan.empty, Scan.few, Scan.wrong, Scan.skipping, Scan.long, Scan.part, Scan.whole, scan, size, leftover}
use Rattle.model.specs.Place.{Role, Role.r_none, Role.r_half_open, Role.r_synchronous, Role.r_asynchronous, slot_of, role_of, entry_of}
use Rattle.model.specs.Locks.{Answer, LockEvent.nothing, LockEvent.close, LockEvent.reading, change, frees, settle}
use Rattle.model.specs.Exchange.{with_number, number_after, answered_with, answer_number, interrupted, interrupts}
use Rattle.model.specs.Checks.{Verdict, Verdict.v_more, Verdict.v_skipped, Verdict.v_held, Verdict.v_ignored, Verdict.v_closed, Verdict.v_acts, Verdict.v_error, Verdict.v_fatal, verdict}
use Rattle.model.specs.Acts.{Plan, say, interruptions, acts}
use Rattle.model.specs.Sensing.{sensed, service_after, setting_rest}
use Rattle.model.specs.Refusals.{refusal}

-- each connection of the session of a connection, synchronous first; without a session, that connection alone
abbrev pub channels : Server → ℕ → List ℕ
channels d c =
    let e = entry_of d c in
    cond (live e) (e.synchronous ∷ cond (eqb e.asynchronous no_connection) [] (e.asynchronous ∷ [])) (c ∷ [])

abbrev pub shut_all : List Connection → List ℕ → List Connection
shut_all cs [] = cs
shut_all cs (x ∷ xs) = shut_all (set cs x closed_connection) xs

-- 01: cutting either connection closes the session, if there is one; the connections concerned are then not open, and unread bytes
-- and remainders are dropped; 02, Q-11: "Closing forgets the watch and the record."
abbrev pub closing : Server → ℕ → Rest
closing d c = with_sensing (with_exchange (with_connections d.rest (shut_all d.rest.connections (channels d c))) (slot_of d c) fresh_exchange) (slot_of d c) fresh_sensing

-- changes nothing, says nothing
abbrev pub idle : Server → Reply → Plan
idle d r = record { reply = r; rest = d.rest; first = []; said = []; event = nothing }

-- 02, Q-10: the number expected after a message that is answered Error: "even one refused as too large or by a later check" moves it, if it
-- carries it. Only a message on the synchronous channel does
abbrev pub number_taken : Role → Scan → Exchange → ℕ
number_taken r_synchronous (long h) x = number_after h x
number_taken r_synchronous (whole h p) x = number_after h x
number_taken r_synchronous empty x = x.number_expected
number_taken r_synchronous few x = x.number_expected
number_taken r_synchronous wrong x = x.number_expected
number_taken r_synchronous (skipping k) x = x.number_expected
number_taken r_synchronous (part h) x = x.number_expected
number_taken r_none s x = x.number_expected
number_taken r_half_open s x = x.number_expected
number_taken r_asynchronous s x = x.number_expected

abbrev pub counted : Role → Scan → Exchange → Exchange
counted r s x = with_number (number_taken r s x) x

-- only a whole message acts; the other clauses are never met
abbrev pub acting : Scan → Role → Server → ℕ → ℕ → Plan
acting empty r d i c = idle d (took more_needed 0 0)
acting few r d i c = idle d (took more_needed 0 0)
acting wrong r d i c = idle d (took more_needed 0 0)
acting (skipping k) r d i c = idle d (took more_needed 0 0)
acting (long h) r d i c = idle d (took more_needed 0 0)
acting (part h) r d i c = idle d (took more_needed 0 0)
acting (whole h p) r d i c = acts r d i c h p

-- a delivery on connection c, of the session in slot i
unfoldable pub effect : Verdict → Scan → Role → Server → ℕ → ℕ → Plan
effect v_more s r d i c = idle d (took more_needed 0 0)
effect v_held s r d i c = idle d (took held 0 0)
effect v_skipped s r d i c =
    record {
      reply = took skipped (size s) 0;
      rest = with_connection d.rest c (open_connection ((connection_at d.rest c).remainder - size s));
      first = [];
      said = [];
      event = nothing;
    }
effect v_ignored s r d i c = record { reply = took ignored (size s) 0; rest = d.rest; first = []; said = []; event = nothing }
-- 01: errors go back on the same lane, with code as control code, parameter 0, no payload; but for check 4 the message is taken whole
effect (v_error n) s r d i c =
    record {
      reply = took error_sent (size s) 0;
      rest = with_connection (with_exchange d.rest i (counted r s (exchange_at d.rest i))) c (open_connection (leftover s));
      first = [];
      said = say c Error n 0;
      event = nothing;
    }
-- 01: a FatalError goes to each connection of the session, synchronous first, then the session closes as if cut. A delivery that
-- closes reports 0 bytes taken
effect (v_fatal n) s r d i c =
    record {
      reply = took closed 0 (at d.locks.entries i).number;
      rest = closing d c;
      first = [];
      said = map (λ x. frame_of x FatalError n 0 []) (channels d c);
      event = close i;
    }
effect v_closed s r d i c = record { reply = took closed 0 (at d.locks.entries i).number; rest = closing d c; first = []; said = []; event = close i }
effect v_acts s r d i c = acting s r d i c

unfoldable pub received : Server → ℕ → Scan → Plan
received d c s = let r = role_of d.locks.entries c in let i = slot_of d c in effect (verdict r d i s) s r d i c

-- 01: a meter answer is sent as Data or DataEND
abbrev pub answer_type : Bool → ℕ
answer_type true = DataEND
answer_type false = Data

-- 02, Q-5: in synchronized mode an answer with END is withheld if the bytes shown with it interrupt it
abbrev pub withholds : Server → ℕ → Bool → List ℕ → Bool
withholds d n end sh =
    let i = slot_of_number d.locks.entries n in
    end && (not (exchange_at d.rest i).overlap && interrupts (connection_at d.rest (at d.locks.entries i).synchronous).remainder sh)

unfoldable pub plan : Server → Event → Plan
plan d (opening c) = record { reply = done; rest = with_connection d.rest c (open_connection 0); first = []; said = []; event = nothing }
plan d (delivery c bs room) = received d c (scan (connection_at d.rest c).remainder bs)
plan d (cut c room) = record { reply = done; rest = closing d c; first = []; said = []; event = close (slot_of d c) }
plan d (clock t room) = record { reply = done; rest = d.rest; first = []; said = []; event = reading t }
plan d (answer n p end sh room) =
    let i = slot_of_number d.locks.entries n in
    let e = at d.locks.entries i in
    let x = exchange_at d.rest i in
    let s = sensing_at d.rest i in
    let w = withholds d n end sh in
    record {
      reply = cond w withheld done;
      rest = with_sensings (with_exchange d.rest i (cond w (interrupted x) (answered_with end x))) (cond w d.rest.sensings (set d.rest.sensings i (sensed p s)));
      first = [];
      said = cond w (interruptions e (header sh).param) (frame_of e.synchronous (answer_type end) 0 (answer_number x) p ∷ service_after d n p);
      event = nothing;
    }
plan d (status b) = record { reply = done; rest = with_status d.rest b; first = []; said = []; event = nothing }
plan d (setting s) = record { reply = done; rest = setting_rest d s; first = []; said = []; event = nothing }

pub record Result : Type 0 where
  pub server : Server
  pub reply : Reply
  pub frames : List Frame

abbrev pub lock_frame : Answer → Frame
lock_frame a = frame_of a.to AsyncLockResponse a.code 0 []

-- what the call says first, the answers of the event, what the call says then, the answers of the grant pass; the pass only where the event freed a lock
unfoldable pub finish : Server → Plan → Result
finish d p =
    let x = change d.locks p.event in
    let y = settle (frees d.locks p.event) x.locks in
    record {
      server = record { locks = y.locks; rest = p.rest };
      reply = p.reply;
      frames = p.first ++ (map lock_frame x.answers ++ (p.said ++ map lock_frame y.answers));
    }

-- 01: each refusal leaves the desk alone
unfoldable pub answered : ℕ → Server → Event → Result
answered zero d e = finish d (plan d e)
answered (suc n) d e = record { server = d; reply = refused (suc n); frames = [] }

unfoldable pub step : Server → Event → Result
step d e = answered (refusal d e) d e

-- a list of calls, the first on server d: the server that it leaves, and a line for each call
pub record Line : Type 0 where
  pub event : Event
  pub reply : Reply
  pub frames : List Frame

unfoldable pub final : Server → List Event → Server
final d [] = d
final d (e ∷ es) = final (step d e).server es

unfoldable pub log : Server → List Event → List Line
log d [] = []
log d (e ∷ es) = let r = step d e in record { event = e; reply = r.reply; frames = r.frames } ∷ log r.server es

-- Claims H to O at single calls, by computation: an edit that breaks a claim is refused here, whatever becomes of its proof. Assumes
-- nothing.
use mathlib.Core.Path.{◌≡◌, refl}
use mathlib.Core.Bool.{Bool, true, false, not, ◌&&◌, ◌||◌}
use mathlib.Core.List.{List, [], ◌∷◌, ◌++◌, map}
use Prim.Native.Nat.{ℕ, ◌+◌, ◌*◌}
use lib.Dec.{eqb, leb, ltb}
use lib.ListN.{set, replicate, length}
use Rattle.wire.specs.Field.{field}
use Rattle.wire.specs.Message.{header, encode, header_bytes}
use Rattle.wire.specs.Frame.{frame_bytes, bytes_of}
use Rattle.wire.specs.Class.{class_of}
use Rattle.readings.specs.Payload.{watched, readings_in}
use Rattle.readings.specs.Block.{block_of}
use Rattle.model.specs.Sizes.{string_limit, output_minimum, last_session_id}
use Rattle.model.specs.Lists.{is_nil, same, all, any, keep}
use Rattle.model.specs.State.{Server, Entry, at, fresh}
use Rattle.model.specs.Interface.{Event, Event.opening, Event.delivery, Event.cut, Event.clock, Event.answer, Event.status, Event.setting, Setting.watch}
use Rattle.model.specs.Interface.{Setting.patterns, Outcome.more_needed, Outcome.skipped, Outcome.held, Outcome.ignored, Outcome.error_sent}
use Rattle.model.specs.Interface.{Outcome.closed, Outcome.acted, Reply, Reply.refused, Reply.done, Reply.withheld, Reply.took}
use Rattle.model.specs.Scan.{fresh_scan, scan}
use Rattle.model.specs.Place.{place_of}
use Rattle.model.specs.Locks.{may_grant, access, elsewhere, opened, joined, with_locks, pass_over, grant_pass, change}
use Rattle.model.specs.Exchange.{controlled, may_answer, answer_number, available_at}
use Rattle.model.specs.Checks.{verdict}
use Rattle.model.specs.Acts.{acts, synchronous_exchange, synchronous_said, asynchronous_rest, asynchronous_said, asynchronous_event}
use Rattle.model.specs.Sensing.{sensed, requested, setting_sensings}
use Rattle.model.specs.Refusals.{refusal, causes}
use Rattle.model.specs.Step.{Result, final, log, step, answered, plan, finish, received, effect}
use Rattle.model.specs.Canonical.{canonical}
use Rattle.model.specs.Agreement.{is_lock}
use Rattle.model.specs.Fewer.{answers1}
use Rattle.model.specs.Bound.{output_bound}
use Rattle.model.proofs.Table.{bench_making, message, send, request, release, cal, Cal, initialize, three}

-- a call on a server, and a test of its result
pub record Case : Type 0 where
  server : Server
  call : Event
  test : Result → Bool

pub passes : Case → Bool
passes x = x.test (step x.server x.call)

-- a call after a list
after : List Event → Event → (Result → Bool) → Case
after b e t = record { server = final (fresh bench_making) b; call = e; test = t }

-- parts of a result
is_held : Reply → Bool
is_held (refused n) = false
is_held done = false
is_held withheld = false
is_held (took more_needed k n) = false
is_held (took skipped k n) = false
is_held (took held k n) = eqb k 0 && eqb n 0
is_held (took ignored k n) = false
is_held (took error_sent k n) = false
is_held (took closed k n) = false
is_held (took acted k n) = false

-- as session m's
is_acted : ℕ → Reply → Bool
is_acted m (refused n) = false
is_acted m done = false
is_acted m withheld = false
is_acted m (took more_needed k n) = false
is_acted m (took skipped k n) = false
is_acted m (took held k n) = false
is_acted m (took ignored k n) = false
is_acted m (took error_sent k n) = false
is_acted m (took closed k n) = false
is_acted m (took acted k n) = eqb n m

unsent : Result → Bool
unsent r = eqb (length r.frames) 0

entry_in : Result → ℕ → Entry
entry_in r j = at r.server.locks.entries j

waiting_in : Result → ℕ
waiting_in r = length r.server.locks.waiting

-- lock answers go to just these connections, in this order, each with code 1
answers_to : List ℕ → Result → Bool
answers_to cs r = same cs (map (λ f. f.to) (keep is_lock r.frames)) && all answers1 (keep is_lock r.frames)

fits_buffer : Result → Bool
fits_buffer r = leb (length (bytes_of r.frames)) output_bound

none_expired : Result → Bool
none_expired r = all (λ w. ltb r.server.locks.clock w.deadline) r.server.locks.waiting

-- I. A holds exclusive: B's Data, also with a wrong code, is held and nothing is sent; B's DeviceClearComplete is not held; A's Data acts
pub access_cases : List Case
access_cases =
    after (three ++ (request 1 0 [] ∷ [])) (send 2 (message 6 0 0 cal)) (λ r. is_held r.reply && unsent r)
    ∷ after (three ++ (request 1 0 [] ∷ [])) (send 2 (message 12 7 0 cal)) (λ r. is_held r.reply && unsent r)
    ∷ after (three ++ (request 1 0 [] ∷ [])) (send 2 (message 8 0 0 [])) (λ r. not (is_held r.reply))
    ∷ after (three ++ (request 1 0 [] ∷ [])) (send 0 (message 6 0 0xffffff00 cal)) (λ r. is_acted 1 r.reply)
    ∷ []

-- L. The last issued was 65,534, 65,535, or 65,535 with 1 live
with_last : ℕ → List Event → Server
with_last n b =
    let d = final (fresh bench_making) b in
    record {
      locks = d.locks;
      rest = record {
        exchanges = d.rest.exchanges;
        sensings = d.rest.sensings;
        connections = d.rest.connections;
        last_issued = n;
        made = d.rest.made;
        status = d.rest.status;
        remote_local = d.rest.remote_local;
        allowed = d.rest.allowed;
      };
    }

pub number_cases : List Case
number_cases =
    record { server = with_last 65534 (opening 9 ∷ []); call = send 9 initialize; test = λ r. is_acted last_session_id r.reply && eqb r.server.rest.last_issued last_session_id }
    ∷ record { server = with_last last_session_id (opening 9 ∷ []); call = send 9 initialize; test = λ r. is_acted 1 r.reply }
    ∷ record { server = with_last last_session_id (opening 8 ∷ send 8 initialize ∷ opening 9 ∷ []); call = send 9 initialize; test = λ r. is_acted 2 r.reply }
    -- a session of whatever number is joined: 32,768 here
    ∷ record { server = final (with_last 32767 (opening 8 ∷ opening 9 ∷ [])) (send 8 initialize ∷ []); call = send 9 (message 17 0 32768 []); test = λ r. is_acted 32768 r.reply }
    ∷ []

-- M. A string a byte too long is neither granted nor waits; another string is not granted; a request with timeout 0 does not wait; one at
-- its deadline waits no more
pub string_cases : List Case
string_cases =
    after three (request 1 0 (replicate (string_limit + 1) 7)) (λ r. all (λ e. leb (length e.shared) string_limit) r.server.locks.entries)
    ∷ after (three ++ (request 1 0 [] ∷ [])) (request 3 9 (replicate (string_limit + 1) 7)) (λ r. all (λ w. leb (length w.string) string_limit) r.server.locks.waiting)
    ∷ after (three ++ (request 1 0 cal ∷ [])) (request 3 0 Cal) (λ r. all (λ e. is_nil e.shared || same e.shared cal) r.server.locks.entries)
    ∷ after (three ++ (request 1 0 [] ∷ [])) (request 3 0 []) none_expired
    ∷ after (three ++ (request 1 0 [] ∷ request 3 5 [] ∷ [])) (clock 5 output_minimum) none_expired
    ∷ []

-- K. An answer of 1,400 bytes for a client whose size allows it; a session that asks a hundred times, then the clock
pub output_cases : List Case
output_cases =
    after (three ++ (send 1 (message 15 0 0 (field 8 5000)) ∷ send 0 (message 7 0 0xffffff00 []) ∷ [])) (answer 1 (replicate 1400 7) true [] output_minimum) fits_buffer
    ∷ after (three ++ (request 1 0 [] ∷ replicate 100 (request 3 5 []))) (clock 5 output_minimum) (λ r. fits_buffer r && eqb (length r.frames) 1)
    ∷ []

-- J. C holds exclusive, A waits for "cal" and B for exclusive: A's cut leaves B waiting; C's cut grants A, and B waits on; C's
-- FatalError does the same
queue : List Event
queue = three ++ (request 5 0 [] ∷ request 1 50 cal ∷ request 3 50 [] ∷ [])

pub closing_cases : List Case
closing_cases =
    after queue (cut 0 output_minimum) (λ r. all (elsewhere 0) r.server.locks.waiting && (eqb (waiting_in r) 1 && ((entry_in r 2).exclusive && unsent r)))
    ∷ after queue (cut 4 output_minimum) (λ r. not (entry_in r 2).exclusive && (same (entry_in r 0).shared cal && (answers_to (1 ∷ []) r && eqb (waiting_in r) 1)))
    ∷ after queue (send 5 (message 2 0 0 [])) (λ r. answers_to (1 ∷ []) r && all (λ w. not (may_grant r.server.locks.entries w.slot w.string)) r.server.locks.waiting)
    -- A and B share "cal", C waits for exclusive: A's cut takes A's lock alone; then B's lets C have it
    ∷ after (three ++ (request 1 0 cal ∷ request 3 0 cal ∷ request 5 50 [] ∷ [])) (cut 1 output_minimum) (λ r. is_nil (entry_in r 0).shared && (same (entry_in r 1).shared cal && unsent r))
    ∷ after (three ++ (request 1 0 cal ∷ request 3 0 cal ∷ request 5 50 [] ∷ cut 1 output_minimum ∷ [])) (cut 2 output_minimum) (λ r. (entry_in r 2).exclusive && answers_to (5 ∷ []) r)
    -- a connection without a session
    ∷ after (queue ++ (opening 9 ∷ [])) (cut 9 output_minimum) (λ r. (entry_in r 2).exclusive && (eqb (waiting_in r) 2 && unsent r))
    ∷ []

-- N. A holds exclusive, and still does after its own device clear and shared request, B's release and closing, the clock; B's DataEND
-- does not act
pub isolation_cases : List Case
isolation_cases =
    after (three ++ (request 1 0 [] ∷ [])) (send 1 (message 19 0 0 [])) (λ r. (entry_in r 0).exclusive)
    ∷ after (three ++ (request 1 0 [] ∷ [])) (request 1 0 cal) (λ r. (entry_in r 0).exclusive)
    ∷ after (three ++ (request 1 0 [] ∷ [])) (release 3) (λ r. (entry_in r 0).exclusive)
    ∷ after (three ++ (request 1 0 [] ∷ request 3 9 [] ∷ [])) (cut 2 output_minimum) (λ r. (entry_in r 0).exclusive)
    ∷ after (three ++ (request 1 0 [] ∷ request 3 9 [] ∷ [])) (clock 4000 output_minimum) (λ r. (entry_in r 0).exclusive)
    ∷ after (three ++ (request 1 0 [] ∷ [])) (send 2 (message 7 0 0 cal)) (λ r. not (is_acted 2 r.reply))
    -- B waits for exclusive: the release that sends it answer 1 leaves it the holder
    ∷ after (three ++ (request 1 0 [] ∷ request 3 9 [] ∷ [])) (release 1) (λ r. answers_to (1 ∷ 3 ∷ []) r && (entry_in r 1).exclusive)
    ∷ []

-- H. The other session holds fewer locks in the second list: S, in slot 0, is no worse off
entry : ℕ → Bool → List ℕ → Entry
entry n x k = with_locks x k (joined (2 * n + 1) (opened n (2 * n)))

implies : Bool → Bool → Bool
implies a b = not a || b

no_worse : List Entry → List Entry → Bool
no_worse es es' = implies (may_grant es 0 []) (may_grant es' 0 []) && (implies (may_grant es 0 cal) (may_grant es' 0 cal) && implies (access es 0) (access es' 0))

pub fewer_cases : List Bool
fewer_cases =
    no_worse (entry 1 false cal ∷ entry 2 false cal ∷ []) (entry 1 false cal ∷ entry 2 false [] ∷ [])
    ∷ no_worse (entry 1 false [] ∷ entry 2 false cal ∷ []) (entry 1 false [] ∷ entry 2 false [] ∷ [])
    ∷ no_worse (entry 1 true cal ∷ entry 2 false cal ∷ []) (entry 1 true cal ∷ entry 2 false [] ∷ [])
    ∷ no_worse (entry 1 false [] ∷ entry 2 true [] ∷ []) (entry 1 false [] ∷ entry 2 false [] ∷ [])
    ∷ no_worse (entry 1 false [] ∷ entry 2 true cal ∷ []) (entry 1 false [] ∷ entry 2 false cal ∷ [])
    ∷ []

-- a server on which B shares a string, whether or not it could have come to that
sharing : List ℕ → Server
sharing k =
    let d = final (fresh bench_making) three in
    let b = at d.locks.entries 1 in
    let e : Entry = with_locks b.exclusive k b in
    record { locks = record { clock = d.locks.clock; entries = set d.locks.entries 1 e; waiting = d.locks.waiting }; rest = d.rest }

-- A's request, if granted at once where B shares "cal", is so where B holds nothing
granted_at : Server → Event → Bool
granted_at d e = any answers1 (step d e).frames

pub request_cases : List Bool
request_cases =
    implies (granted_at (sharing cal) (request 1 0 cal)) (granted_at (sharing []) (request 1 0 cal))
    ∷ implies (granted_at (sharing cal) (request 1 0 [])) (granted_at (sharing []) (request 1 0 []))
    ∷ []

-- O. A message too large, its remainder, a message in two pieces, one that is held, a refusal: the canonical history's own one is itself
mixed : List Event
mixed =
    three
    ++ (send 0 (message 6 0 0 (replicate 1025 7)) ∷ send 0 (replicate 1030 7) ∷ send 0 (0x48 ∷ []) ∷ send 0 (message 7 0 0xffffff00 cal ++ (0x48 ∷ []))
    ∷ request 1 0 [] ∷ send 2 (message 6 0 0 cal) ∷ opening 0 ∷ cut 4 output_minimum ∷ clock 3 output_minimum
    ∷ [])

shapes : List Event → List ℕ
shapes [] = []
shapes (opening c ∷ es) = 1 ∷ c ∷ shapes es
shapes (delivery c bs room ∷ es) = 2 ∷ c ∷ length bs ∷ shapes es
shapes (cut c room ∷ es) = 3 ∷ c ∷ shapes es
shapes (clock t room ∷ es) = 4 ∷ t ∷ shapes es
shapes (answer n p end sh room ∷ es) = 5 ∷ n ∷ shapes es
shapes (status b ∷ es) = 6 ∷ b ∷ shapes es
shapes (setting (watch n l) ∷ es) = 7 ∷ n ∷ shapes es
shapes (setting (patterns text) ∷ es) = 8 ∷ length text ∷ shapes es

pub fixed_case : Bool
fixed_case =
    let d = fresh bench_making in
    let once = canonical d mixed in
    same (shapes (canonical d once)) (shapes once) && eqb (length once) 18

pub access_holds : map passes access_cases ≡ replicate 4 true
unfolding access_cases passes after is_held is_acted unsent entry_in waiting_in answers_to fits_buffer none_expired final step refusal causes answered plan finish
    received effect verdict place_of acts synchronous_exchange synchronous_said asynchronous_rest asynchronous_said asynchronous_event controlled may_answer
    answer_number available_at sensed requested setting_sensings watched readings_in block_of scan fresh_scan header field encode header_bytes frame_bytes bytes_of
    class_of may_grant access pass_over grant_pass change
access_holds = refl

pub number_holds : map passes number_cases ≡ replicate 4 true
unfolding number_cases with_last passes after is_held is_acted unsent entry_in waiting_in answers_to fits_buffer none_expired final step refusal causes answered plan
    finish received effect verdict place_of acts synchronous_exchange synchronous_said asynchronous_rest asynchronous_said asynchronous_event controlled may_answer
    answer_number available_at sensed requested setting_sensings watched readings_in block_of scan fresh_scan header field encode header_bytes frame_bytes bytes_of
    class_of may_grant access pass_over grant_pass change
number_holds = refl

pub string_holds : map passes string_cases ≡ replicate 5 true
unfolding string_cases passes after is_held is_acted unsent entry_in waiting_in answers_to fits_buffer none_expired final step refusal causes answered plan finish
    received effect verdict place_of acts synchronous_exchange synchronous_said asynchronous_rest asynchronous_said asynchronous_event controlled may_answer
    answer_number available_at sensed requested setting_sensings watched readings_in block_of scan fresh_scan header field encode header_bytes frame_bytes bytes_of
    class_of may_grant access pass_over grant_pass change
string_holds = refl

pub output_holds : map passes output_cases ≡ replicate 2 true
unfolding output_cases passes after is_held is_acted unsent entry_in waiting_in answers_to fits_buffer none_expired final step refusal causes answered plan finish
    received effect verdict place_of acts synchronous_exchange synchronous_said asynchronous_rest asynchronous_said asynchronous_event controlled may_answer
    answer_number available_at sensed requested setting_sensings watched readings_in block_of scan fresh_scan header field encode header_bytes frame_bytes bytes_of
    class_of may_grant access pass_over grant_pass change
output_holds = refl

pub closing_holds : map passes closing_cases ≡ replicate 6 true
unfolding closing_cases queue passes after is_held is_acted unsent entry_in waiting_in answers_to fits_buffer none_expired final step refusal causes answered plan
    finish received effect verdict place_of acts synchronous_exchange synchronous_said asynchronous_rest asynchronous_said asynchronous_event controlled may_answer
    answer_number available_at sensed requested setting_sensings watched readings_in block_of scan fresh_scan header field encode header_bytes frame_bytes bytes_of
    class_of may_grant access pass_over grant_pass change
closing_holds = refl

pub isolation_holds : map passes isolation_cases ≡ replicate 7 true
unfolding isolation_cases passes after is_held is_acted unsent entry_in waiting_in answers_to fits_buffer none_expired final step refusal causes answered plan finish
    received effect verdict place_of acts synchronous_exchange synchronous_said asynchronous_rest asynchronous_said asynchronous_event controlled may_answer
    answer_number available_at sensed requested setting_sensings watched readings_in block_of scan fresh_scan header field encode header_bytes frame_bytes bytes_of
    class_of may_grant access pass_over grant_pass change
isolation_holds = refl

pub fewer_holds : fewer_cases ≡ replicate 5 true
unfolding fewer_cases no_worse implies entry may_grant access
fewer_holds = refl

pub request_holds : request_cases ≡ replicate 2 true
unfolding request_cases granted_at sharing implies final step refusal causes answered plan finish received effect verdict place_of acts synchronous_exchange
    synchronous_said asynchronous_rest asynchronous_said asynchronous_event controlled may_answer answer_number available_at sensed requested setting_sensings watched
    readings_in block_of scan fresh_scan header field encode header_bytes frame_bytes bytes_of class_of may_grant access pass_over grant_pass change
request_holds = refl

pub fixed_holds : fixed_case ≡ true
unfolding fixed_case shapes mixed log final step refusal causes answered plan finish received effect verdict place_of acts synchronous_exchange synchronous_said
    asynchronous_rest asynchronous_said asynchronous_event controlled may_answer answer_number available_at sensed requested setting_sensings watched readings_in
    block_of scan fresh_scan header field encode header_bytes frame_bytes bytes_of class_of may_grant access pass_over grant_pass change
fixed_holds = refl

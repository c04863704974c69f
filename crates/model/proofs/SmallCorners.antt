-- Corners in tables so short that a refusal's log shows the numbers that differ: messages of one session, and what no frame shows, which is
-- what the host is told when it asks and what a call is to a request that waits. Assumes nothing.
use mathlib.Core.Path.{◌≡◌, refl}
use mathlib.Core.Bool.{true, false}
use mathlib.Core.List.{List, [], ◌∷◌, ◌++◌, map}
use Prim.Native.Nat.{ℕ}
use lib.ListN.{replicate, take}
use Rattle.wire.specs.Field.{field}
use Rattle.wire.specs.Message.{header, encode, header_bytes}
use Rattle.wire.specs.Frame.{frame_bytes, bytes_of}
use Rattle.wire.specs.Class.{class_of}
use Rattle.readings.specs.Bits.{not_number, place, below}
use Rattle.readings.specs.Watch as Watch
use Rattle.readings.specs.Watch.{Limits.off, trips}
use Rattle.readings.specs.Record as Record
use Rattle.readings.specs.Block as Block
use Rattle.readings.specs.Payload as Payload
use Rattle.readings.specs.Request.{with_value}
use Rattle.model.specs.State.{Server, Asked.none, exchange_at, with_exchange, fresh}
use Rattle.model.specs.Interface.{Event, Event.opening, Event.clock, Event.answer, Event.setting, Setting.watch, Outcome.more_needed, Outcome.skipped, Outcome.ignored, Reply.done, Reply.took}
use Rattle.model.specs.Scan.{fresh_scan, scan}
use Rattle.model.specs.Place.{place_of}
use Rattle.model.specs.Locks.{may_grant, access, pass_over, grant_pass, change}
use Rattle.model.specs.Exchange.{with_answering, may_answer, answer_number, available_at}
use Rattle.model.specs.Checks.{verdict}
use Rattle.model.specs.Acts.{acts, synchronous_exchange, synchronous_said, asynchronous_rest, asynchronous_said, asynchronous_event}
use Rattle.model.specs.Sensing.{sensed, requested, setting_sensings}
use Rattle.model.specs.Refusals.{refusal, causes}
use Rattle.model.specs.Step.{final, step, answered, plan, finish, received, effect}
use Rattle.model.specs.Asking.{readings_answer}
use Rattle.model.specs.Holders.{holders_of}
use Rattle.model.specs.Happening.{happened}
use Rattle.model.specs.AnsweredOnce.{Call.expires, Call.other, call_of}
use Rattle.model.proofs.Table.{bench_making, Corner, corner, found, sought, message, send, request, release, cal, eight_zeros, initialize, async_initialize, single}

-- a server after some calls; sessions 1 and 2 over connections 0 and 1, 2 and 3
abbrev after : List Event → Server
after es = final (fresh bench_making) es

abbrev pair : List Event
pair = single ++ (opening 2 ∷ opening 3 ∷ send 2 initialize ∷ send 3 (async_initialize 2) ∷ [])

-- the header of a message whose length is 1,025, of a type
abbrev too_large : ℕ → List ℕ
too_large t = 0x48 ∷ 0x53 ∷ t ∷ 0 ∷ 0 ∷ 0 ∷ 0 ∷ 0 ∷ 0 ∷ 0 ∷ 0 ∷ 0 ∷ 0 ∷ 0 ∷ 4 ∷ 1 ∷ []

pub pieces : List Corner
pieces =
    -- 01, check 5: a payload that is not all here is more needed, on an established session's synchronous channel too
    corner single (send 0 (take 18 (message 7 0 0xffffff00 cal))) (took more_needed 0 0) []
    -- 01, check 4: the payload of a length above 1,024 is to be skipped, on the asynchronous channel too
    ∷ corner (single ++ (send 1 (too_large 24) ∷ [])) (send 1 (replicate 5 7)) (took skipped 5 0) []
    ∷ []

pub pieces_hold : map found pieces ≡ map sought pieces
unfolding pieces final step refusal causes answered plan finish received effect verdict place_of acts synchronous_exchange synchronous_said asynchronous_rest
    asynchronous_said asynchronous_event may_answer answer_number available_at scan fresh_scan header field encode header_bytes frame_bytes bytes_of class_of may_grant
    access pass_over grant_pass change
pieces_hold = refl

pub questions : List Corner
questions =
    -- 01: an answer carries the MessageID of the last DataEND or Trigger: of two DataENDs the second one's
    corner (single ++ (send 0 (message 7 0 0xffffff00 []) ∷ send 0 (message 7 0 0xffffff02 []) ∷ [])) (answer 1 [] true [] 2048) done (0 ∷ 0x48 ∷ 0x53 ∷ 7 ∷ 0 ∷ 0xff ∷ 0xff ∷ 0xff ∷ 2 ∷ eight_zeros)
    -- 01: DeviceClearComplete ends a clear; a status query in it does not, and Data are ignored on
    ∷ corner (single ++ (send 1 (message 19 0 0 []) ∷ send 1 (message 21 0 0 []) ∷ [])) (send 0 (message 6 0 0xffffff00 [])) (took ignored 16 0) []
    ∷ []

pub questions_hold : map found questions ≡ map sought questions
unfolding questions final step refusal causes answered plan finish received effect verdict place_of acts synchronous_exchange synchronous_said asynchronous_rest
    asynchronous_said asynchronous_event may_answer answer_number available_at sensed requested Payload.watched Payload.readings_in Block.block_of scan fresh_scan
    header field encode header_bytes frame_bytes bytes_of class_of may_grant access pass_over grant_pass change
questions_hold = refl

-- 01: DeviceClearComplete ends the clear, and that is all: message available is after it as it was before. A clear turns it off and no
-- answer goes out in one, so the server is put together: session 1 in a clear, message available; then the status response
abbrev available : Server
available = let d = after (single ++ (send 1 (message 19 0 0 []) ∷ [])) in record { locks = d.locks; rest = with_exchange d.rest 0 (with_answering none true (exchange_at d.rest 0)) }

pub available_kept : bytes_of (step (step available (send 0 (message 8 0 0 []))).server (send 1 (message 21 0 0 []))).frames ≡ 1 ∷ 0x48 ∷ 0x53 ∷ 22 ∷ 16 ∷ 0 ∷ 0 ∷ 0 ∷ 0 ∷ eight_zeros
unfolding final step refusal causes answered plan finish received effect verdict place_of acts synchronous_exchange synchronous_said asynchronous_rest
    asynchronous_said asynchronous_event may_answer answer_number available_at scan fresh_scan header field encode header_bytes frame_bytes bytes_of class_of may_grant
    access pass_over grant_pass change
available_kept = refl

-- 02, Q-9: "the clock reading of its last grant and the number of locks granted to it, as answers sent": the answer 3 to a second request is
-- no grant
pub grants_counted : holders_of (after (single ++ (clock 7 2048 ∷ request 1 0 [] ∷ clock 9 2048 ∷ request 1 0 [] ∷ []))).locks.entries
    ≡ record { session = 1; exclusive = true; shared = false; granted_at = 7; grants = 1 } ∷ []
unfolding final step refusal causes answered plan finish received effect verdict place_of acts synchronous_exchange synchronous_said asynchronous_rest
    asynchronous_said asynchronous_event may_answer answer_number available_at scan fresh_scan header field encode header_bytes frame_bytes bytes_of class_of may_grant
    access pass_over grant_pass change
grants_counted = refl

-- and a request that waits until 90 and is granted at 7 was granted at 7
pub grant_noted : holders_of (after (pair ++ (request 1 0 [] ∷ request 3 90 [] ∷ clock 7 2048 ∷ release 1 ∷ []))).locks.entries
    ≡ record { session = 2; exclusive = true; shared = false; granted_at = 7; grants = 1 } ∷ []
unfolding final step refusal causes answered plan finish received effect verdict place_of acts synchronous_exchange synchronous_said asynchronous_rest
    asynchronous_said asynchronous_event may_answer answer_number available_at scan fresh_scan header field encode header_bytes frame_bytes bytes_of class_of may_grant
    access pass_over grant_pass change
grant_noted = refl

-- 02, Q-11: the record is of the readings sent, "watch or none": a watch that is set leaves it. One reading, of 1
pub record_kept : readings_answer (after (single ++ (send 0 (message 7 0 0xffffff00 []) ∷ answer 1 (35 ∷ 49 ∷ 52 ∷ 0x3f ∷ 0x80 ∷ 0 ∷ 0 ∷ []) true [] 2048 ∷ setting (watch 1 off) ∷ []))) 1
    ≡ record { refusal = 0; seen = 1; last = 0x3f800000; lowest = 0x3f800000; highest = 0x3f800000 }
unfolding final step refusal causes answered plan finish received effect verdict place_of acts synchronous_exchange synchronous_said asynchronous_rest
    asynchronous_said asynchronous_event may_answer answer_number available_at sensed requested setting_sensings Payload.watched Payload.stepped Payload.readings
    Payload.readings_in Block.block_of Block.counted Block.decimal Record.noted Record.lesser Record.greater Watch.refused trips with_value not_number place below
    scan fresh_scan header field encode header_bytes frame_bytes bytes_of class_of may_grant access pass_over grant_pass change
record_kept = refl

-- 02, Q-14: "by the first accepted clock reading at or past its deadline": what a reading of 89, 90 and 91 is to a request that waits until 90
pub deadline_met : map (λ t. call_of 3 2 90 (happened (clock t 2048) done [])) (89 ∷ 90 ∷ 91 ∷ []) ≡ other ∷ expires ∷ expires ∷ []
deadline_met = refl

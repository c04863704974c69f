-- Corners of 01 that its examples leave out: the order of the checks, roles, refusals, locks, clear, status. Each row is some calls from the
-- fresh server, then one call with its reply and its whole output. Assumes nothing.
use mathlib.Core.Path.{◌≡◌, refl}
use mathlib.Core.Bool.{true, false}
use mathlib.Core.List.{List, [], ◌∷◌, ◌++◌, map}
use Prim.Native.Nat.{ℕ, zero, suc}
use lib.ListN.{replicate, take}
use Rattle.wire.specs.Field.{field}
use Rattle.wire.specs.Message.{header, encode, header_bytes}
use Rattle.wire.specs.Frame.{frame_bytes, bytes_of}
use Rattle.wire.specs.Class.{class_of}
use Rattle.readings.specs.Payload.{watched, readings_in}
use Rattle.readings.specs.Block.{block_of}
use Rattle.model.specs.Sizes.{session_limit}
use Rattle.model.specs.State.{Making, Server, RemoteLocal, fresh, with_session}
use Rattle.model.specs.Interface.{Event, Event.opening, Event.delivery, Event.cut, Event.clock, Event.answer, Event.status}
use Rattle.model.specs.Interface.{Outcome.more_needed, Outcome.skipped, Outcome.held, Outcome.ignored, Outcome.error_sent, Outcome.closed, Outcome.acted}
use Rattle.model.specs.Interface.{Reply.refused, Reply.done, Reply.withheld, Reply.took, outcome_number, delivery_answer, done_answer, answered_answer}
use Rattle.model.specs.Scan.{fresh_scan, scan}
use Rattle.model.specs.Place.{place_of}
use Rattle.model.specs.Locks.{issued, may_grant, access, pass_over, grant_pass, change}
use Rattle.model.specs.Exchange.{controlled, flags, may_answer, answer_number, available_at}
use Rattle.model.specs.Checks.{verdict}
use Rattle.model.specs.Acts.{acts, synchronous_exchange, synchronous_said, asynchronous_rest, asynchronous_said, asynchronous_event}
use Rattle.model.specs.Sensing.{sensed, requested, setting_sensings}
use Rattle.model.specs.Refusals.{refusal, causes}
use Rattle.model.specs.Step.{final, log, step, answered, plan, finish, received, effect, Line}
use Rattle.model.specs.InStep.{count_up, numbering, numbering_of}
use Rattle.model.specs.Locality.{at_call}
use Rattle.model.specs.AnsweredOnce.{Release, Release.none_stands, release_after, happening, answered_to}
use Rattle.model.proofs.Table.{bench_making, Corner, corner, found, found_on, sought, message, send, request, release, release_from, cal, Cal, eight_zeros, initialize, async_initialize, three}

-- a message without payload and with parameter 0, to a connection
abbrev plain : ℕ → ℕ → ℕ → List ℕ
plain c t n = c ∷ 0x48 ∷ 0x53 ∷ t ∷ n ∷ 0 ∷ 0 ∷ 0 ∷ 0 ∷ eight_zeros

-- a half-open session; A in device clear; A exclusive; A and B shared "cal"
abbrev half : List Event
half = opening 0 ∷ send 0 initialize ∷ []

abbrev in_clear : List Event
in_clear = three ++ (send 1 (message 19 0 0 []) ∷ [])

abbrev exclusive : List Event
exclusive = three ++ (request 1 0 [] ∷ [])

abbrev shared : List Event
shared = three ++ (request 1 0 cal ∷ request 3 0 cal ∷ [])

-- A's command with MessageID ffffff00, and an answer without END; status byte 41 hex
abbrev asked : List Event
asked = three ++ (status 0x41 ∷ send 0 (message 7 0 0xffffff00 []) ∷ answer 1 [] false [] 2048 ∷ [])

-- "hislip" and one byte
abbrev hislip : ℕ → List ℕ
hislip n = 0x68 ∷ 0x69 ∷ 0x73 ∷ 0x6c ∷ 0x69 ∷ 0x70 ∷ n ∷ []

-- checks 1 to 10 and their order
pub checks : List Corner
checks =
    -- 1: the remainder is skipped before a header is looked for; no bytes are more needed even then; the delivery ends there
    corner (three ++ (send 0 (message 6 0 0 (replicate 1025 7)) ∷ [])) (send 0 (replicate 5 7)) (took skipped 5 0) []
    ∷ corner (three ++ (send 0 (message 6 0 0 (replicate 1025 7)) ∷ [])) (send 0 (replicate 2000 7)) (took skipped 1025 0) []
    ∷ corner (three ++ (send 0 (message 6 0 0 (replicate 1025 7)) ∷ [])) (send 0 []) (took more_needed 0 0) []
    ∷ corner (three ++ (send 0 (message 6 0 0 (replicate 1025 7)) ∷ send 0 (replicate 1024 7) ∷ [])) (send 0 (7 ∷ message 6 0 0 [])) (took skipped 1 0) []
    -- a remainder survives a device clear; a closing drops it
    ∷ corner (three ++ (send 0 (message 6 0 0 (replicate 1025 7)) ∷ send 1 (message 19 0 0 []) ∷ [])) (send 0 (message 8 0 0 [])) (took skipped 16 0) []
    ∷ corner (three ++ (send 0 (message 6 0 0 (replicate 1025 7)) ∷ cut 1 2048 ∷ opening 0 ∷ [])) (send 0 initialize) (took acted 16 4) (0 ∷ 0x48 ∷ 0x53 ∷ 1 ∷ 0 ∷ 1 ∷ 0 ∷ 0 ∷ 4 ∷ eight_zeros)
    -- 2 before 3: a wrong prologue of a half-open session; in 15 bytes it is not looked at
    ∷ corner half (send 0 (0x48 ∷ 0x54 ∷ replicate 14 0)) (took closed 0 1) (plain 0 2 1)
    ∷ corner half (send 0 (0x48 ∷ 0x54 ∷ replicate 13 0)) (took more_needed 0 0) []
    -- 3 before 4, 5 and 6: half-open, whatever comes
    ∷ corner half (send 0 (message 6 0 0 [])) (took closed 0 1) (plain 0 2 2)
    ∷ corner half (send 0 (message 3 0 0 (replicate 1025 0))) (took closed 0 1) (plain 0 2 2)
    ∷ corner half (send 0 (take 16 (message 6 0 0 cal))) (took closed 0 1) (plain 0 2 2)
    ∷ corner half (send 0 (message 2 0 0 [])) (took closed 0 1) (plain 0 2 2)
    -- 3: without a role, any type but 0 and 17, or a length above 1,024; then 5
    ∷ corner (opening 9 ∷ []) (send 9 (message 2 0 0 [])) (took closed 0 0) (plain 9 2 3)
    ∷ corner (opening 9 ∷ []) (send 9 (take 16 (message 6 0 0 cal))) (took closed 0 0) (plain 9 2 3)
    ∷ corner (opening 9 ∷ []) (send 9 (message 0 0 0 (replicate 1025 0))) (took closed 0 0) (plain 9 2 3)
    ∷ corner (opening 9 ∷ []) (send 9 (take 20 (message 0 0 0 (hislip 0x30)))) (took more_needed 0 0) []
    ∷ corner (opening 9 ∷ []) (send 9 (take 16 (message 17 0 0 cal))) (took more_needed 0 0) []
    -- 4 before 5, 6 and 7: the header alone is taken, though payload is missing or here
    ∷ corner three (send 0 (take 16 (message 6 0 0 (replicate 1025 7)))) (took error_sent 16 0) (plain 0 3 4)
    ∷ corner three (send 1 (message 2 0 0 (replicate 1025 7))) (took error_sent 16 0) (plain 1 3 4)
    ∷ corner three (send 1 (message 3 0 0 (replicate 1025 7))) (took error_sent 16 0) (plain 1 3 4)
    ∷ corner in_clear (send 0 (message 8 0 0 (replicate 1025 7))) (took error_sent 16 0) (plain 0 3 4)
    ∷ corner three (send 0 (0x48 ∷ 0x53 ∷ 6 ∷ 0 ∷ 0 ∷ 0 ∷ 0 ∷ 0 ∷ 0xff ∷ 0xff ∷ 0xff ∷ 0xff ∷ 0xff ∷ 0xff ∷ 0xff ∷ 0xff ∷ [])) (took error_sent 16 0) (plain 0 3 4)
    -- 5 before 6: a FatalError whose payload is not all here
    ∷ corner three (send 1 (take 18 (message 2 0 0 cal))) (took more_needed 0 0) []
    -- 6: FatalError closes without reply; Error is ignored. Before 7: in a clear too
    ∷ corner three (send 1 (message 2 0 0 [])) (took closed 0 1) []
    ∷ corner three (send 1 (message 3 0 0 cal)) (took ignored 19 0) []
    ∷ corner in_clear (send 0 (message 2 0 0 [])) (took closed 0 1) []
    -- 7 before 8, 9 and 10: vendor, type 0, and Data without access, in a clear; the asynchronous channel goes on
    ∷ corner in_clear (send 0 (message 200 0 0 [])) (took ignored 16 0) []
    ∷ corner in_clear (send 0 (message 0 0 0 [])) (took ignored 16 0) []
    ∷ corner (exclusive ++ (send 3 (message 19 0 0 []) ∷ [])) (send 2 (message 6 9 0 cal)) (took ignored 19 0) []
    ∷ corner in_clear (send 1 (message 200 0 0 [])) (took error_sent 16 0) (plain 1 3 3)
    ∷ corner in_clear (send 1 (message 24 0 0 [])) (took acted 16 1) (plain 1 25 0)
    -- 8: types 0 and 17 on their own channel and on the other; before 9 and 10
    ∷ corner three (send 0 initialize) (took closed 0 1) (plain 0 2 3 ++ plain 1 2 3)
    ∷ corner three (send 1 (message 17 0 1 [])) (took closed 0 1) (plain 0 2 3 ++ plain 1 2 3)
    ∷ corner three (send 0 (message 17 0 1 [])) (took error_sent 16 0) (plain 0 3 1)
    ∷ corner three (send 1 (message 6 0 0 [])) (took error_sent 16 0) (plain 1 3 1)
    ∷ corner exclusive (send 2 (message 128 9 0 cal)) (took error_sent 19 0) (plain 2 3 3)
    ∷ corner exclusive (send 2 (message 1 9 0 cal)) (took error_sent 19 0) (plain 2 3 1)
    -- 9 before 10: held though code and payload are wrong; Trigger and DataEND too
    ∷ corner exclusive (send 2 (message 12 9 0 cal)) (took held 0 0) []
    ∷ corner exclusive (send 2 (message 7 0 0 [])) (took held 0 0) []
    ∷ corner exclusive (send 0 (message 7 0 0xffffff00 [])) (took acted 16 1) []
    ∷ corner shared (send 4 (message 6 0 0 [])) (took held 0 0) []
    ∷ corner shared (send 2 (message 6 0 0xffffff00 [])) (took acted 16 2) []
    -- 10: code before payload
    ∷ corner three (send 0 (message 12 9 0xffffff00 cal)) (took error_sent 19 0) (plain 0 3 2)
    ∷ corner three (send 0 (message 6 2 0xffffff00 cal)) (took error_sent 19 0) (plain 0 3 2)
    ∷ corner three (send 1 (message 10 7 0 cal)) (took error_sent 19 0) (plain 1 3 2)
    ∷ corner three (send 1 (message 10 6 0 [])) (took acted 16 1) (plain 1 11 0)
    ∷ corner three (send 1 (message 4 2 0 [])) (took error_sent 16 0) (plain 1 3 2)
    ∷ corner three (send 1 (message 21 2 0 [])) (took error_sent 16 0) (plain 1 3 2)
    ∷ corner three (send 0 (message 12 1 0 cal)) (took error_sent 19 0) (plain 0 3 0)
    ∷ corner in_clear (send 0 (message 8 0 0 cal)) (took error_sent 19 0) (plain 0 3 0)
    ∷ corner three (send 1 (message 4 0 0 cal)) (took error_sent 19 0) (plain 1 3 0)
    ∷ corner three (send 1 (message 19 9 0 cal)) (took error_sent 19 0) (plain 1 3 0)
    ∷ corner three (send 1 (message 15 0 0 [])) (took error_sent 16 0) (plain 1 3 0)
    ∷ corner three (send 1 (message 15 0 0 (replicate 9 0))) (took error_sent 25 0) (plain 1 3 0)
    ∷ []

pub checks_hold : map found checks ≡ map sought checks
unfolding checks log final step refusal causes answered plan finish received effect verdict place_of acts synchronous_exchange synchronous_said asynchronous_rest
    asynchronous_said asynchronous_event controlled may_answer answer_number available_at sensed requested setting_sensings watched readings_in block_of scan
    fresh_scan header field encode header_bytes frame_bytes bytes_of class_of may_grant access pass_over grant_pass change
checks_hold = refl

-- opening a session
pub openings : List Corner
openings =
    -- sub-address "hislip0", an older client, a code; "hislip1"; no NUL is added
    corner (opening 0 ∷ []) (send 0 (message 0 5 0x504141 (hislip 0x30))) (took acted 23 1) (0 ∷ 0x48 ∷ 0x53 ∷ 1 ∷ 0 ∷ 0 ∷ 0x50 ∷ 0 ∷ 1 ∷ eight_zeros)
    ∷ corner (opening 0 ∷ []) (send 0 (message 0 0 0x1004141 (hislip 0x31))) (took closed 0 0) (plain 0 2 3)
    ∷ corner (opening 0 ∷ []) (send 0 (message 0 0 0x1004141 (hislip 0x30 ++ (0 ∷ [])))) (took closed 0 0) (plain 0 2 3)
    ∷ corner (opening 0 ∷ []) (send 0 (message 0 0 0x2004141 [])) (took acted 16 1) (0 ∷ 0x48 ∷ 0x53 ∷ 1 ∷ 0 ∷ 1 ∷ 0 ∷ 0 ∷ 1 ∷ eight_zeros)
    -- AsyncInitialize: an unknown number, an established session, all 32 bits of the parameter, number 0, payload
    ∷ corner (three ++ (opening 6 ∷ [])) (send 6 (async_initialize 9)) (took closed 0 0) (plain 6 2 3)
    ∷ corner (three ++ (opening 6 ∷ [])) (send 6 (async_initialize 1)) (took closed 0 0) (plain 6 2 3)
    ∷ corner (half ++ (opening 6 ∷ [])) (send 6 (message 17 0 0x10001 [])) (took closed 0 0) (plain 6 2 3)
    ∷ corner (half ++ (opening 6 ∷ [])) (send 6 (async_initialize 0)) (took closed 0 0) (plain 6 2 3)
    ∷ corner (half ++ (opening 6 ∷ [])) (send 6 (message 17 0 1 (7 ∷ []))) (took closed 0 0) (plain 6 2 3)
    -- a number is not used again at once, and a half-open session is live
    ∷ corner (half ++ (cut 0 2048 ∷ opening 0 ∷ [])) (send 0 initialize) (took acted 16 2) (0 ∷ 0x48 ∷ 0x53 ∷ 1 ∷ 0 ∷ 1 ∷ 0 ∷ 0 ∷ 2 ∷ eight_zeros)
    ∷ []

pub openings_hold : map found openings ≡ map sought openings
unfolding openings log final step refusal causes answered plan finish received effect verdict place_of acts synchronous_exchange synchronous_said asynchronous_rest
    asynchronous_said asynchronous_event controlled may_answer answer_number available_at sensed requested setting_sensings watched readings_in block_of scan
    fresh_scan header field encode header_bytes frame_bytes bytes_of class_of may_grant access pass_over grant_pass change
openings_hold = refl

-- 256 bytes, the last of them given
abbrev long : ℕ → List ℕ
long b = replicate 255 7 ++ (b ∷ [])

-- locks
pub locks : List Corner
locks =
    -- 3: that kind is held, a request waits, a string of 257 bytes, of 1,024; 256 and 65 bytes are taken
    corner exclusive (request 1 9 []) (took acted 16 1) (plain 1 5 3)
    ∷ corner (three ++ (request 1 0 cal ∷ [])) (request 1 0 Cal) (took acted 19 1) (plain 1 5 3)
    ∷ corner (exclusive ++ (request 3 9 [] ∷ [])) (request 3 9 cal) (took acted 19 2) (plain 3 5 3)
    ∷ corner three (request 1 9 (replicate 257 1)) (took acted 273 1) (plain 1 5 3)
    ∷ corner three (request 1 9 (replicate 1024 1)) (took acted 1040 1) (plain 1 5 3)
    ∷ corner three (request 1 9 (replicate 256 1)) (took acted 272 1) (plain 1 5 1)
    ∷ corner three (request 1 9 (replicate 65 1)) (took acted 81 1) (plain 1 5 1)
    -- every byte counts: strings of 256 bytes that are the same, that differ in the last one, and one that is a byte shorter
    ∷ corner (three ++ (request 1 0 (long 1) ∷ [])) (request 3 0 (long 1)) (took acted 272 2) (plain 3 5 1)
    ∷ corner (three ++ (request 1 0 (long 1) ∷ [])) (request 3 0 (long 2)) (took acted 272 2) (plain 3 5 0)
    ∷ corner (three ++ (request 1 0 (long 1) ∷ [])) (request 3 0 (replicate 255 7)) (took acted 271 2) (plain 3 5 0)
    -- the exclusive holder may have shared; another's right string while one holds both may not be granted
    ∷ corner exclusive (request 1 0 cal) (took acted 19 1) (plain 1 5 1)
    ∷ corner (exclusive ++ (request 1 0 cal ∷ [])) (request 3 0 cal) (took acted 19 2) (plain 3 5 0)
    ∷ corner shared (request 5 0 []) (took acted 16 3) (plain 5 5 0)
    -- a release while a request waits; nothing held
    ∷ corner (shared ++ (request 1 0 [] ∷ request 3 9 [] ∷ [])) (release 3) (took acted 16 2) (plain 3 5 2)
    ∷ corner three (release 1) (took acted 16 1) (plain 1 5 3)
    -- a new request does not queue behind a waiting one
    ∷ corner (three ++ (request 1 0 cal ∷ request 3 9 [] ∷ [])) (request 5 9 cal) (took acted 19 3) (plain 5 5 1)
    -- the grant pass: oldest first; past one that may not be granted; each once
    ∷ corner (exclusive ++ (request 3 9 [] ∷ request 5 9 [] ∷ [])) (release 1) (took acted 16 1) (plain 1 5 1 ++ plain 3 5 1)
    ∷ corner (exclusive ++ (request 5 9 cal ∷ request 3 9 cal ∷ [])) (release 1) (took acted 16 1) (plain 1 5 1 ++ (plain 5 5 1 ++ plain 3 5 1))
    ∷ corner (three ++ (request 1 0 cal ∷ request 1 0 [] ∷ request 3 9 [] ∷ request 5 9 cal ∷ [])) (release 1) (took acted 16 1) (plain 1 5 1 ++ plain 5 5 1)
    -- a deadline counts from arrival, and expired requests are answered oldest first
    ∷ corner (exclusive ++ (clock 7 2048 ∷ request 3 900 [] ∷ request 5 500 cal ∷ [])) (clock 507 2048) done (plain 5 5 0)
    ∷ corner (exclusive ++ (request 3 900 [] ∷ request 5 500 cal ∷ [])) (clock 900 2048) done (plain 3 5 0 ++ plain 5 5 0)
    -- a cut and a client's FatalError take both locks and the request; whoever may now be granted is granted
    ∷ corner (exclusive ++ (request 3 9 [] ∷ [])) (cut 0 2048) done (plain 3 5 1)
    ∷ corner (exclusive ++ (request 1 0 cal ∷ request 3 9 Cal ∷ [])) (send 1 (message 2 0 0 [])) (took closed 0 1) (plain 3 5 1)
    ∷ corner (exclusive ++ (request 1 0 cal ∷ request 3 9 Cal ∷ cut 1 2048 ∷ [])) (send 5 (message 24 0 0 [])) (took acted 16 3) (5 ∷ 0x48 ∷ 0x53 ∷ 25 ∷ 0 ∷ 0 ∷ 0 ∷ 0 ∷ 1 ∷ eight_zeros)
    ∷ corner (exclusive ++ (request 3 9 [] ∷ cut 3 2048 ∷ [])) (release 1) (took acted 16 1) (plain 1 5 1)
    ∷ corner (exclusive ++ (request 3 9 [] ∷ [])) (send 0 (replicate 16 0)) (took closed 0 1) (plain 0 2 1 ++ (plain 1 2 1 ++ plain 3 5 1))
    -- AsyncLockInfo: each holder once
    ∷ corner exclusive (send 1 (message 24 0 0 [])) (took acted 16 1) (1 ∷ 0x48 ∷ 0x53 ∷ 25 ∷ 1 ∷ 0 ∷ 0 ∷ 0 ∷ 1 ∷ eight_zeros)
    ∷ corner (shared ++ (request 1 0 [] ∷ [])) (send 5 (message 24 0 0 [])) (took acted 16 3) (5 ∷ 0x48 ∷ 0x53 ∷ 25 ∷ 1 ∷ 0 ∷ 0 ∷ 0 ∷ 2 ∷ eight_zeros)
    ∷ corner (exclusive ++ (release 1 ∷ [])) (send 1 (message 24 7 0 [])) (took acted 16 1) (plain 1 25 0)
    ∷ []

pub locks_hold : map found locks ≡ map sought locks
unfolding locks log final step refusal causes answered plan finish received effect verdict place_of acts synchronous_exchange synchronous_said asynchronous_rest
    asynchronous_said asynchronous_event controlled may_answer answer_number available_at sensed requested setting_sensings watched readings_in block_of scan
    fresh_scan header field encode header_bytes frame_bytes bytes_of class_of may_grant access pass_over grant_pass change
locks_hold = refl

-- 02, Q-3: a release waits for the message that it names
-- A exclusive, one command sent; A's release of a message still to come
abbrev sent : List Event
sent = exclusive ++ (send 0 (message 6 0 0xffffff00 cal) ∷ [])

abbrev stood : List Event
stood = sent ++ (release_from 1 0xffffff02 ∷ [])

-- A exclusive, in a clear; then a release of the first message after it
abbrev clearing : List Event
clearing = exclusive ++ (send 1 (message 19 0 0 []) ∷ release_from 1 0xffffff00 ∷ [])

pub releases : List Corner
releases =
    -- at once: the last one's number; fffffefe hex where none acted; not an older one, and not fffffefe hex after one acted
    corner sent (release_from 1 0xffffff00) (took acted 16 1) (plain 1 5 1)
    ∷ corner exclusive (release_from 1 0xfffffefe) (took acted 16 1) (plain 1 5 1)
    ∷ corner exclusive (release_from 1 0xffffff00) (took acted 16 1) []
    ∷ corner (sent ++ (send 0 (message 6 0 0xffffff02 cal) ∷ [])) (release_from 1 0xffffff00) (took acted 16 1) []
    ∷ corner sent (release 1) (took acted 16 1) []
    -- nothing held: 3 at once, whatever it names
    ∷ corner three (release_from 1 7) (took acted 16 1) (plain 1 5 3)
    -- while it stands: the lock counts as held, every AsyncLock gets 3
    ∷ corner stood (send 5 (message 24 0 0 [])) (took acted 16 3) (5 ∷ 0x48 ∷ 0x53 ∷ 25 ∷ 1 ∷ 0 ∷ 0 ∷ 0 ∷ 1 ∷ eight_zeros)
    ∷ corner stood (send 2 (message 6 0 0 cal)) (took held 0 0) []
    ∷ corner stood (release_from 1 0xffffff00) (took acted 16 1) (plain 1 5 3)
    ∷ corner stood (request 1 9 cal) (took acted 19 1) (plain 1 5 3)
    -- another number, an error, a held and a too large message leave it; Data, DataEND or Trigger of its number ends it, then grants
    ∷ corner stood (send 0 (message 6 0 0xffffff04 cal)) (took error_sent 19 0) (plain 0 3 0)
    ∷ corner (sent ++ (release_from 1 0xffffff04 ∷ [])) (send 0 (message 6 0 0xffffff02 cal)) (took acted 19 1) []
    ∷ corner (sent ++ (release_from 1 0xffffff04 ∷ send 0 (message 6 0 0xffffff02 cal) ∷ [])) (send 0 (message 7 0 0xffffff04 [])) (took acted 16 1) (plain 1 5 1)
    ∷ corner stood (send 0 (message 6 7 0xffffff02 cal)) (took error_sent 19 0) (plain 0 3 2)
    ∷ corner (stood ++ (send 0 (message 6 7 0xffffff02 cal) ∷ [])) (release_from 1 0xffffff00) (took acted 16 1) (plain 1 5 3)
    ∷ corner (stood ++ (send 0 (message 6 0 0xffffff02 (replicate 1025 7)) ∷ [])) (release_from 1 0xffffff00) (took acted 16 1) (plain 1 5 3)
    ∷ corner (shared ++ (request 3 0 [] ∷ release_from 1 8 ∷ [])) (send 0 (message 6 0 8 [])) (took held 0 0) []
    ∷ corner (shared ++ (request 3 0 [] ∷ release_from 1 8 ∷ send 0 (message 6 0 8 []) ∷ [])) (release_from 1 8) (took acted 16 1) (plain 1 5 3)
    ∷ corner (stood ++ (request 3 9 [] ∷ [])) (send 0 (message 6 0 0xffffff02 cal)) (took acted 19 1) (plain 1 5 1 ++ plain 3 5 1)
    ∷ corner stood (send 0 (message 7 0 0xffffff02 [])) (took acted 16 1) (plain 1 5 1)
    ∷ corner stood (send 0 (message 12 0 0xffffff02 [])) (took acted 16 1) (plain 1 5 1)
    -- a malformed AsyncLock gets its Error, not 3
    ∷ corner stood (send 1 (message 4 2 0 [])) (took error_sent 16 0) (plain 1 3 2)
    -- AsyncDeviceClear: the waiting request's 0, the release's answer, the acknowledgement, the grants; then none has acted
    ∷ corner (three ++ (request 1 0 cal ∷ request 3 0 cal ∷ request 5 90 Cal ∷ release_from 3 8 ∷ cut 1 2048 ∷ [])) (send 3 (message 19 0 0 [])) (took acted 16 2)
    (plain 3 5 2 ++ (plain 3 23 0 ++ plain 5 5 1))
    ∷ corner (three ++ (request 1 0 cal ∷ request 3 0 cal ∷ request 1 0 [] ∷ request 3 90 [] ∷ release_from 3 8 ∷ [])) (send 3 (message 19 0 0 []))
    (took acted 16 2) (plain 3 5 0 ++ (plain 3 5 2 ++ plain 3 23 0))
    ∷ corner (sent ++ (send 1 (message 19 0 0 []) ∷ send 0 (message 8 0 0 []) ∷ [])) (release 1) (took acted 16 1) (plain 1 5 1)
    -- a release in a clear stands through it: an ignored message does not act, DeviceClearComplete leaves it
    ∷ corner (clearing ++ (send 0 (message 6 0 0xffffff00 []) ∷ [])) (release_from 1 0xffffff00) (took acted 16 1) (plain 1 5 3)
    ∷ corner (clearing ++ (send 0 (message 8 0 0 []) ∷ [])) (send 0 (message 6 0 0xffffff00 [])) (took acted 16 1) (plain 1 5 1)
    -- which lock it frees is fixed when it arrives: exclusive is granted meanwhile, and shared goes. Then A is exclusive alone while B shares
    ∷ corner (shared ++ (request 3 0 [] ∷ request 1 90 [] ∷ release_from 1 0xffffff00 ∷ release 3 ∷ [])) (send 0 (message 6 0 0xffffff00 [])) (took acted 16 1) (plain 1 5 2)
    ∷ corner (shared ++ (request 3 0 [] ∷ request 1 90 [] ∷ release_from 1 0xffffff00 ∷ release 3 ∷ send 0 (message 6 0 0xffffff00 []) ∷ []))
    (send 5 (message 24 0 0 [])) (took acted 16 3) (5 ∷ 0x48 ∷ 0x53 ∷ 25 ∷ 1 ∷ 0 ∷ 0 ∷ 0 ∷ 2 ∷ eight_zeros)
    -- a closing drops it, unanswered
    ∷ corner (stood ++ (request 3 9 [] ∷ [])) (cut 0 2048) done (plain 3 5 1)
    ∷ []

pub releases_hold : map found releases ≡ map sought releases
unfolding releases log final step refusal causes answered plan finish received effect verdict place_of acts synchronous_exchange synchronous_said asynchronous_rest
    asynchronous_said asynchronous_event controlled may_answer answer_number available_at sensed requested setting_sensings watched readings_in block_of scan
    fresh_scan header field encode header_bytes frame_bytes bytes_of class_of may_grant access pass_over grant_pass change
releases_hold = refl

-- 02, Q-1: overlap mode. A server that prefers it; A cleared into the other mode and back
abbrev overlap_making : Making
overlap_making = record { vendor = 0x4141; prefers_overlap = true }

-- an answer to A: Data or DataEND with a number ending in n
abbrev reply : ℕ → ℕ → List ℕ
reply t n = 0 ∷ 0x48 ∷ 0x53 ∷ t ∷ 0 ∷ 0xff ∷ 0xff ∷ 0xff ∷ n ∷ eight_zeros

abbrev cleared : ℕ → List Event
cleared k = send 1 (message 19 0 0 []) ∷ send 0 (message 8 k 0 []) ∷ []

pub overlapping : List Corner
overlapping =
    -- types 1 and 23 carry the preference; type 9 what was asked, whatever the preference and the other bits
    corner (opening 0 ∷ []) (send 0 initialize) (took acted 16 1) (0 ∷ 0x48 ∷ 0x53 ∷ 1 ∷ 1 ∷ 1 ∷ 0 ∷ 0 ∷ 1 ∷ eight_zeros)
    ∷ corner three (send 1 (message 19 0 0 [])) (took acted 16 1) (plain 1 23 1)
    ∷ corner (three ++ (send 1 (message 19 0 0 []) ∷ [])) (send 0 (message 8 0xfe 0 [])) (took acted 16 1) (plain 0 9 0)
    ∷ corner (three ++ (send 1 (message 19 0 0 []) ∷ [])) (send 0 (message 8 0xff 0 [])) (took acted 16 1) (plain 0 9 1)
    ∷ corner (three ++ cleared 0) (send 1 (message 19 0 0 [])) (took acted 16 1) (plain 1 23 1)
    -- answers are counted, asked or not, Data and DataEND alike; a clear resets the count; 5 half-open and in a clear alone
    ∷ corner three (answer 1 [] true [] 2048) done (reply 7 0)
    ∷ corner (three ++ (send 0 (message 7 0 5 []) ∷ answer 1 [] true [] 2048 ∷ [])) (answer 1 [] false [] 2048) done (reply 6 2)
    ∷ corner (three ++ (answer 1 [] true [] 2048 ∷ answer 1 [] true [] 2048 ∷ cleared 1)) (answer 1 [] true [] 2048) done (reply 7 0)
    ∷ corner (opening 0 ∷ send 0 initialize ∷ []) (answer 1 [] true [] 2048) (refused 5) []
    ∷ corner (three ++ (send 1 (message 19 0 0 []) ∷ [])) (answer 1 [] true [] 2048) (refused 5) []
    -- cleared into synchronized mode: refusal 5 till something is asked, whose number is sent
    ∷ corner (three ++ cleared 0) (answer 1 [] true [] 2048) (refused 5) []
    ∷ corner (three ++ (answer 1 [] true [] 2048 ∷ cleared 0 ++ (send 0 (message 6 0 0xffffff00 []) ∷ send 0 (message 7 0 0xffffff02 []) ∷ []))) (answer 1 [] true [] 2048) done (reply 7 2)
    -- message available: none sent; another number than the last one sent; the last one; RMT-delivered has no effect; after a clear
    ∷ corner three (send 1 (message 21 0 7 [])) (took acted 16 1) (plain 1 22 0)
    ∷ corner (three ++ (answer 1 [] true [] 2048 ∷ [])) (send 1 (message 21 0 0xfffffefe [])) (took acted 16 1) (plain 1 22 16)
    ∷ corner (three ++ (answer 1 [] true [] 2048 ∷ [])) (send 1 (message 21 1 0xffffff02 [])) (took acted 16 1) (plain 1 22 16)
    ∷ corner (three ++ (answer 1 [] true [] 2048 ∷ [])) (send 1 (message 21 0 0xffffff00 [])) (took acted 16 1) (plain 1 22 0)
    ∷ corner (three ++ (answer 1 [] true [] 2048 ∷ cleared 1)) (send 1 (message 21 0 7 [])) (took acted 16 1) (plain 1 22 0)
    -- the lock rules are the same
    ∷ corner exclusive (send 2 (message 6 0 0 cal)) (took held 0 0) []
    ∷ corner stood (send 0 (message 7 0 0xffffff02 [])) (took acted 16 1) (plain 1 5 1)
    ∷ []

pub overlapping_hold : map (found_on overlap_making) overlapping ≡ map sought overlapping
unfolding overlapping log final step refusal causes answered plan finish received effect verdict place_of acts synchronous_exchange synchronous_said
    asynchronous_rest asynchronous_said asynchronous_event controlled may_answer answer_number available_at sensed requested setting_sensings watched readings_in
    block_of scan fresh_scan header field encode header_bytes frame_bytes bytes_of class_of may_grant access pass_over grant_pass change
overlapping_hold = refl

-- the same server, preferring synchronized mode, cleared into overlap mode
pub switched : List Corner
switched =
    corner (three ++ cleared 1) (answer 1 [] true [] 2048) done (reply 7 0)
    ∷ corner (three ++ (send 0 (message 7 0 5 []) ∷ answer 1 [] true [] 2048 ∷ cleared 1)) (answer 1 [] true [] 2048) done (reply 7 0)
    ∷ corner (three ++ (send 0 (message 7 0 5 []) ∷ answer 1 [] true [] 2048 ∷ cleared 1)) (send 1 (message 21 0 7 [])) (took acted 16 1) (plain 1 22 0)
    ∷ corner three (send 1 (message 19 0 0 [])) (took acted 16 1) (plain 1 23 0)
    ∷ corner (three ++ cleared 1) (answer 2 [] true [] 2048) (refused 5) []
    ∷ []

pub switched_hold : map found switched ≡ map sought switched
unfolding switched log final step refusal causes answered plan finish received effect verdict place_of acts synchronous_exchange synchronous_said asynchronous_rest
    asynchronous_said asynchronous_event controlled may_answer answer_number available_at sensed requested setting_sensings watched readings_in block_of scan
    fresh_scan header field encode header_bytes frame_bytes bytes_of class_of may_grant access pass_over grant_pass change
switched_hold = refl

-- 02, Q-5: interrupted queries. A message with a number ending in n, to a connection
abbrev numbered : ℕ → ℕ → ℕ → List ℕ
numbered c t n = c ∷ 0x48 ∷ 0x53 ∷ t ∷ 0 ∷ 0xff ∷ 0xff ∷ 0xff ∷ n ∷ eight_zeros

-- A asked with ffffff00, and was answered with END
abbrev query : List Event
query = three ++ (send 0 (message 7 0 0xffffff00 []) ∷ [])

abbrev ended : List Event
ended = query ++ (answer 1 [] true [] 2048 ∷ [])

pub interruptions_of : List Corner
interruptions_of =
    -- an END answer with a command unread is withheld, also one of any length, and one that would be held; nothing is asked then
    corner query (answer 1 [] true (message 7 0 0xffffff02 []) 2048) withheld (numbered 1 14 2 ++ numbered 0 13 2)
    ∷ corner (query ++ (answer 1 [] true (message 7 0 0xffffff02 []) 2048 ∷ [])) (answer 1 [] true [] 2048) (refused 5) []
    ∷ corner query (answer 1 [] true (take 16 (message 6 9 0xffffff02 cal)) 2048) withheld (numbered 1 14 2 ++ numbered 0 13 2)
    ∷ corner (query ++ (request 3 0 [] ∷ [])) (answer 1 [] true (message 12 0 0xffffff02 []) 2048) withheld (numbered 1 14 2 ++ numbered 0 13 2)
    -- the message that interrupts stays unread, and acts when it is delivered, without a second interruption
    ∷ corner (query ++ (answer 1 [] true (message 7 0 0xffffff02 []) 2048 ∷ [])) (send 0 (message 7 0 0xffffff02 [])) (took acted 16 1) []
    -- sent: without END; fifteen bytes; another type first; wrong prologue; a remainder to skip
    ∷ corner query (answer 1 [] false (message 7 0 0xffffff02 []) 2048) done (numbered 0 6 0)
    ∷ corner query (answer 1 [] true (take 15 (message 7 0 0xffffff02 [])) 2048) done (numbered 0 7 0)
    ∷ corner query (answer 1 [] true (message 8 0 0 []) 2048) done (numbered 0 7 0)
    ∷ corner query (answer 1 [] true (0 ∷ message 7 0 0xffffff02 []) 2048) done (numbered 0 7 0)
    ∷ corner (query ++ (send 0 (message 6 0 0 (replicate 1025 7)) ∷ [])) (answer 1 [] true (message 7 0 0xffffff02 []) 2048) done (numbered 0 7 0)
    -- refusals come first
    ∷ corner three (answer 1 [] true (message 7 0 0xffffff02 []) 2048) (refused 5) []
    -- the test of RMT-delivered: expected after END, and there: nothing; not there: interrupted, then it acts; there and not expected: the same
    ∷ corner ended (send 0 (message 7 1 0xffffff02 [])) (took acted 16 1) []
    ∷ corner ended (send 0 (message 7 0 0xffffff02 [])) (took acted 16 1) (numbered 1 14 2 ++ numbered 0 13 2)
    ∷ corner (ended ++ (send 0 (message 7 0 0xffffff02 []) ∷ [])) (answer 1 [] true [] 2048) done (numbered 0 7 2)
    ∷ corner (ended ++ (send 0 (message 7 0 0xffffff02 []) ∷ [])) (send 0 (message 6 0 0xffffff04 [])) (took acted 16 1) []
    ∷ corner three (send 0 (message 6 1 0xffffff00 [])) (took acted 16 1) (numbered 1 14 0 ++ numbered 0 13 0)
    ∷ corner (ended ++ (send 0 (message 6 0 0xffffff02 []) ∷ [])) (send 1 (message 21 0 0 [])) (took acted 16 1) (plain 1 22 0)
    -- a message that is held or answered Error is not tested
    ∷ corner (ended ++ (request 3 0 [] ∷ [])) (send 0 (message 7 0 0xffffff02 [])) (took held 0 0) []
    ∷ corner (ended ++ (send 0 (message 7 2 0xffffff02 []) ∷ [])) (send 0 (message 7 0 0xffffff04 [])) (took acted 16 1) (numbered 1 14 4 ++ numbered 0 13 4)
    -- an answer without END expects nothing; a status query with RMT-delivered and a device clear clear the expectation
    ∷ corner (query ++ (answer 1 [] false [] 2048 ∷ [])) (send 0 (message 6 0 0xffffff02 [])) (took acted 16 1) []
    ∷ corner (ended ++ (send 1 (message 21 1 0 []) ∷ [])) (send 0 (message 6 0 0xffffff02 [])) (took acted 16 1) []
    ∷ corner (ended ++ (send 1 (message 19 0 0 []) ∷ send 0 (message 8 0 0 []) ∷ [])) (send 0 (message 6 0 0xffffff00 [])) (took acted 16 1) []
    -- the order: AsyncInterrupted, Interrupted, the release's answer, the grants
    ∷ corner (ended ++ (request 1 0 [] ∷ request 3 9 [] ∷ release_from 1 0xffffff02 ∷ [])) (send 0 (message 7 0 0xffffff02 [])) (took acted 16 1)
    (numbered 1 14 2 ++ (numbered 0 13 2 ++ (plain 1 5 1 ++ plain 3 5 1)))
    ∷ []

pub interruptions_hold : map found interruptions_of ≡ map sought interruptions_of
unfolding interruptions_of log final step refusal causes answered plan finish received effect verdict place_of acts synchronous_exchange synchronous_said
    asynchronous_rest asynchronous_said asynchronous_event controlled may_answer answer_number available_at sensed requested setting_sensings watched readings_in
    block_of scan fresh_scan header field encode header_bytes frame_bytes bytes_of class_of may_grant access pass_over grant_pass change
interruptions_hold = refl

-- overlap mode: neither tested nor withheld
pub uninterrupted : List Corner
uninterrupted =
    corner three (answer 1 [] true (message 7 0 0xffffff02 []) 2048) done (numbered 0 7 0)
    ∷ corner (three ++ (answer 1 [] true [] 2048 ∷ [])) (send 0 (message 7 0 0xffffff00 [])) (took acted 16 1) []
    ∷ corner three (send 0 (message 7 1 0xffffff00 [])) (took acted 16 1) []
    ∷ []

pub uninterrupted_hold : map (found_on overlap_making) uninterrupted ≡ map sought uninterrupted
unfolding uninterrupted log final step refusal causes answered plan finish received effect verdict place_of acts synchronous_exchange synchronous_said
    asynchronous_rest asynchronous_said asynchronous_event controlled may_answer answer_number available_at sensed requested setting_sensings watched readings_in
    block_of scan fresh_scan header field encode header_bytes frame_bytes bytes_of class_of may_grant access pass_over grant_pass change
uninterrupted_hold = refl

-- 02, Q-10: numbers out of step
pub in_step : List Corner
in_step =
    -- the first is ffffff00 hex; any other of permitted size is Error 0, whatever its code, and leaves the expectation
    corner three (send 0 (message 6 0 0xffffff02 [])) (took error_sent 16 0) (plain 0 3 0)
    ∷ corner three (send 0 (message 6 9 0xffffff02 [])) (took error_sent 16 0) (plain 0 3 0)
    ∷ corner (three ++ (send 0 (message 6 0 0xffffff02 []) ∷ [])) (send 0 (message 6 0 0xffffff00 [])) (took acted 16 1) []
    ∷ corner (three ++ (send 0 (message 6 0 0xffffff00 []) ∷ [])) (send 0 (message 12 0 0xffffff00 [])) (took error_sent 16 0) (plain 0 3 0)
    ∷ corner (three ++ (send 0 (message 6 0 0xffffff00 []) ∷ [])) (send 0 (message 12 0 0xffffff02 [])) (took acted 16 1) []
    -- it moves also with one too large, one with a wrong code, one with payload where none belongs
    ∷ corner (three ++ (send 0 (message 6 0 0xffffff00 (replicate 1025 7)) ∷ send 0 (replicate 1025 7) ∷ [])) (send 0 (message 6 0 0xffffff02 [])) (took acted 16 1) []
    ∷ corner (three ++ (send 0 (message 6 0 0xffffff02 (replicate 1025 7)) ∷ send 0 (replicate 1025 7) ∷ [])) (send 0 (message 6 0 0xffffff00 [])) (took acted 16 1) []
    ∷ corner (three ++ (send 0 (message 6 9 0xffffff00 []) ∷ [])) (send 0 (message 6 0 0xffffff02 [])) (took acted 16 1) []
    ∷ corner (three ++ (send 0 (message 12 0 0xffffff00 cal) ∷ [])) (send 0 (message 6 0 0xffffff02 [])) (took acted 16 1) []
    -- not with one that is held, or in a clear; a clear begins anew; access is tested before the number
    ∷ corner (exclusive ++ (send 2 (message 6 0 0xffffff00 []) ∷ release 1 ∷ [])) (send 2 (message 6 0 0xffffff00 [])) (took acted 16 2) []
    ∷ corner exclusive (send 2 (message 6 0 7 [])) (took held 0 0) []
    ∷ corner (three ++ (send 1 (message 19 0 0 []) ∷ send 0 (message 6 0 0xffffff00 []) ∷ send 0 (message 8 0 0 []) ∷ [])) (send 0 (message 6 0 0xffffff00 [])) (took acted 16 1) []
    ∷ corner (three ++ (send 1 (message 19 0 0 []) ∷ send 0 (message 6 0 0xffffff00 (replicate 1025 7)) ∷ send 0 (replicate 1025 7) ∷ send 0 (message 8 0 0 [])
    ∷ [])) (send 0 (message 6 0 0xffffff00 [])) (took acted 16 1) []
    ∷ corner (three ++ (send 0 (message 6 0 0xffffff00 []) ∷ cleared 0)) (send 0 (message 6 0 0xffffff00 [])) (took acted 16 1) []
    -- in a clear none is tested; a held one is tested when it is taken; a too large one moves it without access too
    ∷ corner (three ++ (send 1 (message 19 0 0 []) ∷ [])) (send 0 (message 6 0 7 [])) (took ignored 16 0) []
    ∷ corner (exclusive ++ (send 2 (message 6 0 7 []) ∷ release 1 ∷ [])) (send 2 (message 6 0 7 [])) (took error_sent 16 0) (plain 2 3 0)
    ∷ corner (exclusive ++ (send 2 (message 6 0 0xffffff00 (replicate 1025 7)) ∷ send 2 (replicate 1025 7) ∷ release 1 ∷ [])) (send 2 (message 6 0 0xffffff02 [])) (took acted 16 2) []
    -- each session has its own
    ∷ corner (three ++ (send 0 (message 6 0 0xffffff00 []) ∷ [])) (send 2 (message 6 0 0xffffff00 [])) (took acted 16 2) []
    -- other types and the other channel carry no number that is tested
    ∷ corner three (send 1 (message 21 0 7 [])) (took acted 16 1) (plain 1 22 0)
    ∷ []

pub in_step_hold : map found in_step ≡ map sought in_step
unfolding in_step log final step refusal causes answered plan finish received effect verdict place_of acts synchronous_exchange synchronous_said asynchronous_rest
    asynchronous_said asynchronous_event controlled may_answer answer_number available_at sensed requested setting_sensings watched readings_in block_of scan
    fresh_scan header field encode header_bytes frame_bytes bytes_of class_of may_grant access pass_over grant_pass change
in_step_hold = refl

-- a client that counts: B, through a message in two pieces, one held, one with a wrong code and one too large; what the reader has of it
abbrev counting : List Event
counting =
    three
    ++ (send 2 (message 6 0 0xffffff00 cal) ∷ send 2 (take 9 (message 7 0 0xffffff02 [])) ∷ request 1 0 [] ∷ send 2 (message 7 0 0xffffff02 []) ∷ release 1
    ∷ send 2 (message 7 0 0xffffff02 []) ∷ send 2 (message 6 9 0xffffff04 []) ∷ send 2 (message 6 0 0xffffff06 (replicate 1025 7)) ∷ send 2 (replicate 1025 7) ∷ [])

pub counting_holds : (numbering bench_making counting 2).taken ≡ count_up 4
unfolding numbering_of log final step refusal causes answered plan finish received effect verdict place_of acts synchronous_exchange synchronous_said
    asynchronous_rest asynchronous_said asynchronous_event controlled may_answer answer_number available_at sensed requested setting_sensings watched readings_in
    block_of scan fresh_scan header field encode header_bytes frame_bytes bytes_of class_of may_grant access pass_over grant_pass change
counting_holds = refl

-- 02, Q-14: of the frames of a call, the codes that answer the request that waits of the session with connections c (asynchronous) and s
abbrev stands_after : ℕ → ℕ → List Line → Release → Release
stands_after c s [] p = p
stands_after c s (l ∷ ls) p = stands_after c s ls (release_after c s (happening l) p)

abbrev told_by : ℕ → ℕ → List Event → Event → List ℕ
told_by c s es e = let d = final (fresh bench_making) es in answered_to c s (stands_after c s (log (fresh bench_making) es) none_stands) (at_call d e) (step d e).frames

-- A exclusive, B waits until 90 ms; A and B share, A is exclusive too, B waits and its release stands
abbrev waiting_for : List Event
waiting_for = exclusive ++ (request 3 90 [] ∷ [])

abbrev waiting_both : List Event
waiting_both = shared ++ (request 1 0 [] ∷ request 3 90 [] ∷ release_from 3 8 ∷ [])

pub told_waiting : List (List ℕ)
told_waiting =
    -- by a release, a closing, the deadline and not before it, its own device clear and not another's, a further request's 3 is not its answer
    told_by 3 2 waiting_for (release 1)
    ∷ told_by 3 2 waiting_for (cut 1 2048)
    ∷ told_by 3 2 waiting_for (clock 89 2048)
    ∷ told_by 3 2 waiting_for (clock 90 2048)
    ∷ told_by 3 2 waiting_for (send 3 (message 19 0 0 []))
    ∷ told_by 3 2 waiting_for (send 1 (message 19 0 0 []))
    ∷ told_by 3 2 waiting_for (request 3 9 cal)
    ∷ told_by 3 2 waiting_for (cut 2 2048)
    -- the answer to a release is not one: B's own at its device clear, A's that its message ends, which grants B
    ∷ told_by 3 2 waiting_both (send 3 (message 19 0 0 []))
    ∷ told_by 1 0 (stood ++ (request 3 90 [] ∷ [])) (send 0 (message 6 0 0xffffff02 []))
    ∷ told_by 3 2 (stood ++ (request 3 90 [] ∷ [])) (send 0 (message 6 0 0xffffff02 []))
    ∷ []

pub told_waiting_holds : told_waiting ≡ (1 ∷ []) ∷ (1 ∷ []) ∷ [] ∷ (0 ∷ []) ∷ (0 ∷ []) ∷ [] ∷ [] ∷ [] ∷ (0 ∷ []) ∷ [] ∷ (1 ∷ []) ∷ []
unfolding told_waiting log final step refusal causes answered plan finish received effect verdict place_of acts synchronous_exchange synchronous_said
    asynchronous_rest asynchronous_said asynchronous_event controlled may_answer answer_number available_at sensed requested setting_sensings watched readings_in
    block_of scan fresh_scan header field encode header_bytes frame_bytes bytes_of class_of may_grant access pass_over grant_pass change
told_waiting_holds = refl

-- clear, status, remote, sizes, answers
pub exchanges : List Corner
exchanges =
    -- AsyncDeviceClear: a waiting request is answered 0 first; nothing is asked any more; message available goes off; once again
    corner (exclusive ++ (request 3 9 [] ∷ [])) (send 3 (message 19 0 0 [])) (took acted 16 2) (plain 3 5 0 ++ plain 3 23 0)
    ∷ corner (asked ++ (send 1 (message 19 0 0 []) ∷ [])) (answer 1 [] true [] 2048) (refused 5) []
    ∷ corner (asked ++ (send 1 (message 19 0 0 []) ∷ [])) (send 1 (message 21 0 0 [])) (took acted 16 1) (plain 1 22 0x41)
    ∷ corner in_clear (send 1 (message 19 0 0 [])) (took acted 16 1) (plain 1 23 0)
    ∷ corner (exclusive ++ (send 3 (message 19 0 0 []) ∷ request 3 9 [] ∷ [])) (send 3 (message 19 0 0 [])) (took acted 16 2) (plain 3 5 0 ++ plain 3 23 0)
    -- DeviceClearComplete ends it; outside a clear Error 0
    ∷ corner in_clear (send 0 (message 8 0 0 [])) (took acted 16 1) (plain 0 9 0)
    ∷ corner (in_clear ++ (send 0 (message 8 0 0 []) ∷ [])) (send 0 (message 8 0 0 [])) (took error_sent 16 0) (plain 0 3 0)
    ∷ corner (in_clear ++ (send 0 (message 8 0 0 []) ∷ [])) (send 0 (message 6 0 0xffffff00 [])) (took acted 16 1) []
    -- message available: on when an answer is sent, off by RMT-delivered of Data, DataEND, Trigger and of a status query before its response
    ∷ corner asked (send 1 (message 21 0 0 [])) (took acted 16 1) (plain 1 22 0x51)
    ∷ corner asked (send 1 (message 21 1 0 [])) (took acted 16 1) (plain 1 22 0x41)
    ∷ corner (asked ++ (send 1 (message 21 1 0 []) ∷ [])) (send 1 (message 21 0 0 [])) (took acted 16 1) (plain 1 22 0x41)
    ∷ corner (asked ++ (send 0 (message 6 1 0xffffff02 []) ∷ [])) (send 1 (message 21 0 0 [])) (took acted 16 1) (plain 1 22 0x41)
    ∷ corner (asked ++ (send 0 (message 7 1 0xffffff02 []) ∷ [])) (send 1 (message 21 0 0 [])) (took acted 16 1) (plain 1 22 0x41)
    ∷ corner (asked ++ (send 0 (message 12 1 0xffffff02 []) ∷ [])) (send 1 (message 21 0 0 [])) (took acted 16 1) (plain 1 22 0x41)
    ∷ corner (asked ++ (send 0 (message 7 0 0xffffff02 []) ∷ [])) (send 1 (message 21 0 0 [])) (took acted 16 1) (plain 1 22 0x51)
    ∷ corner (status 0xff ∷ three) (send 1 (message 21 0 0 [])) (took acted 16 1) (plain 1 22 0xef)
    -- what is asked: not by Data; by the last DataEND or Trigger; an answer without END keeps it, one with END clears it; each session's own
    ∷ corner (three ++ (send 0 (message 6 0 2 []) ∷ [])) (answer 1 [] true [] 2048) (refused 5) []
    ∷ corner (asked ++ (send 0 (message 12 0 0xffffff02 []) ∷ [])) (answer 1 [] true [] 2048) done (0 ∷ 0x48 ∷ 0x53 ∷ 7 ∷ 0 ∷ 0xff ∷ 0xff ∷ 0xff ∷ 2 ∷ eight_zeros)
    ∷ corner (asked ++ (send 0 (message 6 0 0xffffff02 []) ∷ [])) (answer 1 (9 ∷ []) false [] 2048) done (0 ∷ 0x48 ∷ 0x53 ∷ 6 ∷ 0 ∷ 0xff ∷ 0xff ∷ 0xff ∷ 0 ∷ 0 ∷ 0 ∷ 0 ∷ 0 ∷ 0 ∷ 0 ∷ 0 ∷ 1 ∷ 9 ∷ [])
    ∷ corner (asked ++ (answer 1 [] true [] 2048 ∷ [])) (answer 1 [] true [] 2048) (refused 5) []
    ∷ corner (asked ++ (send 2 (message 7 0 0xffffff00 []) ∷ [])) (answer 2 [] true [] 2048) done (2 ∷ 0x48 ∷ 0x53 ∷ 7 ∷ 0 ∷ 0xff ∷ 0xff ∷ 0xff ∷ 0 ∷ eight_zeros)
    -- an answer flows though another holds the lock; the client's size; the reply says 1,024
    ∷ corner (asked ++ (request 3 0 [] ∷ [])) (answer 1 [] true [] 2048) done (0 ∷ 0x48 ∷ 0x53 ∷ 7 ∷ 0 ∷ 0xff ∷ 0xff ∷ 0xff ∷ 0 ∷ eight_zeros)
    ∷ corner three (send 1 (message 15 0 0 (0 ∷ 0 ∷ 0 ∷ 0 ∷ 0 ∷ 0 ∷ 2 ∷ 0 ∷ []))) (took acted 24 1)
    (1 ∷ 0x48 ∷ 0x53 ∷ 16 ∷ 0 ∷ 0 ∷ 0 ∷ 0 ∷ 0 ∷ 0 ∷ 0 ∷ 0 ∷ 0 ∷ 0 ∷ 0 ∷ 0 ∷ 8 ∷ 0 ∷ 0 ∷ 0 ∷ 0 ∷ 0 ∷ 0 ∷ 4 ∷ 0 ∷ [])
    ∷ corner (asked ++ (send 1 (message 15 0 0 (0 ∷ 0 ∷ 0 ∷ 0 ∷ 0 ∷ 0 ∷ 0 ∷ 3 ∷ [])) ∷ [])) (answer 1 (1 ∷ 2 ∷ 3 ∷ 4 ∷ []) true [] 2048) (refused 6) []
    ∷ corner (asked ++ (send 1 (message 15 0 0 (0 ∷ 0 ∷ 0 ∷ 0 ∷ 0 ∷ 0 ∷ 0 ∷ 0 ∷ [])) ∷ [])) (answer 1 [] true [] 2048) done (0 ∷ 0x48 ∷ 0x53 ∷ 7 ∷ 0 ∷ 0xff ∷ 0xff ∷ 0xff ∷ 0 ∷ eight_zeros)
    ∷ corner (asked ++ (send 1 (message 15 0 0 (0 ∷ 0 ∷ 0 ∷ 0 ∷ 0 ∷ 0 ∷ 0 ∷ 3 ∷ [])) ∷ [])) (answer 1 (1 ∷ 2 ∷ 3 ∷ []) true [] 2048) done
    (0 ∷ 0x48 ∷ 0x53 ∷ 7 ∷ 0 ∷ 0xff ∷ 0xff ∷ 0xff ∷ 0 ∷ 0 ∷ 0 ∷ 0 ∷ 0 ∷ 0 ∷ 0 ∷ 0 ∷ 3 ∷ 1 ∷ 2 ∷ 3 ∷ [])
    ∷ []

pub exchanges_hold : map found exchanges ≡ map sought exchanges
unfolding exchanges log final step refusal causes answered plan finish received effect verdict place_of acts synchronous_exchange synchronous_said asynchronous_rest
    asynchronous_said asynchronous_event controlled may_answer answer_number available_at sensed requested setting_sensings watched readings_in block_of scan
    fresh_scan header field encode header_bytes frame_bytes bytes_of class_of may_grant access pass_over grant_pass change
exchanges_hold = refl

-- refusals 1 to 8 and their order
pub refusals : List Corner
refusals =
    corner [] (opening 32) done []
    ∷ corner [] (opening 63) done []
    ∷ corner [] (opening 64) (refused 1) []
    ∷ corner [] (opening 255) (refused 1) []
    ∷ corner three (send 64 []) (refused 1) []
    ∷ corner three (cut 64 2048) (refused 1) []
    ∷ corner three (send 7 []) (refused 1) []
    ∷ corner three (cut 7 2048) (refused 1) []
    ∷ corner (three ++ (cut 0 2048 ∷ [])) (send 1 []) (refused 1) []
    ∷ corner three (opening 0) (refused 2) []
    ∷ corner (clock 5 2048 ∷ []) (clock 4 2048) (refused 3) []
    ∷ corner (clock 5 2048 ∷ clock 4 2048 ∷ []) (clock 5 2048) done []
    ∷ corner [] (clock 4611686018427387905 2048) (refused 4) []
    ∷ corner [] (clock 4611686018427387904 2048) done []
    ∷ corner three (answer 1 [] true [] 2048) (refused 5) []
    ∷ corner half (answer 1 [] true [] 2048) (refused 5) []
    ∷ corner three (answer 1 (replicate 1025 0) true [] 2048) (refused 5) []
    ∷ corner asked (answer 1 (replicate 1025 0) true [] 2048) (refused 6) []
    ∷ corner three (delivery 64 [] 2047) (refused 7) []
    ∷ corner three (cut 64 2047) (refused 7) []
    ∷ corner [] (clock 4611686018427387905 2047) (refused 7) []
    ∷ corner three (answer 4 [] true [] 2047) (refused 7) []
    ∷ corner three (answer 4 [] true [] 2048) (refused 8) []
    ∷ corner three (answer 0 (replicate 1025 0) true [] 2048) (refused 8) []
    ∷ corner (half ++ (cut 0 2048 ∷ [])) (answer 1 [] true [] 2048) (refused 8) []
    ∷ []

pub refusals_hold : map found refusals ≡ map sought refusals
unfolding refusals log final step refusal causes answered plan finish received effect verdict place_of acts synchronous_exchange synchronous_said asynchronous_rest
    asynchronous_said asynchronous_event controlled may_answer answer_number available_at sensed requested setting_sensings watched readings_in block_of scan
    fresh_scan header field encode header_bytes frame_bytes bytes_of class_of may_grant access pass_over grant_pass change
refusals_hold = refl

-- 32 half-open sessions are 32 live ones; the sub-address is looked at first; a cut frees a place
abbrev halves : ℕ → List Event
halves zero = []
halves (suc n) = halves n ++ (opening n ∷ send n initialize ∷ [])

-- 32 sessions; one on the last two connections
pub places : List Corner
places =
    corner (halves 31 ++ (opening 40 ∷ [])) (send 40 initialize) (took acted 16 32) (40 ∷ 0x48 ∷ 0x53 ∷ 1 ∷ 0 ∷ 1 ∷ 0 ∷ 0 ∷ 32 ∷ eight_zeros)
    ∷ corner (halves 32 ++ (opening 40 ∷ [])) (send 40 initialize) (took closed 0 0) (plain 40 2 4)
    ∷ corner (halves 32 ++ (opening 40 ∷ [])) (send 40 (message 0 0 0x1004141 (hislip 0x31))) (took closed 0 0) (plain 40 2 3)
    ∷ corner (halves 32 ++ (cut 3 2048 ∷ opening 40 ∷ [])) (send 40 initialize) (took acted 16 33) (40 ∷ 0x48 ∷ 0x53 ∷ 1 ∷ 0 ∷ 1 ∷ 0 ∷ 0 ∷ 33 ∷ eight_zeros)
    ∷ corner (opening 62 ∷ opening 63 ∷ send 62 initialize ∷ []) (send 63 (async_initialize 1)) (took acted 16 1) (63 ∷ 0x48 ∷ 0x53 ∷ 18 ∷ 0 ∷ 0 ∷ 0 ∷ 0x41 ∷ 0x41 ∷ eight_zeros)
    ∷ []

pub places_hold : map found places ≡ map sought places
unfolding places log final step refusal causes answered plan finish received effect verdict place_of acts synchronous_exchange synchronous_said asynchronous_rest
    asynchronous_said asynchronous_event controlled may_answer answer_number available_at sensed requested setting_sensings watched readings_in block_of scan
    fresh_scan header field encode header_bytes frame_bytes bytes_of class_of may_grant access pass_over grant_pass change
places_hold = refl

-- SessionIDs with 1, 2 and 3 live: from 65,535 back to 1, passing over live ones
abbrev issued_after : ℕ → ℕ
issued_after last = issued session_limit 0 (final (fresh bench_making) three).locks.entries last

pub numbers_hold : map issued_after (0 ∷ 2 ∷ 3 ∷ 7 ∷ 65534 ∷ 65535 ∷ []) ≡ 4 ∷ 4 ∷ 4 ∷ 8 ∷ 65535 ∷ 4 ∷ []
unfolding log final step refusal causes answered plan finish received effect verdict place_of acts synchronous_exchange synchronous_said asynchronous_rest
    asynchronous_said asynchronous_event controlled may_answer answer_number available_at sensed requested setting_sensings watched readings_in block_of scan
    fresh_scan header field encode header_bytes frame_bytes bytes_of class_of may_grant access pass_over grant_pass change
numbers_hold = refl

-- and a new session gets such a number: after 65,535, with 1, 2 and 3 live
abbrev wrapped : Server
wrapped = let d = final (fresh bench_making) (three ++ (opening 6 ∷ [])) in record { locks = d.locks; rest = with_session d.rest 9 65535 }

pub wrapped_hold : bytes_of (step wrapped (send 6 initialize)).frames ≡ 6 ∷ 0x48 ∷ 0x53 ∷ 1 ∷ 0 ∷ 1 ∷ 0 ∷ 0 ∷ 4 ∷ eight_zeros
unfolding log final step refusal causes answered plan finish received effect verdict place_of acts synchronous_exchange synchronous_said asynchronous_rest
    asynchronous_said asynchronous_event controlled may_answer answer_number available_at sensed requested setting_sensings watched readings_in block_of scan
    fresh_scan header field encode header_bytes frame_bytes bytes_of class_of may_grant access pass_over grant_pass change
wrapped_hold = refl

-- what the wire does not show: the flags after codes 0 to 6, from all off and from all on
pub flags_table : List RemoteLocal
flags_table =
    flags false false false ∷ flags true false false ∷ flags false false false ∷ flags true false true ∷ flags true true false ∷ flags true true true ∷ flags false false false
    ∷ flags false false false ∷ flags true true true ∷ flags false false false ∷ flags true true true ∷ flags true true true ∷ flags true true true ∷ flags true true false
    ∷ []

abbrev codes : List ℕ
codes = 0 ∷ 1 ∷ 2 ∷ 3 ∷ 4 ∷ 5 ∷ 6 ∷ []

pub flags_hold : map (λ k. controlled k (flags false false false)) codes ++ map (λ k. controlled k (flags true true true)) codes ≡ flags_table
unfolding flags_table controlled
flags_hold = refl

-- the message on the wire reaches them: after code 5 all three are on, and a closing leaves them so
pub flags_kept : (final (fresh bench_making) (three ++ (send 1 (message 10 5 0 []) ∷ cut 0 2048 ∷ []))).rest.remote_local ≡ flags true true true
unfolding log final step refusal causes answered plan finish received effect verdict place_of acts synchronous_exchange synchronous_said asynchronous_rest
    asynchronous_said asynchronous_event controlled may_answer answer_number available_at sensed requested setting_sensings watched readings_in block_of scan
    fresh_scan header field encode header_bytes frame_bytes bytes_of class_of may_grant access pass_over grant_pass change
flags_kept = refl

-- the numbers that the C interface returns
pub outcomes_hold : map outcome_number (more_needed ∷ skipped ∷ held ∷ ignored ∷ error_sent ∷ closed ∷ acted ∷ []) ≡ 0 ∷ 1 ∷ 2 ∷ 3 ∷ 4 ∷ 5 ∷ 6 ∷ []
outcomes_hold = refl

pub answers_hold : delivery_answer (refused 7) 0 0 ∷ delivery_answer (took acted 19 2) 17 0 ∷ delivery_answer (took more_needed 0 0) 0 9 ∷ []
    ≡ record { refusal = 7; outcome = 0; session = 0; taken = 0; output = 0; missing = 0 }
    ∷ record { refusal = 0; outcome = 6; session = 2; taken = 19; output = 17; missing = 0 }
    ∷ record { refusal = 0; outcome = 0; session = 0; taken = 0; output = 0; missing = 9 }
    ∷ []
answers_hold = refl

pub done_hold : done_answer (refused 3) 0 ∷ done_answer done 34 ∷ [] ≡ record { refusal = 3; output = 0 } ∷ record { refusal = 0; output = 34 } ∷ []
done_hold = refl

pub answered_hold : answered_answer (refused 5) 0 ∷ answered_answer done 17 ∷ answered_answer withheld 34 ∷ []
    ≡ record { refusal = 5; withheld = 0; output = 0 } ∷ record { refusal = 0; withheld = 0; output = 17 } ∷ record { refusal = 0; withheld = 1; output = 34 } ∷ []
answered_hold = refl

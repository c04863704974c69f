-- Corners of 02, Q-11: the order of its refusals, what trips a watch and what does not, and what the watch outlives. Each row is some calls from
-- the fresh server, then one call with its reply and its whole output. Assumes nothing.
use mathlib.Core.Path.{◌≡◌, refl}
use mathlib.Core.Bool.{true, false}
use mathlib.Core.List.{List, [], ◌∷◌, ◌++◌, map}
use Prim.Native.Nat.{ℕ}
use Rattle.wire.specs.Field.{field}
use Rattle.wire.specs.Message.{header, encode, header_bytes}
use Rattle.wire.specs.Frame.{frame_bytes, bytes_of}
use Rattle.wire.specs.Class.{class_of}
use Rattle.readings.specs.Bits.{not_number, place, below}
use Rattle.readings.specs.Watch as Watch
use Rattle.readings.specs.Watch.{Limits.off, Limits.above, Limits.outside, trips}
use Rattle.readings.specs.Record as Record
use Rattle.readings.specs.Block as Block
use Rattle.readings.specs.Payload as Payload
use Rattle.readings.specs.Request.{with_value}
use Rattle.model.specs.Interface.{Event, Event.cut, Event.opening, Event.answer, Event.status, Event.setting, Setting.watch, Reply.refused, Reply.done}
use Rattle.model.specs.Scan.{fresh_scan, scan}
use Rattle.model.specs.Place.{place_of}
use Rattle.model.specs.Locks.{may_grant, access, pass_over, grant_pass, change}
use Rattle.model.specs.Exchange.{controlled, may_answer, answer_number, available_at}
use Rattle.model.specs.Checks.{verdict}
use Rattle.model.specs.Acts.{acts, synchronous_exchange, synchronous_said, asynchronous_rest, asynchronous_said, asynchronous_event}
use Rattle.model.specs.Sensing.{sensed, requested, setting_sensings}
use Rattle.model.specs.Refusals.{refusal, causes}
use Rattle.model.specs.Step.{final, log, step, answered, plan, finish, received, effect}
use Rattle.model.proofs.Table.{Corner, corner, found, sought, message, send, eight_zeros, initialize, async_initialize, three}

-- #14 and the four bytes of 1, of the next number above 1, of what is not a number
abbrev block : List ℕ → List ℕ
block x = 35 ∷ 49 ∷ 52 ∷ x

abbrev one : List ℕ
one = block (0x3f ∷ 0x80 ∷ 0 ∷ 0 ∷ [])

abbrev more : List ℕ
more = block (0x3f ∷ 0x80 ∷ 0 ∷ 1 ∷ [])

abbrev nan : List ℕ
nan = block (0x7f ∷ 0xc0 ∷ 0 ∷ 0 ∷ [])

-- session 1 (connections 0 and 1) is asked; its watch is above 1; status byte 41 hex
abbrev question : Event
question = send 0 (message 7 0 0xffffff00 [])

abbrev watched : List Event
watched = three ++ (status 0x41 ∷ setting (watch 1 (above 0x3f800000)) ∷ question ∷ [])

-- an answer of seven bytes by a type, to session 1; and the request for service
abbrev answer_sent : ℕ → List ℕ → List ℕ
answer_sent t p = 0 ∷ 0x48 ∷ 0x53 ∷ t ∷ 0 ∷ 0xff ∷ 0xff ∷ 0xff ∷ 0 ∷ 0 ∷ 0 ∷ 0 ∷ 0 ∷ 0 ∷ 0 ∷ 0 ∷ 7 ∷ p

abbrev service : List ℕ
service = 1 ∷ 0x48 ∷ 0x53 ∷ 20 ∷ 0x51 ∷ 0 ∷ 0 ∷ 0 ∷ 0 ∷ eight_zeros

pub rows : List Corner
rows =
    -- above the limit, at the limit, not a number; the request comes after the answer
    corner watched (answer 1 more true [] 2048) done (answer_sent 7 more ++ service)
    ∷ corner watched (answer 1 one true [] 2048) done (answer_sent 7 one)
    ∷ corner watched (answer 1 nan true [] 2048) done (answer_sent 7 nan ++ service)
    -- once since it was set; set again, it trips again; off, it does not
    ∷ corner (watched ++ (answer 1 more false [] 2048 ∷ [])) (answer 1 nan true [] 2048) done (answer_sent 7 nan)
    ∷ corner (watched ++ (answer 1 more false [] 2048 ∷ setting (watch 1 (above 0x3f800000)) ∷ [])) (answer 1 more true [] 2048) done (answer_sent 7 more ++ service)
    ∷ corner (watched ++ (setting (watch 1 off) ∷ [])) (answer 1 nan true [] 2048) done (answer_sent 7 nan)
    -- a device clear keeps it
    ∷ corner (watched ++ (send 1 (message 19 0 0 []) ∷ send 0 (message 8 0 0 []) ∷ question ∷ [])) (answer 1 more true [] 2048) done (answer_sent 7 more ++ service)
    -- a closing forgets it: the next session in that slot has none
    ∷ corner (watched ++ (cut 0 2048 ∷ opening 0 ∷ opening 1 ∷ send 0 initialize ∷ send 1 (async_initialize 4) ∷ question ∷ [])) (answer 4 more true [] 2048) done (answer_sent 7 more)
    -- refusals: 8 before 10; a half-open session may have one; low above high
    ∷ corner three (setting (watch 9 (above 0x7fc00000))) (refused 8) []
    ∷ corner three (setting (watch 0 off)) (refused 8) []
    ∷ corner three (setting (watch 1 (above 0x7fc00000))) (refused 10) []
    ∷ corner three (setting (watch 1 (outside 0x3f800000 0))) (refused 10) []
    ∷ corner (opening 0 ∷ send 0 initialize ∷ []) (setting (watch 1 (outside 0 0x80000000))) done []
    ∷ []

pub rows_hold : map found rows ≡ map sought rows
unfolding rows log final step refusal causes answered plan finish received effect verdict place_of acts synchronous_exchange synchronous_said asynchronous_rest
    asynchronous_said asynchronous_event controlled may_answer answer_number available_at sensed requested setting_sensings Payload.watched Payload.stepped
    Payload.readings Payload.readings_in Block.block_of Block.counted Block.decimal Record.noted Record.lesser Record.greater Watch.refused trips with_value
    not_number place below scan fresh_scan header field encode header_bytes frame_bytes bytes_of class_of may_grant access pass_over grant_pass change
rows_hold = refl

-- Corners of check 10: the forms of specs/Permitted.antt at their edges. Assumes nothing.
use mathlib.Core.Path.{◌≡◌, refl}
use mathlib.Core.List.{List, [], ◌∷◌, ◌++◌, map}
use Prim.Native.Nat.{ℕ}
use lib.ListN.{replicate}
use Rattle.wire.specs.Field.{field}
use Rattle.wire.specs.Message.{header, encode, header_bytes}
use Rattle.wire.specs.Frame.{frame_bytes, bytes_of}
use Rattle.wire.specs.Class.{class_of}
use Rattle.readings.specs.Payload.{watched, readings_in}
use Rattle.readings.specs.Block.{block_of}
use Rattle.model.specs.Interface.{Event, Event.opening, Outcome.error_sent, Outcome.acted, Reply.took}
use Rattle.model.specs.Scan.{fresh_scan, scan}
use Rattle.model.specs.Place.{place_of}
use Rattle.model.specs.Locks.{may_grant, access, pass_over, grant_pass, change}
use Rattle.model.specs.Exchange.{controlled, may_answer, answer_number, available_at}
use Rattle.model.specs.Checks.{verdict}
use Rattle.model.specs.Acts.{acts, synchronous_exchange, synchronous_said, asynchronous_rest, asynchronous_said, asynchronous_event}
use Rattle.model.specs.Sensing.{sensed, requested, setting_sensings}
use Rattle.model.specs.Refusals.{refusal, causes}
use Rattle.model.specs.Step.{final, log, step, answered, plan, finish, received, effect}
use Rattle.model.proofs.Table.{Corner, corner, found, sought, message, send, cal, eight_zeros, initialize, three}

-- a message without payload and with parameter 0, to a connection
abbrev plain : ℕ → ℕ → ℕ → List ℕ
plain c t n = c ∷ 0x48 ∷ 0x53 ∷ t ∷ n ∷ 0 ∷ 0 ∷ 0 ∷ 0 ∷ eight_zeros

-- A is interrupted (02, Q-5)
abbrev pair : List ℕ
pair = (1 ∷ 0x48 ∷ 0x53 ∷ 14 ∷ 0 ∷ 0xff ∷ 0xff ∷ 0xff ∷ 0 ∷ eight_zeros) ++ (0 ∷ 0x48 ∷ 0x53 ∷ 13 ∷ 0 ∷ 0xff ∷ 0xff ∷ 0xff ∷ 0 ∷ eight_zeros)

-- A in device clear; a half-open session, and a connection without a role
abbrev in_clear : List Event
in_clear = three ++ (send 1 (message 19 0 0 []) ∷ [])

abbrev half : List Event
half = opening 0 ∷ send 0 initialize ∷ opening 1 ∷ []

pub forms : List Corner
forms =
    -- 0 or 1: the highest code that acts, the lowest that does not. No RMT is expected here
    corner three (send 0 (message 6 1 0xffffff00 cal)) (took acted 19 1) pair
    ∷ corner three (send 0 (message 7 1 0xffffff00 cal)) (took acted 19 1) pair
    ∷ corner three (send 0 (message 7 2 0xffffff00 cal)) (took error_sent 19 0) (plain 0 3 2)
    ∷ corner three (send 0 (message 12 1 0xffffff00 [])) (took acted 16 1) pair
    ∷ corner three (send 0 (message 12 2 0xffffff00 [])) (took error_sent 16 0) (plain 0 3 2)
    ∷ corner three (send 1 (message 21 1 0 [])) (took acted 16 1) (plain 1 22 0)
    ∷ corner three (send 1 (message 4 1 0 cal)) (took acted 19 1) (plain 1 5 1)
    -- any code
    ∷ corner in_clear (send 0 (message 8 255 0 [])) (took acted 16 1) (plain 0 9 1)
    ∷ corner three (send 1 (message 15 255 0 eight_zeros)) (took acted 24 1) (1 ∷ 0x48 ∷ 0x53 ∷ 16 ∷ 0 ∷ 0 ∷ 0 ∷ 0 ∷ 0 ∷ 0 ∷ 0 ∷ 0 ∷ 0 ∷ 0 ∷ 0 ∷ 0 ∷ 8 ∷ 0 ∷ 0 ∷ 0 ∷ 0 ∷ 0 ∷ 0 ∷ 4 ∷ 0 ∷ [])
    ∷ corner three (send 1 (message 19 255 0 [])) (took acted 16 1) (plain 1 23 0)
    ∷ corner three (send 1 (message 24 255 0 [])) (took acted 16 1) (plain 1 25 0)
    ∷ corner half (send 1 (message 17 255 1 [])) (took acted 16 1) (1 ∷ 0x48 ∷ 0x53 ∷ 18 ∷ 0 ∷ 0 ∷ 0 ∷ 0x41 ∷ 0x41 ∷ eight_zeros)
    ∷ corner half (send 1 (message 0 255 0x1004141 [])) (took acted 16 2) (1 ∷ 0x48 ∷ 0x53 ∷ 1 ∷ 0 ∷ 1 ∷ 0 ∷ 0 ∷ 2 ∷ eight_zeros)
    -- one byte of payload where none belongs
    ∷ corner three (send 1 (message 10 0 0 (7 ∷ []))) (took error_sent 17 0) (plain 1 3 0)
    ∷ corner three (send 1 (message 19 0 0 (7 ∷ []))) (took error_sent 17 0) (plain 1 3 0)
    ∷ corner three (send 1 (message 21 0 0 (7 ∷ []))) (took error_sent 17 0) (plain 1 3 0)
    ∷ corner three (send 1 (message 24 0 0 (7 ∷ []))) (took error_sent 17 0) (plain 1 3 0)
    -- 7 bytes for type 15; a whole payload of Data
    ∷ corner three (send 1 (message 15 0 0 (replicate 7 0))) (took error_sent 23 0) (plain 1 3 0)
    ∷ corner three (send 0 (message 7 0 0xffffff00 (replicate 1024 7))) (took acted 1040 1) []
    ∷ []

pub forms_hold : map found forms ≡ map sought forms
unfolding forms log final step refusal causes answered plan finish received effect verdict place_of acts synchronous_exchange synchronous_said asynchronous_rest
    asynchronous_said asynchronous_event controlled may_answer answer_number available_at sensed requested setting_sensings watched readings_in block_of scan
    fresh_scan header field encode header_bytes frame_bytes bytes_of class_of may_grant access pass_over grant_pass change
forms_hold = refl

-- 003, appendix A, figures 2 to 5: interrupted conversations of client A, as 02's Q-5 has them, byte for byte. Where 003 reports an error in
-- the server only (rule 2: figures 2 and 5), Q-5 sends both messages. One table, one fact by computation. Assumes nothing.
use mathlib.Core.Path.{◌≡◌, refl}
use mathlib.Core.Bool.{true, false}
use mathlib.Core.List.{List, [], ◌∷◌, ◌++◌, map}
use Prim.Native.Nat.{ℕ}
use lib.ListN.{take}
use Rattle.wire.specs.Field.{field}
use Rattle.wire.specs.Message.{header, encode, header_bytes}
use Rattle.wire.specs.Frame.{frame_bytes, bytes_of}
use Rattle.wire.specs.Class.{class_of}
use Rattle.readings.specs.Payload.{watched, readings_in}
use Rattle.readings.specs.Block.{block_of}
use Rattle.model.specs.Interface.{Event.answer, Outcome.acted, Reply.done, Reply.withheld, Reply.took}
use Rattle.model.specs.Scan.{fresh_scan, scan}
use Rattle.model.specs.Place.{place_of}
use Rattle.model.specs.Locks.{may_grant, access, pass_over, grant_pass, change}
use Rattle.model.specs.Exchange.{controlled, may_answer, answer_number, available_at}
use Rattle.model.specs.Checks.{verdict}
use Rattle.model.specs.Acts.{acts, synchronous_exchange, synchronous_said, asynchronous_rest, asynchronous_said, asynchronous_event}
use Rattle.model.specs.Sensing.{sensed, requested, setting_sensings}
use Rattle.model.specs.Refusals.{refusal, causes}
use Rattle.model.specs.Step.{log, step, answered, plan, finish, received, effect}
use Rattle.model.specs.Demand3.{Seen}
use Rattle.model.proofs.Table.{call, played, message, send, cal, eight_zeros, opened}

-- the queries of the figures, numbered as 003 has it; RMT-delivered or not
abbrev query : ℕ → ℕ → List ℕ
query rmt n = message 7 rmt n cal

-- a message of the server with a number ending in n: without payload, and an answer of one byte
abbrev bare : ℕ → ℕ → ℕ → List ℕ
bare c t n = c ∷ 0x48 ∷ 0x53 ∷ t ∷ 0 ∷ 0xff ∷ 0xff ∷ 0xff ∷ n ∷ eight_zeros

abbrev answered_with_lem : ℕ → ℕ → ℕ → List ℕ
answered_with_lem t n b = 0 ∷ 0x48 ∷ 0x53 ∷ t ∷ 0 ∷ 0xff ∷ 0xff ∷ 0xff ∷ n ∷ 0 ∷ 0 ∷ 0 ∷ 0 ∷ 0 ∷ 0 ∷ 0 ∷ 1 ∷ b ∷ []

-- AsyncInterrupted, then Interrupted
abbrev interrupted_by_lem : ℕ → List ℕ
interrupted_by_lem n = bare 1 14 n ++ bare 0 13 n

pub figures : List (List Seen)
figures =
    -- 2, slow client: it sends the second query without having read the first response, so says that the RMT was not delivered; the second
    -- response goes its way, and so does the third query
    (opened
    ++ (call (send 0 (query 0 0xffffff00)) (took acted 19 1) []
    ∷ call (answer 1 (0x31 ∷ []) true [] 2048) done (answered_with_lem 7 0 0x31)
    ∷ call (send 0 (query 0 0xffffff02)) (took acted 19 1) (interrupted_by_lem 2)
    ∷ call (answer 1 (0x32 ∷ []) true [] 2048) done (answered_with_lem 7 2 0x32)
    ∷ call (send 0 (query 1 0xffffff04)) (took acted 19 1) []
    ∷ []))
    -- 3, fast client: the second query is unread when the first response is complete; the first response is never sent, the second one is
    ∷ (opened
    ++ (call (send 0 (query 0 0xffffff00)) (took acted 19 1) []
    ∷ call (answer 1 (0x31 ∷ []) true (query 0 0xffffff02) 2048) withheld (interrupted_by_lem 2)
    ∷ call (send 1 (message 21 0 0xffffff02 [])) (took acted 16 1) (1 ∷ 0x48 ∷ 0x53 ∷ 22 ∷ 0 ∷ 0 ∷ 0 ∷ 0 ∷ 0 ∷ eight_zeros)
    ∷ call (send 0 (query 0 0xffffff02)) (took acted 19 1) []
    ∷ call (answer 1 (0x32 ∷ []) true [] 2048) done (answered_with_lem 7 2 0x32)
    ∷ []))
    -- 4, fast client and partial response: a part without RMT is sent all the same, the final portion is not
    ∷ (opened
    ++ (call (send 0 (query 0 0xffffff00)) (took acted 19 1) []
    ∷ call (answer 1 (0x31 ∷ []) false (query 0 0xffffff02) 2048) done (answered_with_lem 6 0 0x31)
    ∷ call (answer 1 (0x32 ∷ []) true (query 0 0xffffff02) 2048) withheld (interrupted_by_lem 2)
    ∷ call (send 0 (query 0 0xffffff02)) (took acted 19 1) []
    ∷ call (answer 1 (0x33 ∷ []) true [] 2048) done (answered_with_lem 7 2 0x33)
    ∷ []))
    -- 5, race: the first response and the second query cross in flight; of the query fifteen bytes are here, not yet a header
    ∷ (opened
    ++ (call (send 0 (query 0 0xffffff00)) (took acted 19 1) []
    ∷ call (answer 1 (0x31 ∷ []) true (take 15 (query 0 0xffffff02)) 2048) done (answered_with_lem 7 0 0x31)
    ∷ call (send 0 (query 0 0xffffff02)) (took acted 19 1) (interrupted_by_lem 2)
    ∷ call (answer 1 (0x32 ∷ []) true [] 2048) done (answered_with_lem 7 2 0x32)
    ∷ []))
    ∷ []

pub figures_hold : map played figures ≡ figures
unfolding figures log step refusal causes answered plan finish received effect verdict place_of acts synchronous_exchange synchronous_said asynchronous_rest
    asynchronous_said asynchronous_event controlled may_answer answer_number available_at sensed requested setting_sensings watched readings_in block_of scan
    fresh_scan header field encode header_bytes frame_bytes bytes_of class_of may_grant access pass_over grant_pass change
figures_hold = refl

-- The claims A, B, C, D, F and G at one rich list, by computation: an edit that breaks a claim breaks it here, whatever becomes of the
-- proofs. Two runs are compared as lists of numbers. Assumes nothing.
use mathlib.Core.Path.{◌≡◌, refl}
use mathlib.Core.Bool.{Bool, true, false, not, ◌&&◌, ◌||◌, cond}
use mathlib.Core.List.{List, [], ◌∷◌, ◌++◌, map}
use Prim.Native.Nat.{ℕ, suc, ◌+◌, ◌*◌}
use lib.Dec.{eqb, leb}
use lib.ListN.{length, replicate, take}
use Rattle.wire.specs.Field.{field}
use Rattle.wire.specs.Message.{header, encode, header_bytes}
use Rattle.wire.specs.Frame.{Frame, frame_of, frame_bytes, bytes_of}
use Rattle.wire.specs.Class.{class_of, one_of}
use Rattle.readings.specs.Payload.{watched, readings_in}
use Rattle.readings.specs.Block.{block_of}
use Rattle.model.specs.Lists.{same, all, any, tally}
use Rattle.model.specs.MessageTypes.{commands}
use Rattle.model.specs.State.{Server, Rest, Locks, Entry, Waiting, Kind.exclusive_lock, Kind.shared_lock, Standing, Standing.no_release}
use Rattle.model.specs.State.{Standing.release_of, Exchange, Asked, Asked.none, Asked.some, Connection, at, live, slot_of_number, fresh}
use Rattle.model.specs.Interface.{Event, Event.opening, Event.delivery, Event.cut, Event.clock, Event.answer, Event.status, Event.setting}
use Rattle.model.specs.Interface.{Outcome.more_needed, Outcome.skipped, Outcome.held, Outcome.ignored, Outcome.error_sent, Outcome.closed, Outcome.acted}
use Rattle.model.specs.Interface.{Reply, Reply.refused, Reply.done, Reply.withheld, Reply.took, outcome_number}
use Rattle.model.specs.Scan.{fresh_scan, scan}
use Rattle.model.specs.Place.{place_of}
use Rattle.model.specs.Locks.{may_grant, access, pass_over, grant_pass, change, no_exclusive}
use Rattle.model.specs.Exchange.{number_asked, controlled, may_answer, answer_number, available_at}
use Rattle.model.specs.Checks.{verdict}
use Rattle.model.specs.Acts.{acts, synchronous_exchange, synchronous_said, asynchronous_rest, asynchronous_said, asynchronous_event, holder}
use Rattle.model.specs.Sensing.{sensed, requested, setting_sensings}
use Rattle.model.specs.Refusals.{refusal, causes}
use Rattle.model.specs.Step.{Line, final, log, step, answered, plan, finish, received, effect, answer_type}
use Rattle.model.specs.Canonical.{canonical, kept, omits, taken, showed}
use Rattle.model.specs.LockModel
use Rattle.model.specs.LockModel.{Session, Pending, Pending.none_pending, Pending.exclusive_until, Pending.shared_until, Request, Model, fresh_model}
use Rattle.model.specs.LockModel.{model_step, model_run, allowed, look, looked, not_exclusive, not_shared}
use Rattle.model.specs.Agreement.{feed, feeds, as_sessions, as_request, told_frame, is_lock}
use Rattle.model.specs.Count.{count, is_grant, tells_release, dropped, locks_held}
use Rattle.model.specs.Granting.{has_access}
use Rattle.model.specs.Tie.{Track, track_of_log, nothing_yet}
use Rattle.model.proofs.Table.{bench_making, message, send, request, release, release_from, cal, Cal, initialize, async_initialize, three}

-- openings, refusals of every number, messages in pieces, bytes behind a message, a message too large, both locks, waiting, a deadline,
-- releases, device clears, answers, a cut, FatalErrors from both sides, connections used again
pub rich : List Event
rich =
    three
    ++ (opening 0 ∷ opening 6 ∷ opening 7 ∷ opening 8 ∷ delivery 9 [] 2048 ∷ opening 64
    -- session 4, in pieces, with bytes behind
    ∷ send 6 (take 9 initialize) ∷ send 6 (initialize ++ initialize) ∷ send 7 (async_initialize 9) ∷ opening 7 ∷ send 7 (async_initialize 4)
    -- shared, exclusive, waiting; a request in pieces
    ∷ send 1 (take 17 (message 4 1 0 cal)) ∷ send 1 (message 4 1 0 cal ++ (1 ∷ 2 ∷ [])) ∷ request 3 0 Cal ∷ request 1 0 Cal ∷ request 1 0 []
    ∷ request 3 50 [] ∷ request 5 90 cal ∷ request 7 20 Cal ∷ request 7 20 [] ∷ send 2 (message 6 0 0 cal) ∷ send 0 (message 7 0 0xffffff00 cal)
    ∷ answer 1 (1 ∷ 2 ∷ []) false [] 2048 ∷ answer 1 (3 ∷ []) true [] 2048 ∷ answer 1 [] true [] 2048 ∷ answer 2 [] true [] 2048 ∷ answer 9 [] true [] 2048
    ∷ clock 10 2048 ∷ clock 20 2048 ∷ clock 4 2048 ∷ clock 30 2000
    -- A releases exclusive, by the number of its last message: C is granted past B; a release of shared that stands, with another and a
    -- request behind it; B is answered 0
    ∷ release_from 1 0xffffff00 ∷ send 0 (message 12 1 0xffffff02 []) ∷ send 2 (message 7 0 8 cal) ∷ release_from 1 0xffffff04 ∷ release_from 1 0xffffff02 ∷ request 1 0 [] ∷ clock 55 2048 ∷ clock 60 2048
    -- too large, skipped in two pieces, then whole again
    ∷ send 0 (message 6 0 0 (replicate 1025 7)) ∷ send 0 (replicate 25 7) ∷ send 0 (replicate 1000 7) ∷ send 0 (message 12 0 0xffffff06 []) ∷ send 0 (message 12 0 0xffffff04 [])
    ∷ release 3 ∷ release 5 ∷ send 0 (message 12 0 0xffffff06 []) ∷ send 0 (message 6 0 0xffffff08 cal) ∷ answer 1 (4 ∷ []) true [] 2048
    -- exclusive, two waiting, a device clear of one, its end
    ∷ request 1 0 [] ∷ request 3 70 [] ∷ request 7 70 [] ∷ send 2 (message 7 0 10 cal) ∷ send 3 (message 19 0 0 []) ∷ send 2 (message 6 0 0 [])
    ∷ send 2 (message 8 0 0 []) ∷ send 0 (message 7 0 0xffffff0a []) ∷ release_from 1 0xffffff0c ∷ send 7 (message 24 0 0 []) ∷ send 1 (message 19 0 0 [])
    ∷ answer 1 [] true [] 2048 ∷ send 1 (message 21 0 0 [])
    ∷ release 7 ∷ request 1 0 [] ∷ request 7 70 [] ∷ request 1 0 cal ∷ request 3 99 cal ∷ status 0x41
    -- a cut that leaves a grant, a FatalError from a client; connections used again; a half-open session that goes on; a wrong prologue
    ∷ cut 0 2048 ∷ send 1 [] ∷ send 3 (message 2 0 0 []) ∷ opening 0 ∷ opening 1 ∷ send 0 initialize ∷ send 0 (message 6 0 0 []) ∷ opening 0
    ∷ send 0 initialize ∷ send 1 (async_initialize 6) ∷ send 4 (message 7 0 12 []) ∷ send 5 (replicate 16 0) ∷ send 7 (message 24 0 0 []) ∷ release 7
    ∷ request 1 5 [] ∷ send 0 (message 7 0 0xffffff00 []) ∷ answer 6 (5 ∷ []) true [] 2048 ∷ clock 200 2048
    -- 02, Q-5: interrupted by a message that acts, and by one that is unread
    ∷ send 0 (message 7 0 0xffffff02 []) ∷ answer 6 [] true (message 7 0 18 []) 2048
    ∷ [])

abbrev d₀ : Server
d₀ = fresh bench_making

-- as numbers
abbrev flag : Bool → ℕ
flag b = cond b 1 0

abbrev reply_numbers : Reply → List ℕ
reply_numbers (refused n) = 0 ∷ n ∷ []
reply_numbers done = 1 ∷ []
reply_numbers withheld = 3 ∷ []
reply_numbers (took o k n) = 2 ∷ outcome_number o ∷ k ∷ n ∷ []

abbrev line_numbers : List Line → List ℕ
line_numbers [] = []
line_numbers (l ∷ ls) = reply_numbers l.reply ++ (length (bytes_of l.frames) ∷ bytes_of l.frames ++ line_numbers ls)

abbrev standing_numbers : Standing → List ℕ
standing_numbers no_release = 0 ∷ []
standing_numbers (release_of exclusive_lock n) = 1 ∷ n ∷ []
standing_numbers (release_of shared_lock n) = 2 ∷ n ∷ []

abbrev entry_numbers : List Entry → List ℕ
entry_numbers [] = 999 ∷ []
entry_numbers (e ∷ es) = e.number ∷ e.synchronous ∷ e.asynchronous ∷ flag e.exclusive ∷ length e.shared ∷ e.last ∷ e.shared ++ (standing_numbers e.standing ++ entry_numbers es)

abbrev waiting_numbers : List Waiting → List ℕ
waiting_numbers [] = 999 ∷ []
waiting_numbers (w ∷ ws) = w.slot ∷ w.deadline ∷ length w.string ∷ w.string ++ waiting_numbers ws

abbrev asked_numbers : Asked → List ℕ
asked_numbers none = 0 ∷ []
asked_numbers (some n) = 1 ∷ n ∷ []

abbrev exchange_numbers : List Exchange → List ℕ
exchange_numbers [] = 999 ∷ []
exchange_numbers (x ∷ xs) = flag x.in_clear ∷ flag x.message_available ∷ x.client_size ∷ flag x.overlap ∷ x.count ∷ flag x.any_sent
    ∷ flag x.rmt_expected ∷ x.number_expected ∷ asked_numbers x.asked ++ exchange_numbers xs

abbrev connection_numbers : List Connection → List ℕ
connection_numbers [] = 999 ∷ []
connection_numbers (c ∷ cs) = flag c.is_open ∷ c.remainder ∷ connection_numbers cs

abbrev rest_numbers : Rest → List ℕ
rest_numbers r =
    r.last_issued ∷ r.made.vendor ∷ flag r.made.prefers_overlap ∷ r.status ∷ flag r.remote_local.enable ∷ flag r.remote_local.lockout ∷ flag r.remote_local.remote
    ∷ exchange_numbers r.exchanges ++ connection_numbers r.connections

abbrev server_numbers : Server → List ℕ
server_numbers d = d.locks.clock ∷ entry_numbers d.locks.entries ++ (waiting_numbers d.locks.waiting ++ rest_numbers d.rest)

-- what the list does, call by call: 0 to 6 an outcome, 50 done, 100 and a refusal's number; and 1000 for each frame sent
abbrev reply_code : Reply → ℕ
reply_code (refused n) = 100 + n
reply_code done = 50
reply_code withheld = 60
reply_code (took o k n) = outcome_number o

abbrev code_of : Line → ℕ
code_of l = reply_code l.reply + 1000 * length l.frames

pub codes : List ℕ
codes =
    50 ∷ 50 ∷ 50 ∷ 50 ∷ 50 ∷ 50 ∷ 1006 ∷ 1006 ∷ 1006 ∷ 1006 ∷ 1006 ∷ 1006
    ∷ 102 ∷ 50 ∷ 50 ∷ 50 ∷ 101 ∷ 101
    ∷ 0 ∷ 1006 ∷ 1005 ∷ 50 ∷ 1006
    ∷ 0 ∷ 1006 ∷ 1006 ∷ 1006 ∷ 1006
    ∷ 6 ∷ 6 ∷ 6 ∷ 1006 ∷ 2 ∷ 6
    ∷ 1050 ∷ 1050 ∷ 105 ∷ 105 ∷ 108
    ∷ 50 ∷ 1050 ∷ 103 ∷ 107
    ∷ 2006 ∷ 6 ∷ 2 ∷ 6 ∷ 1006 ∷ 1006 ∷ 1050 ∷ 50
    ∷ 1004 ∷ 1 ∷ 1 ∷ 1004 ∷ 1006
    ∷ 1006 ∷ 1006 ∷ 6 ∷ 6 ∷ 1050
    ∷ 1006 ∷ 6 ∷ 6 ∷ 2 ∷ 2006 ∷ 3
    ∷ 1006 ∷ 2006 ∷ 6 ∷ 1006 ∷ 3006 ∷ 105 ∷ 1006
    ∷ 1006 ∷ 1006 ∷ 6 ∷ 1006 ∷ 6 ∷ 50
    ∷ 1050 ∷ 101 ∷ 5 ∷ 50 ∷ 50 ∷ 1006 ∷ 1005 ∷ 50
    ∷ 1006 ∷ 1006 ∷ 2 ∷ 2005 ∷ 1006 ∷ 1006
    ∷ 1006 ∷ 6 ∷ 1050 ∷ 50 ∷ 2006 ∷ 2060
    ∷ []

pub codes_at : map code_of (log d₀ rich) ≡ codes
unfolding codes rich log final step refusal causes answered plan finish received effect verdict place_of acts synchronous_exchange synchronous_said
    asynchronous_rest asynchronous_said asynchronous_event controlled may_answer answer_number available_at sensed requested setting_sensings watched readings_in
    block_of scan fresh_scan header field encode header_bytes frame_bytes bytes_of class_of may_grant access pass_over grant_pass change
codes_at = refl

-- A: the same server, the same lines, omitted calls silent, no more taken than shown
abbrev silent : Line → Bool
silent l = not (omits l.reply) || eqb (length l.frames) 0

abbrev within : Line → Bool
within l = leb (taken l.reply) (showed l.event)

pub canonical_at : same (server_numbers (final d₀ (canonical d₀ rich))) (server_numbers (final d₀ rich)) ≡ true
unfolding rich log final step refusal causes answered plan finish received effect verdict place_of acts synchronous_exchange synchronous_said asynchronous_rest
    asynchronous_said asynchronous_event controlled may_answer answer_number available_at sensed requested setting_sensings watched readings_in block_of scan
    fresh_scan header field encode header_bytes frame_bytes bytes_of class_of may_grant access pass_over grant_pass change
canonical_at = refl

pub lines_at : same (line_numbers (log d₀ (canonical d₀ rich))) (line_numbers (kept (log d₀ rich))) ≡ true
unfolding rich log final step refusal causes answered plan finish received effect verdict place_of acts synchronous_exchange synchronous_said asynchronous_rest
    asynchronous_said asynchronous_event controlled may_answer answer_number available_at sensed requested setting_sensings watched readings_in block_of scan
    fresh_scan header field encode header_bytes frame_bytes bytes_of class_of may_grant access pass_over grant_pass change
lines_at = refl

pub silent_at : all silent (log d₀ rich) ≡ true
unfolding rich log final step refusal causes answered plan finish received effect verdict place_of acts synchronous_exchange synchronous_said asynchronous_rest
    asynchronous_said asynchronous_event controlled may_answer answer_number available_at sensed requested setting_sensings watched readings_in block_of scan
    fresh_scan header field encode header_bytes frame_bytes bytes_of class_of may_grant access pass_over grant_pass change
silent_at = refl

pub within_at : all within (log d₀ rich) ≡ true
unfolding rich log final step refusal causes answered plan finish received effect verdict place_of acts synchronous_exchange synchronous_said asynchronous_rest
    asynchronous_said asynchronous_event controlled may_answer answer_number available_at sensed requested setting_sensings watched readings_in block_of scan
    fresh_scan header field encode header_bytes frame_bytes bytes_of class_of may_grant access pass_over grant_pass change
within_at = refl

-- A, call by call: what is omitted leaves the server as it was
abbrev changes_nothing : Server → List Event → Bool
changes_nothing d [] = true
changes_nothing d (e ∷ es) = let r = step d e in (not (omits r.reply) || same (server_numbers r.server) (server_numbers d)) && changes_nothing r.server es

pub omitted_at : changes_nothing d₀ rich ≡ true
unfolding rich log final step refusal causes answered plan finish received effect verdict place_of acts synchronous_exchange synchronous_said asynchronous_rest
    asynchronous_said asynchronous_event controlled may_answer answer_number available_at sensed requested setting_sensings watched readings_in block_of scan
    fresh_scan header field encode header_bytes frame_bytes bytes_of class_of may_grant access pass_over grant_pass change
omitted_at = refl

-- B: after each call the clock, the waiting requests and the sessions agree, and its lock answers are those sent
abbrev pending_numbers : Pending → List ℕ
pending_numbers none_pending = 0 ∷ []
pending_numbers (exclusive_until n) = 1 ∷ n ∷ []
pending_numbers (shared_until n) = 2 ∷ n ∷ []

abbrev session_numbers : Session → List ℕ
session_numbers s = s.number ∷ length s.connections ∷ s.heard ∷ s.connections ++ (pending_numbers s.pending ++ (flag s.exclusive ∷ s.shared))

abbrev same_session : Session → Session → Bool
same_session a b = same (session_numbers a) (session_numbers b)

abbrev same_sessions : List Session → List Session → Bool
same_sessions xs ys = eqb (length xs) (length ys) && (all (λ x. any (same_session x) ys) xs && all (λ y. any (same_session y) xs) ys)

abbrev request_numbers : List Request → List ℕ
request_numbers [] = 999 ∷ []
request_numbers (w ∷ ws) = w.number ∷ w.deadline ∷ length w.string ∷ w.string ++ request_numbers ws

abbrev agree : Locks → Model → Bool
agree l m =
    eqb m.clock l.clock
    && (same (request_numbers m.waiting) (request_numbers (map (as_request l.entries) l.waiting)) && same_sessions m.sessions (as_sessions l.entries))

abbrev lock_frames : List Frame → List Frame
lock_frames fs = Rattle.model.specs.Lists.keep is_lock fs

abbrev agreeing : Server → Model → List Event → Bool
agreeing d m [] = true
agreeing d m (e ∷ es) =
    let r = step d e in
    let o = model_step m (feed e r.reply) in
    agree r.server.locks o.model
    && (same (bytes_of (map told_frame o.told)) (bytes_of (lock_frames r.frames)) && agreeing r.server o.model es)

pub agreement_at : agreeing d₀ fresh_model rich ≡ true
unfolding rich log final step refusal causes answered plan finish received effect verdict place_of acts synchronous_exchange synchronous_said asynchronous_rest
    asynchronous_said asynchronous_event controlled may_answer answer_number available_at sensed requested setting_sensings watched readings_in block_of scan
    fresh_scan header field encode header_bytes frame_bytes bytes_of class_of may_grant access pass_over grant_pass change model_step LockModel.request
    LockModel.release LockModel.message LockModel.reading LockModel.clearing LockModel.removal LockModel.delivered look looked allowed
agreement_at = refl

-- D: grants, access and AsyncLockInfo go by the lock model's holders, after each call, for every live slot
abbrev decides : Locks → Model → Entry → ℕ → Bool
decides l m e i =
    not (live e)
    || (alike (may_grant l.entries i []) (allowed m.sessions e.number [])
    && (alike (may_grant l.entries i cal) (allowed m.sessions e.number cal)
    && (alike (may_grant l.entries i Cal) (allowed m.sessions e.number Cal) && alike (access l.entries i) (has_access m.sessions e.number))))
  where
    alike : Bool → Bool → Bool
    alike a b = cond a b (not b)

abbrev decides_all : Locks → Model → List Entry → ℕ → Bool
decides_all l m [] i = true
decides_all l m (e ∷ es) i = decides l m e i && decides_all l m es (suc i)

abbrev deciding : Server → Model → List Event → Bool
deciding d m [] = true
deciding d m (e ∷ es) =
    let r = step d e in
    let o = model_step m (feed e r.reply) in
    decides_all r.server.locks o.model r.server.locks.entries 0
    && (eqb (tally holder r.server.locks.entries) (tally (λ s. not (not_exclusive s && not_shared s)) o.model.sessions) && deciding r.server o.model es)

pub decisions_at : deciding d₀ fresh_model rich ≡ true
unfolding rich log final step refusal causes answered plan finish received effect verdict place_of acts synchronous_exchange synchronous_said asynchronous_rest
    asynchronous_said asynchronous_event controlled may_answer answer_number available_at sensed requested setting_sensings watched readings_in block_of scan
    fresh_scan header field encode header_bytes frame_bytes bytes_of class_of may_grant access pass_over grant_pass change model_step LockModel.request
    LockModel.release LockModel.message LockModel.reading LockModel.clearing LockModel.removal LockModel.delivered look looked allowed
decisions_at = refl

-- C: the count
pub count_at : count is_grant (model_run fresh_model (feeds (log d₀ rich))).told
    ≡ count tells_release (model_run fresh_model (feeds (log d₀ rich))).told + dropped fresh_model (feeds (log d₀ rich)) + locks_held (final d₀ rich).locks.entries
unfolding rich log final step refusal causes answered plan finish received effect verdict place_of acts synchronous_exchange synchronous_said asynchronous_rest
    asynchronous_said asynchronous_event controlled may_answer answer_number available_at sensed requested setting_sensings watched readings_in block_of scan
    fresh_scan header field encode header_bytes frame_bytes bytes_of class_of may_grant access pass_over grant_pass change model_run model_step LockModel.request
    LockModel.release LockModel.message LockModel.reading LockModel.clearing LockModel.removal LockModel.delivered look looked allowed count dropped locks_held
count_at = refl

-- F: each answer that is sent carries the number that the log before it gives
abbrev ties : Track → List Frame → Bool → List ℕ → Server → ℕ → Bool
ties t fs end p d n =
    same (bytes_of fs) (bytes_of (frame_of (at d.locks.entries (slot_of_number d.locks.entries n)).synchronous (answer_type end) 0 (cond t.overlap t.count (number_asked t.asked)) p ∷ []))

abbrev tied_answer : List Line → Server → Event → Reply → List Frame → Bool
tied_answer ls d e (refused k) fs = true
tied_answer ls d e (took o k m) fs = true
tied_answer ls d e withheld fs = true
tied_answer ls d (opening c) done fs = true
tied_answer ls d (delivery c bs room) done fs = true
tied_answer ls d (cut c room) done fs = true
tied_answer ls d (clock t room) done fs = true
tied_answer ls d (status b) done fs = true
tied_answer ls d (setting s) done fs = true
tied_answer ls d (answer n p end sh room) done fs = ties (track_of_log false ls n (nothing_yet false)) fs end p d n

abbrev tied : List Line → Server → List Event → Bool
tied ls d [] = true
tied ls d (e ∷ es) =
    let r = step d e in
    tied_answer ls d e r.reply r.frames && tied (ls ++ record { event = e; reply = r.reply; frames = r.frames } ∷ []) r.server es

pub tie_at : tied [] d₀ rich ≡ true
unfolding rich log final step refusal causes answered plan finish received effect verdict place_of acts synchronous_exchange synchronous_said asynchronous_rest
    asynchronous_said asynchronous_event controlled may_answer answer_number available_at sensed requested setting_sensings watched readings_in block_of scan
    fresh_scan header field encode header_bytes frame_bytes bytes_of class_of may_grant access pass_over grant_pass change track_of_log
tie_at = refl

-- G: while some session holds exclusive, a command that acts is that session's
abbrev own_command : List Entry → Event → Reply → Bool
own_command es e (refused k) = true
own_command es e done = true
own_command es e withheld = true
own_command es (delivery c bs room) (took acted k n) = not (one_of commands (header bs).kind) || all (λ x. no_exclusive x || eqb x.number n) es
own_command es (delivery c bs room) (took more_needed k n) = true
own_command es (delivery c bs room) (took skipped k n) = true
own_command es (delivery c bs room) (took held k n) = true
own_command es (delivery c bs room) (took ignored k n) = true
own_command es (delivery c bs room) (took error_sent k n) = true
own_command es (delivery c bs room) (took closed k n) = true
own_command es (opening c) (took o k n) = true
own_command es (cut c room) (took o k n) = true
own_command es (clock t room) (took o k n) = true
own_command es (status b) (took o k n) = true
own_command es (setting s) (took o k n) = true
own_command es (answer m p end sh room) (took o k n) = true

abbrev isolated : Server → List Event → Bool
isolated d [] = true
isolated d (e ∷ es) = let r = step d e in own_command d.locks.entries e r.reply && isolated r.server es

pub isolation_at : isolated d₀ rich ≡ true
unfolding rich log final step refusal causes answered plan finish received effect verdict place_of acts synchronous_exchange synchronous_said asynchronous_rest
    asynchronous_said asynchronous_event controlled may_answer answer_number available_at sensed requested setting_sensings watched readings_in block_of scan
    fresh_scan header field encode header_bytes frame_bytes bytes_of class_of may_grant access pass_over grant_pass change
isolation_at = refl

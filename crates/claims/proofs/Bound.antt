-- K, proved: a lock event and its pass answer at most each waiting request and the call itself; waiting requests have different slots.
use mathlib.Core.Path.{◌≡◌, refl}
use mathlib.Core.Bool.{Bool, true, false, ◌||◌, cond}
use mathlib.Core.List.{List, [], ◌∷◌, ◌++◌, map}
use Prim.Native.Nat.{ℕ, zero, suc, ◌+◌, ◌*◌, ◌≤◌}
use native.Mathlib.Omega.{arith}
use lib.Dec.{eqb, ltb}
use lib.ListN.{set, length, length-append}
use borrow.Author.Tests.{ltb-false}
use Rattle.wire.specs.Field.{length_field}
use Rattle.wire.specs.declared.Header.{Header}
use Rattle.wire.specs.Message.{header}
use Rattle.wire.specs.Frame.{Frame, bytes_of, frame_of, length_frame}
use Rattle.readings.specs.Request.{request_code}
use Rattle.model.specs.Sizes.{before_first, payload_limit, session_limit, output_minimum, no_connection}
use Rattle.model.specs.MessageTypes.{FatalError, AsyncServiceRequest}
use Rattle.model.specs.Lists.{all, keep}
use Rattle.model.specs.State.{Locks, Entry, Waiting, Exchange, slot_of_number, exchange_at, at, live, Server, fresh, Making, blank, sensing_at}
use Rattle.model.specs.Interface.{Event, Event.opening, Event.delivery, Event.cut, Event.clock, Event.answer, Event.status, Event.setting, Setting}
use Rattle.model.specs.Scan.{Scan, Scan.empty, Scan.few, Scan.wrong, Scan.skipping, Scan.long, Scan.part, Scan.whole}
use Rattle.model.specs.Place.{entry_of, Role, Role.r_none, Role.r_half_open, Role.r_synchronous, Role.r_asynchronous}
use Rattle.model.specs.Locks
use Rattle.model.specs.Locks.{Answer, LockEvent, no_shared, may_grant, holds, elsewhere, refuse, unexpired, after, put, pass_over, grant_pass, change, settle, frees, no_place}
use Rattle.model.specs.Checks.{Verdict, Verdict.v_more, Verdict.v_skipped, Verdict.v_held, Verdict.v_ignored, Verdict.v_closed, Verdict.v_acts, Verdict.v_error, Verdict.v_fatal}
use Rattle.model.specs.Exchange.{out_of_turn, answer_number}
use Rattle.model.specs.Acts
use Rattle.model.specs.Refusals.{causes, refusal}
use Rattle.model.specs.Step.{answer_type, withholds, effect, received, plan, answered, finish, step, final, lock_frame}
use Rattle.model.specs.Bound.{output_bound, room_of, Output, Bound, BoundRun, OutputFits, frame_size}
use Rattle.model.specs.Sensing.{requested, trips_first}
use Rattle.claims.proofs.Waiting.{few_wait}
use Rattle.claims.proofs.Fits.{uncaused, inv_run}

-- bytes of frames
bytes_append : (xs ys : List Frame) → length (bytes_of (xs ++ ys)) ≡ length (bytes_of xs) + length (bytes_of ys)
unfolding bytes_of
bytes_append [] ys = omega arith
bytes_append (x ∷ xs) ys = simp length-append (omega (arith, bytes_append xs ys))

lock_bytes : (xs : List Answer) → length (bytes_of (map lock_frame xs)) ≡ frame_size * length xs
unfolding bytes_of
lock_bytes [] = refl
lock_bytes (x ∷ xs) = simp length-append (omega (arith, length_frame (lock_frame x), lock_bytes xs))

-- how many answers
refuse_length : (es : List Entry) (p : Waiting → Bool) (ws : List Waiting) → length (refuse es p ws) ≤ length ws
refuse_length es p [] = omega arith
refuse_length es p (w ∷ ws) = go (p w) (refuse_length es p ws)
  where
    go : (b : Bool) → length (refuse es p ws) ≤ length ws → length (cond b (refuse es p ws) (Locks.tell es w.slot 0 true ∷ refuse es p ws)) ≤ suc (length ws)
    go true l = omega arith
    go false l = omega arith

keep_length : (p : Waiting → Bool) (ws : List Waiting) → length (keep p ws) ≤ length ws
keep_length p [] = omega arith
keep_length p (w ∷ ws) = go (p w) (keep_length p ws)
  where
    go : (b : Bool) → length (keep p ws) ≤ length ws → length (cond b (w ∷ keep p ws) (keep p ws)) ≤ suc (length ws)
    go true l = omega arith
    go false l = omega arith

refuse_rest : (es : List Entry) (p : Waiting → Bool) (ws : List Waiting) → length (refuse es p ws) + length (keep p ws) ≡ length ws
refuse_rest es p [] = refl
refuse_rest es p (w ∷ ws) = go (p w) (refuse_rest es p ws)
  where
    go : (b : Bool) → length (refuse es p ws) + length (keep p ws) ≡ length ws
        → length (cond b (refuse es p ws) (Locks.tell es w.slot 0 true ∷ refuse es p ws)) + length (cond b (w ∷ keep p ws) (keep p ws)) ≡ suc (length ws)
    go true l = omega arith
    go false l = omega arith

pass_length : (now : ℕ) (ws : List Waiting) (es : List Entry) → length (pass_over now ws es).answers ≤ length ws
unfolding pass_over
pass_length now [] es = omega arith
pass_length now (w ∷ ws) es = go (may_grant es w.slot w.string) (λ es. pass_length now ws es)
  where
    go : (b : Bool) → ((es : List Entry) → length (pass_over now ws es).answers ≤ length ws) → length (put b w es (pass_over now ws (after now b w es))).answers ≤ suc (length ws)
    go true ih = omega (arith, ih (after now true w es))
    go false ih = omega (arith, ih es)

-- of an event and its pass
abbrev answers : Locks → LockEvent → ℕ
answers l e = length (change l e).answers + length (settle (frees l e) (change l e).locks).answers

ask_length : (a : Locks.Ruling) (l : Locks) (i t : ℕ) (k : List ℕ) → length (Locks.respond a l i t k).answers ≤ 1
ask_length Locks.invalid l i t k = omega arith
ask_length Locks.granted l i t k = omega arith
ask_length Locks.denied l i t k = omega arith
ask_length Locks.queued l i t k = omega arith

release_length : (u : Locks.Releasing) (l : Locks) (i n : ℕ) →
    length (Locks.released u l i n).answers + length (settle (Locks.frees_now u) (Locks.released u l i n).locks).answers ≤ length l.waiting + 1
unfolding grant_pass
release_length Locks.r_invalid l i n = omega arith
release_length (Locks.r_now k) l i n = omega (arith, pass_length l.clock l.waiting (Locks.released (Locks.r_now k) l i n).locks.entries)
release_length (Locks.r_stands k) l i n = omega arith

complete_length : (u : Locks.Due) (l : Locks) (i n : ℕ) →
    length (Locks.completed u l i n).answers + length (settle (Locks.is_due u) (Locks.completed u l i n).locks).answers ≤ length l.waiting + 1
unfolding grant_pass
complete_length Locks.not_due l i n = omega arith
complete_length (Locks.due_now k) l i n = omega (arith, pass_length l.clock l.waiting (Locks.completed (Locks.due_now k) l i n).locks.entries)

answers_bound : (l : Locks) (e : LockEvent) → answers l e ≤ length l.waiting + 1
unfolding change grant_pass
answers_bound l Locks.nothing = omega arith
answers_bound l (Locks.enter i n c) = omega arith
answers_bound l (Locks.join i c) = omega arith
answers_bound l (Locks.request i t k) =
    omega (
      arith,
      ask_length (Locks.ruling (holds k (at l.entries i)) (all (elsewhere i) l.waiting) (Locks.invalid_by k (at l.entries i))
          (may_grant l.entries i k) (eqb t 0 || no_place l.waiting)) l i t k,
    )
answers_bound l (Locks.release i n) = release_length (Locks.releasing_of (at l.entries i) n) l i n
answers_bound l (Locks.command i n) = complete_length (Locks.due_at n (at l.entries i).standing) l i n
answers_bound l (Locks.clear i) =
    let u = Locks.due_any (at l.entries i).standing in
    let l' = Locks.with_waiting l (keep (elsewhere i) l.waiting) in
    simp (length-append (refuse l.entries (elsewhere i) l.waiting) (Locks.completed u l' i before_first).answers)
    (omega (arith, refuse_rest l.entries (elsewhere i) l.waiting, complete_length u l' i before_first))
answers_bound l (Locks.close i) = omega (arith, pass_length l.clock (keep (elsewhere i) l.waiting) (set l.entries i blank), keep_length (elsewhere i) l.waiting)
answers_bound l (Locks.reading t) = omega (arith, refuse_length l.entries (unexpired t) l.waiting)

-- what a call says directly
abbrev Small : List Frame → Type 0
Small fs = length (bytes_of fs) ≤ frame_size + payload_limit + frame_size

one_small : (f : Frame) → length f.message.payload ≤ payload_limit → Small (f ∷ [])
unfolding bytes_of
one_small f l = simp length-append (omega (arith, length_frame f))

-- an answer and a request for service
answer_small : (f : Frame) → length f.message.payload ≤ payload_limit → (t : Bool) (e : Entry) (b : ℕ) → Small (f ∷ requested t e b)
unfolding bytes_of requested
answer_small f l true e b = simp length-append (omega (arith, length_frame f, length_frame (frame_of e.asynchronous AsyncServiceRequest (request_code b) 0 [])))
answer_small f l false e b = simp length-append (omega (arith, length_frame f))

none_small : Small []
unfolding bytes_of
none_small = omega arith

-- AsyncInterrupted and Interrupted
interrupted_size : (e : Entry) (n : ℕ) → length (bytes_of (Acts.interruptions e n)) ≡ frame_size * 2
unfolding bytes_of
interrupted_size e n = simp (length-append, length_frame) (omega arith)

fatal_small : (n : ℕ) (a b : Bool) (x y c : ℕ) → Small (map (λ x. frame_of x FatalError n 0 []) (cond a (x ∷ cond b [] (y ∷ [])) (c ∷ [])))
unfolding bytes_of
fatal_small n true true x y c = simp (length-append, length_frame) (omega arith)
fatal_small n true false x y c = simp (length-append, length_frame) (omega arith)
fatal_small n false b x y c = simp (length-append, length_frame) (omega arith)

interrupted_small : (e : Entry) (n : ℕ) → Small (Acts.interruptions e n)
interrupted_small e n = omega (arith, interrupted_size e n)

opens_small : (b : Bool) (d : Server) (c : ℕ) (h : Header) → Small (Acts.opens b d c h).said
opens_small true d c h = one_small _ (omega arith)
opens_small false d c h = one_small _ (omega arith)

sync_small : (k : Acts.SynchronousKind) (c : ℕ) (h : Header) → Small (Acts.synchronous_said k c h)
unfolding Acts.synchronous_said
sync_small Acts.k_data c h = none_small
sync_small Acts.k_data_end c h = none_small
sync_small Acts.k_trigger c h = none_small
sync_small Acts.k_clear_complete c h = one_small _ (omega arith)

async_small : (k : Acts.AsynchronousKind) (d : Server) (i c : ℕ) (h : Header) → Small (Acts.asynchronous_said k d i c h)
unfolding Acts.asynchronous_said
async_small Acts.k_lock d i c h = none_small
async_small Acts.k_remote_local d i c h = one_small _ (omega arith)
async_small Acts.k_maximum_size d i c h = one_small _ (omega (arith, length_field 8 payload_limit))
async_small Acts.k_device_clear d i c h = one_small _ (omega arith)
async_small Acts.k_status_query d i c h = one_small _ (omega arith)
async_small Acts.k_lock_info d i c h = one_small _ (omega arith)

acts_small : (r : Role) (d : Server) (i c : ℕ) (h : Header) (p : List ℕ) → Small (Acts.acts r d i c h p).said
unfolding Acts.acts
acts_small r_none d i c h p = opens_small (eqb h.kind 0) d c h
acts_small r_half_open d i c h p = none_small
acts_small r_synchronous d i c h p = sync_small (Acts.synchronous_kind h.kind) c h
acts_small r_asynchronous d i c h p = async_small (Acts.asynchronous_kind h.kind) d i c h

effect_small : (v : Verdict) (s : Scan) (r : Role) (d : Server) (i c : ℕ) → Small (effect v s r d i c).said
unfolding effect
effect_small v_more s r d i c = none_small
effect_small v_held s r d i c = none_small
effect_small v_skipped s r d i c = none_small
effect_small v_ignored s r d i c = none_small
effect_small (v_error n) s r d i c = one_small _ (omega arith)
effect_small (v_fatal n) s r d i c = fatal_small n (live (entry_of d c)) (eqb (entry_of d c).asynchronous no_connection) (entry_of d c).synchronous (entry_of d c).asynchronous c
effect_small v_closed s r d i c = none_small
effect_small v_acts empty r d i c = none_small
effect_small v_acts few r d i c = none_small
effect_small v_acts wrong r d i c = none_small
effect_small v_acts (skipping k) r d i c = none_small
effect_small v_acts (long h) r d i c = none_small
effect_small v_acts (part h) r d i c = none_small
effect_small v_acts (whole h p) r d i c = acts_small r d i c h p

neither : (a b : Bool) → (a || b) ≡ false → a ≡ false
neither true b e = e
neither false b e = refl

plan_small : (d : Server) (e : Event) → refusal d e ≡ 0 → Small (plan d e).said
unfolding plan received refusal causes
plan_small d (opening c) z = none_small
plan_small d (delivery c bs room) z = effect_small _ _ _ d _ c
plan_small d (cut c room) z = none_small
plan_small d (clock t room) z = none_small
plan_small d (answer n p end sh room) z =
    let i = slot_of_number d.locks.entries n in
    go (withholds d n end sh) (at d.locks.entries i) (header sh).param (answer_number (exchange_at d.rest i)) (answer_type end) (trips_first p (sensing_at d.rest i))
    (ltb-false payload_limit (length p) (neither _ _ (uncaused (causes d (answer n p end sh room)) refl z).1.1.1.0))
  where
    go : (w : Bool) (e : Entry) (x k t : ℕ) (f : Bool) → length p ≤ payload_limit → Small (cond w (Acts.interruptions e x) (frame_of e.synchronous t 0 k p ∷ requested f e d.rest.status))
    go true e x k t f l = interrupted_small e x
    go false e x k t f l = answer_small _ l f e d.rest.status
plan_small d (status b) z = none_small
plan_small d (setting s) z = none_small

-- what a call says first
abbrev Brief : List Frame → Type 0
Brief fs = length (bytes_of fs) ≤ frame_size * 2

none_brief : Brief []
unfolding bytes_of
none_brief = omega arith

cond_brief : (w : Bool) (e : Entry) (n : ℕ) → Brief (cond w (Acts.interruptions e n) [])
cond_brief true e n = omega (arith, interrupted_size e n)
cond_brief false e n = none_brief

sync_brief : (k : Acts.SynchronousKind) (e : Entry) (x : Exchange) (h : Header) → Brief (Acts.synchronous_first k e x h)
sync_brief Acts.k_data e x h = cond_brief (out_of_turn h.code x) e h.param
sync_brief Acts.k_data_end e x h = cond_brief (out_of_turn h.code x) e h.param
sync_brief Acts.k_trigger e x h = cond_brief (out_of_turn h.code x) e h.param
sync_brief Acts.k_clear_complete e x h = none_brief

opens_brief : (b : Bool) (d : Server) (c : ℕ) (h : Header) → Brief (Acts.opens b d c h).first
opens_brief true d c h = none_brief
opens_brief false d c h = none_brief

acts_brief : (r : Role) (d : Server) (i c : ℕ) (h : Header) (p : List ℕ) → Brief (Acts.acts r d i c h p).first
unfolding Acts.acts
acts_brief r_none d i c h p = opens_brief (eqb h.kind 0) d c h
acts_brief r_half_open d i c h p = none_brief
acts_brief r_synchronous d i c h p = sync_brief (Acts.synchronous_kind h.kind) (at d.locks.entries i) (exchange_at d.rest i) h
acts_brief r_asynchronous d i c h p = none_brief

effect_brief : (v : Verdict) (s : Scan) (r : Role) (d : Server) (i c : ℕ) → Brief (effect v s r d i c).first
unfolding effect
effect_brief v_more s r d i c = none_brief
effect_brief v_held s r d i c = none_brief
effect_brief v_skipped s r d i c = none_brief
effect_brief v_ignored s r d i c = none_brief
effect_brief (v_error n) s r d i c = none_brief
effect_brief (v_fatal n) s r d i c = none_brief
effect_brief v_closed s r d i c = none_brief
effect_brief v_acts empty r d i c = none_brief
effect_brief v_acts few r d i c = none_brief
effect_brief v_acts wrong r d i c = none_brief
effect_brief v_acts (skipping k) r d i c = none_brief
effect_brief v_acts (long h) r d i c = none_brief
effect_brief v_acts (part h) r d i c = none_brief
effect_brief v_acts (whole h p) r d i c = acts_brief r d i c h p

plan_brief : (d : Server) (e : Event) → Brief (plan d e).first
unfolding plan received
plan_brief d (opening c) = none_brief
plan_brief d (delivery c bs room) = effect_brief _ _ _ d _ c
plan_brief d (cut c room) = none_brief
plan_brief d (clock t room) = none_brief
plan_brief d (answer n p end sh room) = none_brief
plan_brief d (status b) = none_brief
plan_brief d (setting s) = none_brief

pub output : (d : Server) (e : Event) → Output d e
unfolding step answered finish bytes_of
output d e = record { total = go (refusal d e) refl }
  where
    go : (n : ℕ) → refusal d e ≡ n → length (bytes_of (answered n d e).frames) ≤ frame_size + payload_limit + frame_size * (length d.locks.waiting + 4)
    go (suc n) z = omega arith
    go zero z =
        let x = change d.locks (plan d e).event in
        let y = settle (frees d.locks (plan d e).event) x.locks in
        omega (
          arith,
          bytes_append (plan d e).first (map lock_frame x.answers ++ ((plan d e).said ++ map lock_frame y.answers)),
          bytes_append (map lock_frame x.answers) ((plan d e).said ++ map lock_frame y.answers),
          bytes_append (plan d e).said (map lock_frame y.answers),
          lock_bytes x.answers,
          lock_bytes y.answers,
          answers_bound d.locks (plan d e).event,
          plan_small d e z,
          plan_brief d e,
        )

-- a call that is not refused
openings_silent : (d : Server) (c : ℕ) → length (bytes_of (finish d (plan d (opening c))).frames) ≤ 0
unfolding finish plan change bytes_of
openings_silent d c = omega arith

statuses_silent : (d : Server) (b : ℕ) → length (bytes_of (finish d (plan d (status b))).frames) ≤ 0
unfolding finish plan change bytes_of
statuses_silent d b = omega arith

settings_silent : (d : Server) (s : Setting) → length (bytes_of (finish d (plan d (setting s))).frames) ≤ 0
unfolding finish plan change bytes_of
settings_silent d s = omega arith

pub bound : (d : Server) → length d.locks.waiting ≤ session_limit → Bound d
unfolding step answered refusal causes
bound d l = record { within = within; has_room = has_room }
  where
    within : (e : Event) → length (bytes_of (step d e).frames) ≤ output_bound
    within e = omega (arith, (output d e).total)

    roomy : (room : ℕ) (n : ℕ) → ltb room output_minimum ≡ false → n ≤ output_bound → n ≤ room
    roomy room n t h = omega (arith, ltb-false room output_minimum t)

    has_room : (e : Event) → refusal d e ≡ 0 → length (bytes_of (step d e).frames) ≤ room_of e
    has_room (opening c) z = rw z (openings_silent d c)
    has_room (delivery c bs room) z = roomy room _ (uncaused (causes d (delivery c bs room)) refl z).0 (within (delivery c bs room))
    has_room (cut c room) z = roomy room _ (uncaused (causes d (cut c room)) refl z).0 (within (cut c room))
    has_room (clock t room) z = roomy room _ (uncaused (causes d (clock t room)) refl z).0 (within (clock t room))
    has_room (answer n p end sh room) z = roomy room _ (uncaused (causes d (answer n p end sh room)) refl z).0 (within (answer n p end sh room))
    has_room (status b) z = rw z (statuses_silent d b)
    has_room (setting s) z = rw z (settings_silent d s)

pub bound_run : (v : Making) (es : List Event) → BoundRun v es
bound_run v es = record { waiting = few; bound = bound (final (fresh v) es) few }
  where
    few : length (final (fresh v) es).locks.waiting ≤ session_limit
    few =
        let i = inv_run v es in
        let l = (final (fresh v) es).locks in
        omega (arith, few_wait l.entries l.waiting i.sound.good, i.sound.firm.slots)

pub output_fits : OutputFits
output_fits = record { any_server = output; few_waiting = bound; any_run = bound_run; sum = refl; enough = omega arith }

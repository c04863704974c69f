-- B, proved: the lock model comes to the server's locks, and its answers are exactly the type 5 messages sent, in order.
use mathlib.Core.Path.{◌≡◌, refl, sym, ap, ap₂, ◌∙◌}
use mathlib.Core.Bool.{Bool, true, false, cond}
use mathlib.Core.List.{List, [], ◌∷◌, ◌++◌, map}
use Prim.Native.Nat.{ℕ, zero, suc}
use Rattle.wire.specs.declared.Header.{Header}
use Rattle.wire.specs.Message.{header}
use Rattle.wire.specs.Frame.{Frame, frame_of}
use Rattle.model.specs.MessageTypes.{FatalError}
use Rattle.model.specs.Lists.{keep}
use Rattle.model.specs.State.{Server, Entry, slot_of_number, Exchange, at, exchange_at, fresh, Making, sensing_at}
use Rattle.model.specs.Interface.{Event, Event.opening, Event.delivery, Event.cut, Event.clock, Event.answer, Event.status, Event.setting}
use Rattle.model.specs.Scan.{Scan, Scan.empty, Scan.few, Scan.wrong, Scan.skipping, Scan.long, Scan.part, Scan.whole}
use Rattle.model.specs.Place.{Role, Role.r_none, Role.r_half_open, Role.r_synchronous, Role.r_asynchronous}
use Rattle.model.specs.Locks.{Answer, change, grant_pass}
use Rattle.model.specs.Checks.{Verdict, Verdict.v_more, Verdict.v_skipped, Verdict.v_held, Verdict.v_ignored, Verdict.v_closed, Verdict.v_acts, Verdict.v_error, Verdict.v_fatal}
use Rattle.model.specs.Exchange.{out_of_turn, answer_number}
use Rattle.model.specs.Acts
use Rattle.model.specs.Refusals.{refusal}
use Rattle.model.specs.Step.{answer_type, withholds, effect, received, plan, answered, finish, step, final, log, lock_frame, channels}
use Rattle.model.specs.LockModel.{Model, Told, model_step, model_run, fresh_model}
use Rattle.model.specs.Agreement.{feed, feeds, Agrees, told_frame, is_lock, lock_sent, Agreement}
use Rattle.model.specs.Sensing.{requested, trips_first}
use Rattle.claims.proofs.Invariant.{Inv}
use Rattle.claims.proofs.Events.{change_sound, always_settled, inv_fresh}
use Rattle.claims.proofs.Fits.{plan_fit, inv_call}
use Rattle.claims.proofs.Simulation.{told_of}
use Rattle.claims.proofs.Looking.{AlikeAll, sim_look}
use Rattle.claims.proofs.ReadOff.{plan_core}

-- what a call says directly is never of type 5
fatal_no : (n : ℕ) (cs : List ℕ) → keep is_lock (map (λ x. frame_of x FatalError n 0 []) cs) ≡ []
fatal_no n [] = refl
fatal_no n (c ∷ cs) = fatal_no n cs

opens_no : (b : Bool) (d : Server) (c : ℕ) (h : Header) → keep is_lock (Acts.opens b d c h).said ≡ []
opens_no true d c h = refl
opens_no false d c h = refl

sync_no : (k : Acts.SynchronousKind) (c : ℕ) (h : Header) → keep is_lock (Acts.synchronous_said k c h) ≡ []
unfolding Acts.synchronous_said
sync_no Acts.k_data c h = refl
sync_no Acts.k_data_end c h = refl
sync_no Acts.k_trigger c h = refl
sync_no Acts.k_clear_complete c h = refl

async_no : (k : Acts.AsynchronousKind) (d : Server) (i c : ℕ) (h : Header) → keep is_lock (Acts.asynchronous_said k d i c h) ≡ []
unfolding Acts.asynchronous_said
async_no Acts.k_lock d i c h = refl
async_no Acts.k_remote_local d i c h = refl
async_no Acts.k_maximum_size d i c h = refl
async_no Acts.k_device_clear d i c h = refl
async_no Acts.k_status_query d i c h = refl
async_no Acts.k_lock_info d i c h = refl

acts_no : (r : Role) (d : Server) (i c : ℕ) (h : Header) (p : List ℕ) → keep is_lock (Acts.acts r d i c h p).said ≡ []
unfolding Acts.acts
acts_no r_none d i c h p = opens_no (lib.Dec.eqb h.kind 0) d c h
acts_no r_half_open d i c h p = refl
acts_no r_synchronous d i c h p = sync_no (Acts.synchronous_kind h.kind) c h
acts_no r_asynchronous d i c h p = async_no (Acts.asynchronous_kind h.kind) d i c h

effect_no : (v : Verdict) (s : Scan) (r : Role) (d : Server) (i c : ℕ) → keep is_lock (effect v s r d i c).said ≡ []
unfolding effect
effect_no v_more s r d i c = refl
effect_no v_held s r d i c = refl
effect_no v_skipped s r d i c = refl
effect_no v_ignored s r d i c = refl
effect_no (v_error n) s r d i c = refl
effect_no (v_fatal n) s r d i c = fatal_no n (channels d c)
effect_no v_closed s r d i c = refl
effect_no v_acts empty r d i c = refl
effect_no v_acts few r d i c = refl
effect_no v_acts wrong r d i c = refl
effect_no v_acts (skipping k) r d i c = refl
effect_no v_acts (long h) r d i c = refl
effect_no v_acts (part h) r d i c = refl
effect_no v_acts (whole h p) r d i c = acts_no r d i c h p

-- nor is a request for service
request_no : (t : Bool) (e : Entry) (b : ℕ) → keep is_lock (requested t e b) ≡ []
unfolding requested
request_no true e b = refl
request_no false e b = refl

plan_no : (d : Server) (e : Event) → keep is_lock (plan d e).said ≡ []
unfolding plan received
plan_no d (opening c) = refl
plan_no d (delivery c bs room) = effect_no _ _ _ d _ c
plan_no d (cut c room) = refl
plan_no d (clock t room) = refl
plan_no d (answer n p end sh room) =
    let i = slot_of_number d.locks.entries n in
    go (withholds d n end sh) end (at d.locks.entries i) (header sh).param (answer_number (exchange_at d.rest i)) _
    (request_no (trips_first p (sensing_at d.rest i)) (at d.locks.entries i) d.rest.status)
  where
    go : (w end : Bool) (e : Entry) (x k : ℕ) (fs : List Frame) → keep is_lock fs ≡ [] → keep is_lock (cond w (Acts.interruptions e x) (frame_of e.synchronous (answer_type end) 0 k p ∷ fs)) ≡ []
    go true end e x k fs n = refl
    go false true e x k fs n = n
    go false false e x k fs n = n
plan_no d (status b) = refl
plan_no d (setting s) = refl

-- nor is what it says first
first_no : (w : Bool) (e : Entry) (n : ℕ) → keep is_lock (cond w (Acts.interruptions e n) []) ≡ []
first_no true e n = refl
first_no false e n = refl

sync_first_no : (k : Acts.SynchronousKind) (e : Entry) (x : Exchange) (h : Header) → keep is_lock (Acts.synchronous_first k e x h) ≡ []
sync_first_no Acts.k_data e x h = first_no (out_of_turn h.code x) e h.param
sync_first_no Acts.k_data_end e x h = first_no (out_of_turn h.code x) e h.param
sync_first_no Acts.k_trigger e x h = first_no (out_of_turn h.code x) e h.param
sync_first_no Acts.k_clear_complete e x h = refl

opens_first_no : (b : Bool) (d : Server) (c : ℕ) (h : Header) → keep is_lock (Acts.opens b d c h).first ≡ []
opens_first_no true d c h = refl
opens_first_no false d c h = refl

acts_first_no : (r : Role) (d : Server) (i c : ℕ) (h : Header) (p : List ℕ) → keep is_lock (Acts.acts r d i c h p).first ≡ []
unfolding Acts.acts
acts_first_no r_none d i c h p = opens_first_no (lib.Dec.eqb h.kind 0) d c h
acts_first_no r_half_open d i c h p = refl
acts_first_no r_synchronous d i c h p = sync_first_no (Acts.synchronous_kind h.kind) (at d.locks.entries i) (exchange_at d.rest i) h
acts_first_no r_asynchronous d i c h p = refl

effect_first_no : (v : Verdict) (s : Scan) (r : Role) (d : Server) (i c : ℕ) → keep is_lock (effect v s r d i c).first ≡ []
unfolding effect
effect_first_no v_more s r d i c = refl
effect_first_no v_held s r d i c = refl
effect_first_no v_skipped s r d i c = refl
effect_first_no v_ignored s r d i c = refl
effect_first_no (v_error n) s r d i c = refl
effect_first_no (v_fatal n) s r d i c = refl
effect_first_no v_closed s r d i c = refl
effect_first_no v_acts empty r d i c = refl
effect_first_no v_acts few r d i c = refl
effect_first_no v_acts wrong r d i c = refl
effect_first_no v_acts (skipping k) r d i c = refl
effect_first_no v_acts (long h) r d i c = refl
effect_first_no v_acts (part h) r d i c = refl
effect_first_no v_acts (whole h p) r d i c = acts_first_no r d i c h p

plan_first_no : (d : Server) (e : Event) → keep is_lock (plan d e).first ≡ []
unfolding plan received
plan_first_no d (opening c) = refl
plan_first_no d (delivery c bs room) = effect_first_no _ _ _ d _ c
plan_first_no d (cut c room) = refl
plan_first_no d (clock t room) = refl
plan_first_no d (answer n p end sh room) = refl
plan_first_no d (status b) = refl
plan_first_no d (setting s) = refl

pub keep_append : (xs ys : List Frame) → keep is_lock (xs ++ ys) ≡ keep is_lock xs ++ keep is_lock ys
keep_append [] ys = refl
keep_append (x ∷ xs) ys = go (is_lock x) (keep_append xs ys)
  where
    go : (b : Bool) → keep is_lock (xs ++ ys) ≡ keep is_lock xs ++ keep is_lock ys
        → cond b (x ∷ keep is_lock (xs ++ ys)) (keep is_lock (xs ++ ys)) ≡ cond b (x ∷ keep is_lock xs) (keep is_lock xs) ++ keep is_lock ys
    go true e = ap (λ l. x ∷ l) e
    go false e = e

pub keep_locks : (xs : List Answer) → keep is_lock (map lock_frame xs) ≡ map lock_frame xs
keep_locks [] = refl
keep_locks (x ∷ xs) = ap (λ l. lock_frame x ∷ l) (keep_locks xs)

-- of all that a call sends, the lock answers are those of its event and those of its pass
pub frames_locks : (d : Server) (e : Event) (xs ys : List Answer)
    → keep is_lock ((plan d e).first ++ (map lock_frame xs ++ ((plan d e).said ++ map lock_frame ys))) ≡ map lock_frame xs ++ map lock_frame ys
frames_locks d e xs ys =
    keep_append (plan d e).first _
    ∙ ap₂ ◌++◌ (plan_first_no d e) (keep_append (map lock_frame xs) _ ∙ ap₂ ◌++◌ (keep_locks xs) (keep_append (plan d e).said (map lock_frame ys) ∙ ap₂ ◌++◌ (plan_no d e) (keep_locks ys)))

told_locks : (xs : List Answer) → map told_frame (map told_of xs) ≡ map lock_frame xs
told_locks [] = refl
told_locks (x ∷ xs) = ap (λ l. lock_frame x ∷ l) (told_locks xs)

pub frames_append : (xs ys : List Answer) → map lock_frame (xs ++ ys) ≡ map lock_frame xs ++ map lock_frame ys
frames_append [] ys = refl
frames_append (x ∷ xs) ys = ap (λ l. lock_frame x ∷ l) (frames_append xs ys)

pub told_append : (xs ys : List Told) → map told_frame (xs ++ ys) ≡ map told_frame xs ++ map told_frame ys
told_append [] ys = refl
told_append (x ∷ xs) ys = ap (λ l. told_frame x ∷ l) (told_append xs ys)

-- one call that is not refused, event and pass
pub call_core : (d : Server) (m : Model) (e : Event) → Agrees d.locks m → Inv d.locks → refusal d e ≡ 0
    → AlikeAll (change d.locks (plan d e).event) (model_step m (feed e (plan d e).reply))
call_core d m e a i z =
    let c = plan_core d m a i e z in
    rw c.is (sim_look (change d.locks (plan d e).event) c.out c.alike (change_sound d.locks i.sound.good i.sound.firm (plan d e).event (plan_fit d e i z)))

-- one call
pub call_locks : (d : Server) (m : Model) (e : Event) → Agrees d.locks m → Inv d.locks → Agrees (step d e).server.locks (model_step m (feed e (step d e).reply)).model
unfolding step answered finish model_step
call_locks d m e a i = go (refusal d e) refl
  where
    go : (n : ℕ) → refusal d e ≡ n → Agrees (answered n d e).server.locks (model_step m (feed e (answered n d e).reply)).model
    go zero z = rw (always_settled d.locks i (plan d e).event (plan_fit d e i z)) (call_core d m e a i z).agrees
    go (suc n) z = a

pub call_answers : (d : Server) (m : Model) (e : Event) → Agrees d.locks m → Inv d.locks
    → map told_frame (model_step m (feed e (step d e).reply)).told ≡ keep is_lock (step d e).frames
unfolding step answered finish model_step
call_answers d m e a i = go (refusal d e) refl
  where
    go : (n : ℕ) → refusal d e ≡ n → map told_frame (model_step m (feed e (answered n d e).reply)).told ≡ keep is_lock (answered n d e).frames
    go zero z =
        let x = change d.locks (plan d e).event in
        let y = grant_pass x.locks in
        rw (always_settled d.locks i (plan d e).event (plan_fit d e i z))
        (ap (map told_frame) (call_core d m e a i z).told ∙ told_locks (x.answers ++ y.answers) ∙ frames_append x.answers y.answers
        ∙ sym (frames_locks d e x.answers y.answers))
    go (suc n) z = refl

-- the whole list
pub agrees : (es : List Event) (d : Server) (m : Model) → Agrees d.locks m → Inv d.locks → Agreement d m es
unfolding final log model_run lock_sent
agrees [] d m a i = record { locks = a; answers = refl }
agrees (e ∷ es) d m a i =
    let x = model_step m (feed e (step d e).reply) in
    let ih = agrees es (step d e).server x.model (call_locks d m e a i) (inv_call d e i) in
    record {
      locks = ih.locks;
      answers = told_append x.told (model_run x.model (feeds (log (step d e).server es))).told ∙ ap₂ ◌++◌ (call_answers d m e a i) ih.answers;
    }

pub fresh_agrees : (v : Making) → Agrees (fresh v).locks fresh_model
fresh_agrees v = record { clock = refl; waiting = refl; sessions = λ p. refl }

pub agreement : (v : Making) (es : List Event) → Agreement (fresh v) fresh_model es
agreement v es = agrees es (fresh v) fresh_model (fresh_agrees v) inv_fresh

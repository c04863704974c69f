-- F, proved, from call to call and over any list from the fresh server.
use mathlib.Core.Path.{subst, ◌≡◌, refl, sym, ap, ◌∙◌}
use mathlib.Core.Bool.{Bool, true, false, cond, false≢true}
use mathlib.Core.List.{List, [], ◌∷◌, ◌++◌, append-nil}
use Prim.Native.Nat.{ℕ, zero, suc, ◌<◌}
use native.Mathlib.Omega.{arith}
use lib.Dec.{eqb}
use lib.ListN.{get_or, set, length, length-set}
use Rattle.wire.specs.declared.Header.{Header}
use Rattle.wire.specs.Message.{header}
use Rattle.wire.specs.Frame.{Frame, frame_of}
use Rattle.wire.specs.Class.{synchronous, asynchronous}
use Rattle.model.specs.Sizes.{no_connection, session_limit}
use Rattle.model.specs.State.{open_exchange, Entry, at, live, slot_of_number, Server, Rest, Exchange, exchange_at, fresh_exchange, connection_at}
use Rattle.model.specs.State.{with_exchange, with_session, fresh, Making, sensing_at, with_sensings}
use Rattle.model.specs.Interface.{Event, Event.opening, Event.delivery, Event.cut, Event.clock, Event.answer, Event.status, Event.setting, Reply}
use Rattle.model.specs.Scan.{Scan, Scan.empty, Scan.few, Scan.wrong, Scan.skipping, Scan.long, Scan.part, Scan.whole, scan}
use Rattle.model.specs.Place.{slot_of, Role, Role.r_none, Role.r_half_open, Role.r_synchronous, Role.r_asynchronous, role_of}
use Rattle.model.specs.Locks.{LockEvent, change}
use Rattle.model.specs.Exchange.{interrupted, answered_with, may_answer, answer_number}
use Rattle.model.specs.Checks
use Rattle.model.specs.Checks.{Verdict, Verdict.v_more, Verdict.v_skipped, Verdict.v_held, Verdict.v_ignored, Verdict.v_closed, Verdict.v_acts}
use Rattle.model.specs.Checks.{Verdict.v_error, Verdict.v_fatal, verdict, judged, either}
use Rattle.model.specs.Acts
use Rattle.model.specs.Acts.{Plan}
use Rattle.model.specs.Refusals.{causes, refusal}
use Rattle.model.specs.Step.{counted, answer_type, withholds, effect, received, plan, answered, finish, step, final, log, closing}
use Rattle.model.specs.Tie.{Track, nothing_yet, follows, track, answered_track, withheld_track, track_of_log, said, Tie}
use Rattle.model.specs.Sensing.{service_after, sensed}
use Rattle.model.proofs.Basics.{not_off, inside}
use Rattle.claims.proofs.Scanning.{whole_scan}
use Rattle.model.proofs.Place.{sync_live, async_live}
use Rattle.claims.proofs.Classes.{acted_class}
use Rattle.claims.proofs.Exchange.{may_answer_lem, answer_counts}
use Rattle.claims.proofs.Invariant.{Inv}
use Rattle.claims.proofs.Events.{Enters, inv_fresh, blank_at}
use Rattle.claims.proofs.Fits.{Passes, uncaused, opening_passed, sync_passed, async_passed, opens_fit, real_delivery, inv_call}
use Rattle.claims.proofs.Numbers.{live_found}
use Rattle.claims.proofs.Tying.{track_of, Tied, ends, Calm, calm_num, touch, rest_same, extra_here, extra_there, drop_tied, enter_tied, sync_pending}
use Rattle.claims.proofs.Tying.{sync_extra, sync_follows, async_pending, async_follows, async_here, async_there, async_size}

lock_calm : (b : Bool) (i : ℕ) (h : Header) (p : List ℕ) → Calm (Acts.lock_event b i h p)
lock_calm true i h p = tt
lock_calm false i h p = tt

async_calm : (k : Acts.AsynchronousKind) (i : ℕ) (h : Header) (p : List ℕ) → Calm (Acts.asynchronous_event k i h p)
unfolding Acts.asynchronous_event
async_calm Acts.k_lock i h p = lock_calm (eqb h.code 0) i h p
async_calm Acts.k_remote_local i h p = tt
async_calm Acts.k_maximum_size i h p = tt
async_calm Acts.k_device_clear i h p = tt
async_calm Acts.k_status_query i h p = tt
async_calm Acts.k_lock_info i h p = tt

sync_calm : (k : Acts.SynchronousKind) (i : ℕ) (h : Header) → Calm (Acts.synchronous_event k i h)
sync_calm Acts.k_data i h = tt
sync_calm Acts.k_data_end i h = tt
sync_calm Acts.k_trigger i h = tt
sync_calm Acts.k_clear_complete i h = tt

-- a store that changes nothing that is tracked
untracked : (xs : List Exchange) (i : ℕ) (y : Exchange) → track_of y ≡ track_of (get_or xs i fresh_exchange) → (j : ℕ) → track_of (get_or (set xs i y) j fresh_exchange) ≡ track_of (get_or xs j fresh_exchange)
untracked [] i y e j = refl
untracked (x ∷ xs) zero y e zero = e
untracked (x ∷ xs) zero y e (suc j) = refl
untracked (x ∷ xs) (suc i) y e zero = refl
untracked (x ∷ xs) (suc i) y e (suc j) = untracked xs i y e j

-- after a plan
pub record After (d : Server) (p : Plan) (f : ℕ → Track) : Type 0 where
  pub tied : Tied (ends d.locks p.event) p.rest f
  pub sized : length p.rest.exchanges ≡ session_limit

module _ (d : Server) (f : ℕ → Track) (i : Inv d.locks) (z : length d.rest.exchanges ≡ session_limit) (t : Tied d.locks.entries d.rest f) where
  -- a call that touches no extras and enters or removes no session
  still : (r : Rest) (reply : Reply) (e : LockEvent) (f' : ℕ → Track) → Calm e → r.exchanges ≡ d.rest.exchanges → ((n : ℕ) → f' n ≡ f n) →
      (said : List _) {fs : List _} → After d record { reply = reply; rest = r; first = fs; said = said; event = e } f'
  still r reply e f' c x g said =
      record {
        tied = rest_same d.locks.entries (ends d.locks e) d.rest r f f' (calm_num d.locks e c) (λ j. ap (λ (l : List Exchange). track_of (lib.ListN.get_or l j fresh_exchange)) x) g t;
        sized = ap length x ∙ z;
      }

  within : (j : ℕ) → live (at d.locks.entries j) ≡ true → j < length d.rest.exchanges
  within j v = omega (arith, inside live d.locks.entries j refl v, i.sound.firm.slots)

  -- a message that acted: its number's track is what its type says
  module _ (c : ℕ) (real : c ≡ no_connection → ⊥) (bs : List ℕ) (room : ℕ) (h : Header) (p : List ℕ) (eh : header bs ≡ h) where
    abbrev Tracked : Plan → Type 0
    Tracked x = After d x (λ n. track d.rest.made.prefers_overlap (delivery c bs room) x.reply n (f n))

    heads : (m n : ℕ) → cond (eqb m n) (follows d.rest.made.prefers_overlap (header bs).kind (header bs).code (header bs).param (f n)) (f n) ≡ cond
        (eqb m n) (follows d.rest.made.prefers_overlap h.kind h.code h.param (f n)) (f n)
    heads m n = ap (λ (x : Header). cond (eqb m n) (follows d.rest.made.prefers_overlap x.kind x.code x.param (f n)) (f n)) eh

    opens_tied : (b : Bool) → eqb h.kind 0 ≡ b → role_of d.locks.entries c ≡ r_none → Passes (Checks.opening_rules d h p) → Tracked (Acts.opens b d c h)
    opens_tied true t0 e q =
        let x : Enters d.locks.entries (slot_of_number d.locks.entries 0) _ c = opens_fit d c h p true t0 real i e q in
        let k = slot_of_number d.locks.entries 0 in
        let n = Rattle.model.specs.Locks.issued session_limit 0 d.locks.entries d.rest.last_issued in
        let l : k < length d.rest.exchanges = omega (arith, x.within, i.sound.firm.slots) in
        record {
          tied =
              enter_tied d.locks k n c d.rest (with_session d.rest k n) f _ (nothing_yet d.rest.made.prefers_overlap) x
              (ap track_of (extra_here d.rest k (open_exchange d.rest.made.prefers_overlap) l))
              (λ j g. extra_there d.rest k (open_exchange d.rest.made.prefers_overlap) j g)
              (λ m. heads n m ∙ ap (λ (b : ℕ). cond (eqb n m) (follows d.rest.made.prefers_overlap b h.code h.param (f m)) (f m))
              (borrow.Author.Tests.eqb-true h.kind 0 t0)) t;
          sized = length-set d.rest.exchanges k (open_exchange d.rest.made.prefers_overlap) ∙ z;
        }
    opens_tied false t0 e q =
        let t17 : eqb h.kind 17 ≡ true = rw t0 at (not_off (either 0 17 h.kind) q.0) in
        still d.rest _ _ _ tt refl (λ n. heads h.param n
        ∙ ap (λ (b : ℕ). cond (eqb h.param n) (follows d.rest.made.prefers_overlap b h.code h.param (f n)) (f n))
        (borrow.Author.Tests.eqb-true h.kind 17 t17) ∙ both_same (eqb h.param n) (f n)) _
      where
        both_same : (b : Bool) (x : Track) → cond b x x ≡ x
        both_same true x = refl
        both_same false x = refl

    acts_tied : (r : Role) → role_of d.locks.entries c ≡ r → judged r d (slot_of d c) h p ≡ v_acts → Tracked (Acts.acts r d (slot_of d c) c h p)
    unfolding Acts.acts
    acts_tied r_none e q = opens_tied (eqb h.kind 0) refl e (opening_passed d h p q)
    acts_tied r_half_open e q = absurd (let y : ◌≡◌ {A = ℕ} 0 1 = cc in omega arith)
    acts_tied r_synchronous e q =
        let g = sync_passed d (slot_of d c) h p q in
        let k = slot_of d c in
        let v = sync_live d.locks.entries c e in
        let s = Acts.synchronous_kind h.kind in
        let x = Acts.synchronous_exchange s h (exchange_at d.rest k) in
        record {
          tied =
              touch d.locks.entries (ends d.locks (Acts.synchronous_event s k h)) d.rest (with_exchange d.rest k x) f _ k
              (sync_pending s h.code h.param) i.sound.firm v (calm_num d.locks (Acts.synchronous_event s k h) (sync_calm s k h))
              (ap track_of (extra_here d.rest k x (within k v)) ∙ sync_extra s h (exchange_at d.rest k))
              (λ j n. ap track_of (extra_there d.rest k x j n))
              (λ n. heads (at d.locks.entries k).number n ∙ ap (λ (y : Track). cond (eqb (at d.locks.entries k).number n) y (f n))
              (sync_follows d.rest.made.prefers_overlap h.code h.param (f n) h.kind
              (acted_class synchronous h.kind g.1.1.1.0 g.1.1.1.1.0) g.0 g.1.0 g.1.1.1.1.1.0))
              t;
          sized = length-set d.rest.exchanges k x ∙ z;
        }
    acts_tied r_asynchronous e q =
        let g = async_passed h p q in
        let k = slot_of d c in
        let v = async_live d.locks.entries c e in
        let s = Acts.asynchronous_kind h.kind in
        record {
          tied =
              touch d.locks.entries (ends d.locks (Acts.asynchronous_event s k h p)) d.rest (Acts.asynchronous_rest s d.rest k h p) f _ k
              (async_pending s h.code) i.sound.firm v (calm_num d.locks (Acts.asynchronous_event s k h p) (async_calm s k h p))
              (async_here s d.rest k h p (within k v))
              (λ j n. ap track_of (async_there s d.rest k h p j n))
              (λ n. heads (at d.locks.entries k).number n ∙ ap (λ (y : Track). cond (eqb (at d.locks.entries k).number n) y (f n))
              (async_follows d.rest.made.prefers_overlap h.code h.param (f n) h.kind
              (acted_class asynchronous h.kind g.1.1.0 g.1.1.1.0) g.1.1.1.1.0))
              t;
          sized = async_size s d.rest k h p ∙ z;
        }

  closes : (c : ℕ) (reply : Reply) (said : List _) {fs : List _} (f' : ℕ → Track) → ((n : ℕ) → f' n ≡ f n) → After d record {
    reply = reply;
    rest = closing d c;
    first = fs;
    said = said;
    event = LockEvent.close (slot_of d c);
  } f'
  closes c reply said f' g =
      record {
        tied = drop_tied d.locks (slot_of d c) d.rest (closing d c) f f' (λ j n. extra_there d.rest (slot_of d c) fresh_exchange j n) g t;
        sized = length-set d.rest.exchanges (slot_of d c) fresh_exchange ∙ z;
      }

  effect_tied : (c : ℕ) (bs : List ℕ) (room k : ℕ) → (c ≡ no_connection → ⊥) → (v : Verdict) (s : Scan) (r : Role) → scan k bs ≡ s → role_of d.locks.entries c ≡ r → verdict r d (slot_of d c) s ≡ v
      → After d (effect v s r d (slot_of d c) c) (λ n. track d.rest.made.prefers_overlap (delivery c bs room) (effect v s r d (slot_of d c) c).reply n (f n))
  unfolding effect verdict
  effect_tied c bs room k n v_more s r es er ev = still d.rest _ _ _ tt refl (λ m. refl) []
  effect_tied c bs room k n v_held s r es er ev = still d.rest _ _ _ tt refl (λ m. refl) []
  effect_tied c bs room k n v_skipped s r es er ev = still _ _ _ _ tt refl (λ m. refl) _
  effect_tied c bs room k n v_ignored s r es er ev = still d.rest _ _ _ tt refl (λ m. refl) []
  effect_tied c bs room k n (v_error x) s r es er ev =
      -- the number expected is not tracked
      let y = counted r s (exchange_at d.rest (slot_of d c)) in
      record {
        tied = rest_same d.locks.entries (ends d.locks LockEvent.nothing) d.rest (with_exchange d.rest (slot_of d c) y) f _
            (calm_num d.locks LockEvent.nothing tt) (untracked d.rest.exchanges (slot_of d c) y refl) (λ m. refl) t;
        sized = length-set d.rest.exchanges (slot_of d c) y ∙ z;
      }
  effect_tied c bs room k n (v_fatal x) s r es er ev = closes c _ _ _ (λ m. refl)
  effect_tied c bs room k n v_closed s r es er ev = closes c _ _ _ (λ m. refl)
  effect_tied c bs room k n v_acts empty r es er ev = still d.rest _ _ _ tt refl (λ m. refl) []
  effect_tied c bs room k n v_acts few r es er ev = still d.rest _ _ _ tt refl (λ m. refl) []
  effect_tied c bs room k n v_acts wrong r es er ev = still d.rest _ _ _ tt refl (λ m. refl) []
  effect_tied c bs room k n v_acts (skipping x) r es er ev = still d.rest _ _ _ tt refl (λ m. refl) []
  effect_tied c bs room k n v_acts (long x) r es er ev = still d.rest _ _ _ tt refl (λ m. refl) []
  effect_tied c bs room k n v_acts (part x) r es er ev = still d.rest _ _ _ tt refl (λ m. refl) []
  effect_tied c bs room k n v_acts (whole h p) r es er ev = acts_tied c n bs room h p (whole_scan k bs h p es).0 r er ev

  -- an answer to session n that is not refused
  answering : (n : ℕ) (x : List ℕ) (end : Bool) (sh : List ℕ) (room : ℕ) → refusal d (answer n x end sh room) ≡ 0 → live (at d.locks.entries (slot_of_number d.locks.entries n)) ≡ true
  unfolding refusal causes
  answering n x end sh room q = not_off _ (uncaused (causes d (answer n x end sh room)) refl q).1.0

  plan_tied : (e : Event) → refusal d e ≡ 0 → After d (plan d e) (λ n. track d.rest.made.prefers_overlap e (plan d e).reply n (f n))
  unfolding plan received
  plan_tied (opening c) q = still _ _ _ _ tt refl (λ m. refl) []
  plan_tied (delivery c bs room) q = effect_tied c bs room (connection_at d.rest c).remainder (real_delivery d c bs room q) _
      (scan (connection_at d.rest c).remainder bs) (role_of d.locks.entries c) refl refl refl
  plan_tied (cut c room) q = closes c _ _ _ (λ m. refl)
  plan_tied (clock y room) q = still d.rest _ _ _ tt refl (λ m. refl) []
  plan_tied (status b) q = still _ _ _ _ tt refl (λ m. refl) []
  plan_tied (setting s) q = still _ _ _ _ tt refl (λ m. refl) []
  plan_tied (answer n x end sh room) q = go (withholds d n end sh) _
    where
      k : ℕ
      k = slot_of_number d.locks.entries n

      v : live (at d.locks.entries k) ≡ true
      v = answering n x end sh room q

      answers_tied : (y : Exchange) (g : Track → Track) → track_of y ≡ g (track_of (exchange_at d.rest k)) →
          Tied (ends d.locks LockEvent.nothing) (with_exchange d.rest k y) (λ m. cond (eqb n m) (g (f m)) (f m))
      answers_tied y g e =
          touch d.locks.entries (ends d.locks LockEvent.nothing) d.rest (with_exchange d.rest k y) f _ k g i.sound.firm v (calm_num d.locks LockEvent.nothing tt)
          (ap track_of (extra_here d.rest k y (within k v)) ∙ e)
          (λ j h. ap track_of (extra_there d.rest k y j h))
          (λ m. ap (λ (w : ℕ). cond (eqb w m) (g (f m)) (f m)) (sym (live_found d.locks.entries n v)))
          t

      go : (w : Bool) (fs : List Frame) → After d record {
        reply = cond w Reply.withheld Reply.done;
        rest = with_sensings (with_exchange d.rest k (cond w (interrupted (exchange_at d.rest k)) (answered_with end (exchange_at d.rest k))))
            (cond w d.rest.sensings (set d.rest.sensings k (sensed x (sensing_at d.rest k))));
        first = [];
        said = fs;
        event = LockEvent.nothing;
      }
          (λ m. track d.rest.made.prefers_overlap (answer n x end sh room) (cond w Reply.withheld Reply.done) m (f m))
      go true fs = record { tied = answers_tied (interrupted (exchange_at d.rest k)) withheld_track refl; sized = length-set d.rest.exchanges k _ ∙ z }
      go false fs = record { tied = answers_tied (answered_with end (exchange_at d.rest k)) (answered_track end) refl; sized = length-set d.rest.exchanges k _ ∙ z }

-- how the server was made stays
opens_made : (b : Bool) (d : Server) (c : ℕ) (h : Header) → (Acts.opens b d c h).rest.made ≡ d.rest.made
opens_made true d c h = refl
opens_made false d c h = refl

async_made : (k : Acts.AsynchronousKind) (r : Rest) (i : ℕ) (h : Header) (p : List ℕ) → (Acts.asynchronous_rest k r i h p).made ≡ r.made
unfolding Acts.asynchronous_rest
async_made Acts.k_lock r i h p = refl
async_made Acts.k_remote_local r i h p = refl
async_made Acts.k_maximum_size r i h p = refl
async_made Acts.k_device_clear r i h p = refl
async_made Acts.k_status_query r i h p = refl
async_made Acts.k_lock_info r i h p = refl

acts_made : (r : Role) (d : Server) (i c : ℕ) (h : Header) (p : List ℕ) → (Acts.acts r d i c h p).rest.made ≡ d.rest.made
unfolding Acts.acts
acts_made r_none d i c h p = opens_made (eqb h.kind 0) d c h
acts_made r_half_open d i c h p = refl
acts_made r_synchronous d i c h p = refl
acts_made r_asynchronous d i c h p = async_made (Acts.asynchronous_kind h.kind) d.rest i h p

effect_made : (v : Verdict) (s : Scan) (r : Role) (d : Server) (i c : ℕ) → (effect v s r d i c).rest.made ≡ d.rest.made
unfolding effect
effect_made v_more s r d i c = refl
effect_made v_held s r d i c = refl
effect_made v_skipped s r d i c = refl
effect_made v_ignored s r d i c = refl
effect_made (v_error n) s r d i c = refl
effect_made (v_fatal n) s r d i c = refl
effect_made v_closed s r d i c = refl
effect_made v_acts empty r d i c = refl
effect_made v_acts few r d i c = refl
effect_made v_acts wrong r d i c = refl
effect_made v_acts (skipping k) r d i c = refl
effect_made v_acts (long h) r d i c = refl
effect_made v_acts (part h) r d i c = refl
effect_made v_acts (whole h p) r d i c = acts_made r d i c h p

plan_made : (d : Server) (e : Event) → (plan d e).rest.made ≡ d.rest.made
unfolding plan received
plan_made d (opening c) = refl
plan_made d (delivery c bs room) = effect_made _ _ _ d _ c
plan_made d (cut c room) = refl
plan_made d (clock t room) = refl
plan_made d (answer n p end sh room) = refl
plan_made d (status b) = refl
plan_made d (setting s) = refl

-- a call, a list, from a server that prefers mode b
pub record Ties (b : Bool) (d : Server) (f : ℕ → Track) : Type 0 where
  pub inv : Inv d.locks
  pub sized : length d.rest.exchanges ≡ session_limit
  pub prefers : d.rest.made.prefers_overlap ≡ b
  pub tied : Tied d.locks.entries d.rest f

call_ties : (b : Bool) (d : Server) (f : ℕ → Track) (e : Event) → Ties b d f → Ties b (step d e).server (λ n. track b e (step d e).reply n (f n))
unfolding step answered finish
call_ties b d f e t = go (refusal d e) refl
  where
    go : (k : ℕ) → refusal d e ≡ k → Ties b (answered k d e).server (λ n. track b e (answered k d e).reply n (f n))
    go zero q =
        let a = plan_tied d f t.inv t.sized t.tied e q in
        record {
          inv = ap-inv q;
          sized = a.sized;
          prefers = ap (λ (m : Making). m.prefers_overlap) (plan_made d e) ∙ t.prefers;
          tied = subst (λ w. Tied (finish d (plan d e)).server.locks.entries (plan d e).rest (λ n. track w e (plan d e).reply n (f n))) t.prefers a.tied;
        }
      where
        ap-inv : refusal d e ≡ 0 → Inv (finish d (plan d e)).server.locks
        ap-inv q = subst (λ k. Inv (answered k d e).server.locks) q (inv_call d e t.inv)
    go (suc k) q = t

list_ties : (b : Bool) (es : List Event) (d : Server) (f : ℕ → Track) → Ties b d f → Ties b (final d es) (λ n. track_of_log b (log d es) n (f n))
unfolding final log track_of_log
list_ties b [] d f t = record { inv = t.inv; sized = t.sized; prefers = t.prefers; tied = t.tied }
list_ties b (e ∷ es) d f t = list_ties b es (step d e).server (λ n. track b e (step d e).reply n (f n)) (call_ties b d f e t)

fresh_ties : (v : Making) → Ties v.prefers_overlap (fresh v) (λ n. nothing_yet v.prefers_overlap)
fresh_ties v = record { inv = inv_fresh; sized = refl; prefers = refl; tied = λ j u. absurd (false≢true (rw (blank_at session_limit j) at u)) }

-- of a live session, after any list, the log tells the track
pub track_run : (v : Making) (es : List Event) (n : ℕ) → live (at (final (fresh v) es).locks.entries (slot_of_number (final (fresh v) es).locks.entries n)) ≡ true
    → track_of (exchange_at (final (fresh v) es).rest (slot_of_number (final (fresh v) es).locks.entries n)) ≡ said v es n
track_run v es n alive =
    let d = final (fresh v) es in
    (list_ties v.prefers_overlap es (fresh v) (λ n. nothing_yet v.prefers_overlap) (fresh_ties v)).tied (slot_of_number d.locks.entries n) alive
    ∙ ap (λ m. said v es m) (live_found d.locks.entries n alive)

-- every answer that is sent
pub tie : (v : Making) (es : List Event) (n : ℕ) (x : List ℕ) (end : Bool) (sh : List ℕ) (room : ℕ) →
    (step (final (fresh v) es) (answer n x end sh room)).reply ≡ Reply.done → Tie v es n x end sh room
unfolding step answered plan finish change refusal causes
tie v es n x end sh room r =
    record {
      number = answer_number y;
      asked = λ o. ap (λ (t : Track). t.asked) (sym track-is) ∙ may_answer_lem e y asks (ap (λ (t : Track). t.overlap) track-is ∙ o);
      counted = λ o. ap (λ (t : Track). t.count) (sym track-is) ∙ sym (answer_counts y (ap (λ (t : Track). t.overlap) track-is ∙ o));
      sent =
          ap (λ k. (answered k d (answer n x end sh room)).frames) q
          ∙ ap (λ (w : Bool). cond w (Acts.interruptions e (header sh).param)
          (frame_of e.synchronous (answer_type end) 0 (answer_number y) x ∷ service_after d n x) ++ [])
          (passed (withholds d n end sh) (ap (λ k. (answered k d (answer n x end sh room)).reply) (sym q) ∙ r))
          ∙ append-nil _;
    }
  where
    d : Server
    d = final (fresh v) es

    k : ℕ
    k = slot_of_number d.locks.entries n

    e : Entry
    e = at d.locks.entries k

    y : Exchange
    y = exchange_at d.rest k

    accepted : (k : ℕ) → (answered k d (answer n x end sh room)).reply ≡ Reply.done → k ≡ 0
    accepted zero h = refl
    accepted (suc k) h = absurd (let z : ◌≡◌ {A = ℕ} 0 1 = cc in omega arith)

    q : refusal d (answer n x end sh room) ≡ 0
    q = accepted (refusal d (answer n x end sh room)) r

    passed : (w : Bool) → cond w Reply.withheld Reply.done ≡ Reply.done → w ≡ false
    passed true h = absurd (let z : ◌≡◌ {A = ℕ} 0 1 = cc in omega arith)
    passed false h = refl

    causeless : Rattle.claims.proofs.Fits.NoCause (causes d (answer n x end sh room))
    causeless = uncaused (causes d (answer n x end sh room)) refl q

    alive : live (at d.locks.entries k) ≡ true
    alive = not_off _ causeless.1.0

    track-is : track_of y ≡ said v es n
    track-is = track_run v es n alive

    asks : may_answer e y ≡ true
    asks = not_off _ causeless.1.1.0

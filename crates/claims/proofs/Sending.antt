-- What each message that acted sends: by its type, which tells its channel.
use Rattle.wire.specs.MessageId.{next}
use mathlib.Core.Path.{◌≡◌, refl, sym, ap, ap₂, ◌∙◌}
use mathlib.Core.Bool.{Bool, true, false, not, ◌&&◌, cond, true≢false}
use mathlib.Core.List.{List, [], ◌∷◌, ◌++◌, map, append_assoc, append-nil}
use mathlib.Core.Logic.{◌⊎◌, inl, inr}
use Prim.Native.Nat.{ℕ}
use native.Mathlib.Omega.{arith}
use lib.Dec.{eqb}
use borrow.Author.Tests.{eqb-true}
use Rattle.wire.specs.declared.Header.{Header}
use Rattle.wire.specs.Field.{field}
use Rattle.wire.specs.Message.{header, payload_of}
use Rattle.wire.specs.Class.{one_of, class_of, synchronous, asynchronous}
use Rattle.wire.specs.Frame.{Frame, frame_of}
use Rattle.model.specs.Sizes.{before_first}
use Rattle.model.specs.MessageTypes.{AsyncDeviceClear, AsyncDeviceClearAcknowledge, commands}
use Rattle.model.specs.Lists.{all, any, keep}
use Rattle.model.specs.State.{Entry, Waiting, Kind.exclusive_lock, Kind.shared_lock, Standing, Standing.no_release, Standing.release_of, at, live, Server, fresh, Making, Exchange, exchange_at}
use Rattle.model.specs.Interface.{Event, Event.delivery, Outcome.acted, Reply.took}
use Rattle.model.specs.Place.{slot_of, entry_of, Role, Role.r_none, Role.r_half_open, Role.r_synchronous, Role.r_asynchronous, role_of}
use Rattle.model.specs.Locks
use Rattle.model.specs.Locks.{Answer, LockEvent, LockResult, elsewhere, refuse, tell, change, grant_pass, settle, frees}
use Rattle.model.specs.Exchange.{available_at, available_in, status_byte}
use Rattle.model.specs.Checks.{Verdict.v_acts, is_unrecognised, judged, either}
use Rattle.model.specs.Acts
use Rattle.model.specs.Step.{Result, finish, step, final, lock_frame}
use Rattle.model.specs.LockModel
use Rattle.model.specs.LockModel.{Model, ModelResult, ends_exclusive, ends_shared, second_connection}
use Rattle.model.specs.Agreement.{Agrees, as_pending, told_frame}
use Rattle.model.specs.Deciding.{lock_answer, model_after, ended_codes, grants_after}
use Rattle.model.specs.Sending.{available_told, interrupted_told, Sends, Sending}
use Rattle.model.proofs.Basics.{not_off}
use Rattle.claims.proofs.Invariant.{Inv, Good}
use Rattle.claims.proofs.Events.{Fit, change_sound, always_settled}
use Rattle.claims.proofs.Seen.{own_seen, channel_seen}
use Rattle.claims.proofs.Fits.{opening_passed, sync_passed, async_passed, inv_run}
use Rattle.claims.proofs.ReadOff.{each_of}
use Rattle.model.proofs.Place.{sync_live, async_live}
use Rattle.claims.proofs.Agreement.{frames_append, agreement}
use Rattle.claims.proofs.Simulation.{Alike, due_by, due_at_lem, due_any_lem, waits_seen, sim_command, sim_clear}
use Rattle.claims.proofs.Looking.{grants_seen}
use Rattle.claims.proofs.Deciding.{async_own, told_frames}
use Rattle.claims.proofs.Forms.{◌also◌}
use Rattle.claims.proofs.Permitted.{shows}

-- a type that one channel alone acts on
abbrev pub OnlyOn : ℕ → ℕ → Type 0
OnlyOn other t = (either 0 17 t ≡ false) × (is_unrecognised (class_of other t) ≡ true)

module _ (d : Server) (c : ℕ) (h : Header) (p : List ℕ) where
  sync_alone : (r : Role) → OnlyOn asynchronous h.kind → judged r d (slot_of d c) h p ≡ v_acts → r ≡ r_synchronous
  sync_alone r_none t q = absurd (true≢false (sym (not_off (either 0 17 h.kind) (opening_passed d h p q).0) ∙ t.0))
  sync_alone r_half_open t q = absurd (let y : ◌≡◌ {A = ℕ} 0 1 = cc in omega arith)
  sync_alone r_synchronous t q = refl
  sync_alone r_asynchronous t q = absurd (true≢false (sym t.1 ∙ (async_passed h p q).1.1.1.0))

  async_alone : (r : Role) → OnlyOn synchronous h.kind → judged r d (slot_of d c) h p ≡ v_acts → r ≡ r_asynchronous
  async_alone r_none t q = absurd (true≢false (sym (not_off (either 0 17 h.kind) (opening_passed d h p q).0) ∙ t.0))
  async_alone r_half_open t q = absurd (let y : ◌≡◌ {A = ℕ} 0 1 = cc in omega arith)
  async_alone r_synchronous t q = absurd (true≢false (sym t.1 ∙ (sync_passed d (slot_of d c) h p q).1.1.1.1.0))
  async_alone r_asynchronous t q = refl

-- a type that one channel alone acts on came on it
pub role_of_async : (d : Server) (c : ℕ) (bs : List ℕ) (room t k n : ℕ) → (step d (delivery c bs room)).reply ≡ took acted k n → (header bs).kind ≡ t →
    OnlyOn synchronous t → role_of d.locks.entries c ≡ r_asynchronous
role_of_async d c bs room t k n e q o = async_alone d c (header bs) (payload_of (header bs) bs) (role_of d.locks.entries c) (rw q o) (shows d c bs room k n e).passes

pub role_of_sync : (d : Server) (c : ℕ) (bs : List ℕ) (room t k n : ℕ) → (step d (delivery c bs room)).reply ≡ took acted k n → (header bs).kind ≡ t →
    OnlyOn asynchronous t → role_of d.locks.entries c ≡ r_synchronous
role_of_sync d c bs room t k n e q o = sync_alone d c (header bs) (payload_of (header bs) bs) (role_of d.locks.entries c) (rw q o) (shows d c bs room k n e).passes

-- at most one request of slot i waits
one_refused : (es : List Entry) (i : ℕ) (ws : List Waiting) → Good es ws → refuse es (elsewhere i) ws ≡ cond (all (elsewhere i) ws) [] (tell es i 0 true ∷ [])
one_refused es i [] g = refl
one_refused es i (w ∷ ws) g = go (elsewhere i w) refl (one_refused es i ws g.2)
  where
    go : (b : Bool) → elsewhere i w ≡ b → refuse es (elsewhere i) ws ≡ cond (all (elsewhere i) ws) [] (tell es i 0 true ∷ [])
        → cond b (refuse es (elsewhere i) ws) (tell es w.slot 0 true ∷ refuse es (elsewhere i) ws) ≡ cond (b && all (elsewhere i) ws) [] (tell es i 0 true ∷ [])
    go true e r = r
    go false e r =
        let here : w.slot ≡ i = eqb-true w.slot i (not_off _ e) in
        ap₂ (λ (j : ℕ) (xs : List Answer). tell es j 0 true ∷ xs) here (r ∙ ap (λ b. cond b [] (tell es i 0 true ∷ [])) (rw here at g.1))

module _ (d : Server) (m : Model) (a : Agrees d.locks m) (v : Inv d.locks) (c : ℕ) (bs : List ℕ) (room : ℕ) where
  abbrev R : Result
  R = step d (delivery c bs room)

  abbrev acts_as : Role → ℕ → List Frame
  acts_as r t = (finish d (Acts.acts r d (slot_of d c) c (record { kind = t; code = (header bs).code; param = (header bs).param; len = (header bs).len }) (payload_of (header bs) bs))).frames

  -- by role and type
  sent : (r : Role) (t k n : ℕ) → R.reply ≡ took acted k n → (header bs).kind ≡ t → role_of d.locks.entries c ≡ r → R.frames ≡ acts_as r t
  sent r t k n e q er =
      ap (λ (x : Result). x.frames) (shows d c bs room k n e).does ∙ ap (λ x. acts_as x (header bs).kind) er ∙ ap (acts_as r) q

  sync_role : (t k n : ℕ) → R.reply ≡ took acted k n → (header bs).kind ≡ t → OnlyOn asynchronous t → role_of d.locks.entries c ≡ r_synchronous
  sync_role t k n e q o = sync_alone d c (header bs) (payload_of (header bs) bs) (role_of d.locks.entries c) (rw q o) (shows d c bs room k n e).passes

  on_sync : (t k n : ℕ) → R.reply ≡ took acted k n → (header bs).kind ≡ t → OnlyOn asynchronous t → R.frames ≡ acts_as r_synchronous t
  on_sync t k n e q o = sent r_synchronous t k n e q (sync_role t k n e q o)

  async_role : (t k n : ℕ) → R.reply ≡ took acted k n → (header bs).kind ≡ t → OnlyOn synchronous t → role_of d.locks.entries c ≡ r_asynchronous
  async_role t k n e q o = async_alone d c (header bs) (payload_of (header bs) bs) (role_of d.locks.entries c) (rw q o) (shows d c bs room k n e).passes

  on_async : (t k n : ℕ) → R.reply ≡ took acted k n → (header bs).kind ≡ t → OnlyOn synchronous t → R.frames ≡ acts_as r_asynchronous t
  on_async t k n e q o = sent r_asynchronous t k n e q (async_role t k n e q o)

  -- the session's number in the reply
  by_session : (r : Role) (k n : ℕ) → R.reply ≡ took acted k n → role_of d.locks.entries c ≡ r → (r ≡ r_synchronous) ⊎ (r ≡ r_asynchronous) → (entry_of d c).number ≡ n
  unfolding finish Acts.acts
  by_session r k n e er w =
      let replied : (Acts.acts r d (slot_of d c) c (header bs) (payload_of (header bs) bs)).reply ≡ took acted k n =
      ap (λ x. (Acts.acts x d (slot_of d c) c (header bs) (payload_of (header bs) bs)).reply) (sym er) ∙ ap (λ (x : Result). x.reply) (sym (shows d c bs room k n e).does) ∙ e in
      go r w replied
    where
      go : (r : Role) → (r ≡ r_synchronous) ⊎ (r ≡ r_asynchronous) → (Acts.acts r d (slot_of d c) c (header bs) (payload_of (header bs) bs)).reply ≡ took acted k n → (entry_of d c).number ≡ n
      go r_none (inl q) x = absurd (let y : ◌≡◌ {A = ℕ} 0 1 = cc in omega arith)
      go r_none (inr q) x = absurd (let y : ◌≡◌ {A = ℕ} 0 1 = cc in omega arith)
      go r_half_open (inl q) x = absurd (let y : ◌≡◌ {A = ℕ} 0 1 = cc in omega arith)
      go r_half_open (inr q) x = absurd (let y : ◌≡◌ {A = ℕ} 0 1 = cc in omega arith)
      go r_synchronous w x = cc
      go r_asynchronous w x = cc

  -- the answer of a standing release whose number passes a test
  module _ (i : ℕ) (u : live (at d.locks.entries i) ≡ true) where
    ended_frames : (t : ℕ → Bool) (n : ℕ) (ws : List Waiting)
        → map lock_frame (Locks.completed (due_by t (at d.locks.entries i).standing) (Locks.with_waiting d.locks ws) i n).answers
        ≡ map (lock_answer (at d.locks.entries i).asynchronous) (ended_codes m (at d.locks.entries i).number t)
    ended_frames t n ws =
        rw (
          own_seen m.sessions d.locks.entries a.sessions v.sound.firm i u (λ s. ends_exclusive t s.pending),
          own_seen m.sessions
              d.locks.entries a.sessions v.sound.firm i u (λ s. ends_shared t s.pending),
        )
        (go (at d.locks.entries i).standing)
      where
        go : (s : Standing) → map lock_frame (Locks.completed (due_by t s) (Locks.with_waiting d.locks ws) i n).answers
            ≡ map (lock_answer (at d.locks.entries i).asynchronous) (cond (ends_exclusive t (as_pending s)) (1 ∷ []) (cond (ends_shared t (as_pending s)) (2 ∷ []) []))
        go no_release = refl
        go (release_of exclusive_lock q) = by (t q)
          where
            by : (b : Bool) → map lock_frame
                (Locks.completed (cond b (Locks.due_now exclusive_lock) Locks.not_due) (Locks.with_waiting d.locks ws) i n).answers ≡ map
                (lock_answer (at d.locks.entries i).asynchronous) (cond b (1 ∷ []) [])
            by true = refl
            by false = refl
        go (release_of shared_lock q) = by (t q)
          where
            by : (b : Bool) → map lock_frame
                (Locks.completed (cond b (Locks.due_now shared_lock) Locks.not_due) (Locks.with_waiting d.locks ws) i n).answers ≡ map
                (lock_answer (at d.locks.entries i).asynchronous) (cond b (2 ∷ []) [])
            by true = refl
            by false = refl

    -- whom the look after an event grants
    granted_frames : (e : LockEvent) (o : ModelResult) → Fit d.locks.entries e → Alike (change d.locks e) o
        → map lock_frame (settle (frees d.locks e) (change d.locks e).locks).answers ≡ map told_frame (grants_after o)
    granted_frames e o f h =
        ap (λ (x : LockResult). map lock_frame x.answers) (always_settled d.locks v e f)
        ∙ sym (told_frames (grant_pass (change d.locks e).locks).answers)
        ∙ ap (map told_frame) (sym (grants_seen (change d.locks e) o h (change_sound d.locks v.sound.good v.sound.firm e f)))

  -- Data, DataEND, Trigger
  abbrev commanded : List Frame
  commanded =
      let ev = Locks.command (slot_of d c) (header bs).param in
      map lock_frame (change d.locks ev).answers ++ map lock_frame (settle (frees d.locks ev) (change d.locks ev).locks).answers

  -- what an interruption says first
  abbrev paired : List Frame
  paired = interrupted_told (header bs) (entry_of d c) (exchange_at d.rest (slot_of d c))

  commanded_is : (k n : ℕ) → R.reply ≡ took acted k n → one_of commands (header bs).kind ≡ true → (R.frames ≡ paired ++ commanded) × (role_of d.locks.entries c ≡ r_synchronous)
  unfolding finish Acts.acts Acts.synchronous_said class_of
  commanded_is k n e o =
      each_of (λ t. (header bs).kind ≡ t → (R.frames ≡ paired ++ commanded) × (role_of d.locks.entries c ≡ r_synchronous)) commands
      ((λ q. (on_sync 6 k n e q (refl, refl), sync_role 6 k n e q (refl, refl))) also (λ q. (on_sync 7 k n e q (refl, refl), sync_role 7 k n e q (refl, refl)))
      also (λ q. (on_sync 12 k n e q (refl, refl), sync_role 12 k n e q (refl, refl))) also tt)
      (header bs).kind o refl

  command : (k n : ℕ) → R.reply ≡ took acted k n → one_of commands (header bs).kind ≡ true
      → R.frames ≡ paired ++ (map (lock_answer (second_connection n m.sessions)) (ended_codes m n (λ p. eqb p (header bs).param))
      ++ map told_frame (grants_after (LockModel.message m n (header bs).param)))
  unfolding change
  command k n e o =
      let i = slot_of d c in
      let p = (header bs).param in
      let es = d.locks.entries in
      let w = commanded_is k n e o in
      let u = sync_live es c w.1 in
      let n-is : (entry_of d c).number ≡ n = by_session r_synchronous k n e w.1 (inl refl) in
      let second = channel_seen m.sessions es a.sessions v.sound.firm i u in
      w.0
      ∙ ap (λ (fs : List Frame). paired ++ fs)
      (ap₂ ◌++◌
      (ap (λ x. map lock_frame (Locks.completed x d.locks i p).answers) (due_at_lem p (at es i).standing) ∙ ended_frames i u (λ q. eqb q p) p d.locks.waiting
      ∙ ap (λ y. map (lock_answer y) (ended_codes m (at es i).number (λ q. eqb q p))) (sym second))
      (granted_frames i u (Locks.command i p) (LockModel.message m (at es i).number p) u (sim_command d.locks m a v.sound.good v.sound.firm i u p))
      ∙ ap (λ x. map (lock_answer (second_connection x m.sessions)) (ended_codes m x (λ q. eqb q p)) ++ map told_frame (grants_after (LockModel.message m x p))) n-is)

  some : List Frame → Bool
  some [] = false
  some (x ∷ xs) = true

  quiet : (y : Locks.Due) (i p : ℕ) → map lock_frame (Locks.completed y d.locks i p).answers ≡ []
      → map lock_frame (Locks.completed y d.locks i p).answers ++ map lock_frame (settle (Locks.is_due y) (Locks.completed y d.locks i p).locks).answers ≡ []
  unfolding some
  quiet Locks.not_due i p q = refl
  quiet (Locks.due_now x) i p q = absurd (true≢false (ap some q))

  alone : (k n : ℕ) → R.reply ≡ took acted k n → one_of commands (header bs).kind ≡ true → ended_codes m n (λ p. eqb p (header bs).param) ≡ [] → R.frames ≡ paired
  unfolding change
  alone k n e o z =
      let i = slot_of d c in
      let p = (header bs).param in
      let es = d.locks.entries in
      let w = commanded_is k n e o in
      let n-is : (entry_of d c).number ≡ n = by_session r_synchronous k n e w.1 (inl refl) in
      w.0
      ∙ ap (λ (fs : List Frame). paired ++ fs)
      (quiet (Locks.due_at p (at es i).standing) i p
      (ap (λ x. map lock_frame (Locks.completed x d.locks i p).answers) (due_at_lem p (at es i).standing) ∙ ended_frames i (sync_live es c w.1) (λ q. eqb q p) p d.locks.waiting
      ∙ ap (map (lock_answer (at es i).asynchronous)) (ap (λ x. ended_codes m x (λ q. eqb q p)) n-is ∙ z)))
      ∙ append-nil paired

  -- a device clear
  cleared : (k n : ℕ) → R.reply ≡ took acted k n → (header bs).kind ≡ AsyncDeviceClear
      → R.frames ≡ cond (any (λ w. eqb w.number n) m.waiting) (lock_answer c 0 ∷ []) []
      ++ (map (lock_answer c) (ended_codes m n (λ p. true)) ++ (frame_of c AsyncDeviceClearAcknowledge (Acts.preference d) 0 [] ∷ map told_frame (grants_after (LockModel.clearing n m))))
  unfolding finish Acts.acts Acts.asynchronous_said Acts.asynchronous_event change class_of
  cleared k n e q =
      let i = slot_of d c in
      let es = d.locks.entries in
      let o : OnlyOn synchronous AsyncDeviceClear = (refl, refl) in
      let er = async_role AsyncDeviceClear k n e q o in
      let u = async_live es c er in
      let mine = async_own es c er in
      let n-is : (entry_of d c).number ≡ n = by_session r_asynchronous k n e er (inr refl) in
      let x = Locks.completed (Locks.due_any (at es i).standing) (Locks.with_waiting d.locks (keep (elsewhere i) d.locks.waiting)) i before_first in
      let zs = refuse es (elsewhere i) d.locks.waiting in
      let zeros-are : map lock_frame zs ≡ cond (any (λ w. eqb w.number (at es i).number) m.waiting) (lock_answer c 0 ∷ []) [] =
      ap (map lock_frame) (one_refused es i d.locks.waiting v.sound.good) ∙ go (all (elsewhere i) d.locks.waiting) mine
      ∙ ap (λ b. cond b (lock_answer c 0 ∷ []) []) (sym (waits_seen d.locks m a v.sound.good v.sound.firm i u)) in
      let release-is : map lock_frame x.answers ≡ map (lock_answer c) (ended_codes m (at es i).number (λ p. true)) =
      ap (λ y. map lock_frame (Locks.completed y (Locks.with_waiting d.locks (keep (elsewhere i) d.locks.waiting)) i before_first).answers) (due_any_lem (at es i).standing)
      ∙ ended_frames i u (λ p. true) before_first (keep (elsewhere i) d.locks.waiting) ∙ ap (λ y. map (lock_answer y) (ended_codes m (at es i).number (λ p. true))) mine in
      on_async AsyncDeviceClear k n e q o
      ∙ ap (λ (fs : List Frame). fs ++ (frame_of c AsyncDeviceClearAcknowledge (Acts.preference d) 0 []
      ∷ map lock_frame (settle (frees d.locks (Locks.clear i)) (change d.locks (Locks.clear i)).locks).answers))
      (frames_append zs x.answers)
      ∙ append_assoc (map lock_frame zs) (map lock_frame x.answers) _
      ∙ ap₂ ◌++◌ zeros-are (ap₂ ◌++◌ release-is (ap (λ (fs : List Frame). frame_of c AsyncDeviceClearAcknowledge (Acts.preference d) 0 [] ∷ fs)
      (granted_frames i u (Locks.clear i) (LockModel.clearing (at es i).number m) u (sim_clear d.locks m a v.sound.good v.sound.firm i u))))
      ∙ ap (λ x. cond (any (λ w. eqb w.number x) m.waiting) (lock_answer c 0 ∷ []) []
      ++ (map (lock_answer c) (ended_codes m x (λ p. true)) ++
      (frame_of c AsyncDeviceClearAcknowledge (Acts.preference d) 0 [] ∷ map told_frame (grants_after (LockModel.clearing x m))))) n-is
    where
      go : (b : Bool) → (entry_of d c).asynchronous ≡ c → map lock_frame (cond b [] (tell d.locks.entries (slot_of d c) 0 true ∷ [])) ≡ cond (not b) (lock_answer c 0 ∷ []) []
      go true x = refl
      go false x = ap (λ y. lock_answer y 0 ∷ []) x

  -- message available, by the mode
  told : (h : Header) (x : Exchange) → available_at h x ≡ available_told h x
  unfolding available_at
  told h x = go x.overlap
    where
      go : (b : Bool) → available_in b h x ≡ cond b (x.any_sent && not (eqb (next h.param) x.count)) (not (eqb h.code 1) && x.message_available)
      go true = refl
      go false = refl

  pub sends : Sends d m c bs room
  unfolding finish Acts.acts Acts.synchronous_said Acts.asynchronous_said Acts.asynchronous_event change class_of field available_at
  sends =
      record {
        command = command;
        command_alone = alone;
        clear_complete = λ k n e q. on_sync 8 k n e q (refl, refl);
        remote_local_lem = λ k n e q. on_async 10 k n e q (refl, refl);
        maximum_size = λ k n e q. on_async 15 k n e q (refl, refl);
        device_clear = cleared;
        status_query = λ k n e q. on_async 21 k n e q (refl, refl)
            ∙ ap (λ (b : Bool). frame_of c 22 (status_byte d.rest.status b) 0 [] ∷ [])
            (told (record { kind = 21; code = (header bs).code; param = (header bs).param; len = (header bs).len }) (exchange_at d.rest (slot_of d c)));
      }

pub sending : (v : Making) (es : List Event) → Sending v es
sending v es = record { sends_next = λ c bs room. sends (final (fresh v) es) (model_after v es) (agreement v es).locks (inv_run v es) c bs room }

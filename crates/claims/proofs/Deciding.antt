-- What each call decides is what the lock model before it says.
use mathlib.Core.Path.{◌≡◌, refl, sym, ap, ap₂, ◌∙◌}
use mathlib.Core.Bool.{Bool, true, false, not, ◌&&◌, ◌||◌, cond, true≢false}
use mathlib.Core.List.{List, [], ◌∷◌, ◌++◌, map, append-nil}
use mathlib.Core.Logic.{◌⊎◌, inl, inr}
use Prim.Native.Nat.{ℕ, suc, ◌+◌}
use native.Mathlib.Omega.{arith}
use lib.Dec.{eqb, ltb}
use lib.ListN.{length, take, drop}
use borrow.Author.Tests.{eqb-true, eqb-false}
use Rattle.wire.specs.declared.Header.{Header}
use Rattle.wire.specs.Message.{header}
use Rattle.wire.specs.Class.{class_of, synchronous}
use Rattle.wire.specs.Frame.{frame_of}
use Rattle.model.specs.Sizes.{no_connection, string_limit}
use Rattle.model.specs.MessageTypes.{AsyncLock, AsyncLockInfo, AsyncLockInfoResponse}
use Rattle.model.specs.Lists.{all, any, tally, keep}
use Rattle.model.specs.State.{Entry, blank, at, live, Server, fresh, Making}
use Rattle.model.specs.Interface.{Event, Event.opening, Event.delivery, Event.cut, Event.clock, Event.answer, Event.status, Event.setting, Outcome.held, Outcome.acted, Reply, Reply.took}
use Rattle.model.specs.Scan.{Scan}
use Rattle.model.specs.Place.{is_on_connection, slot_in, slot_of, entry_of, Role, Role.r_none, Role.r_half_open, Role.r_synchronous, Role.r_asynchronous, role_by, role_of}
use Rattle.model.specs.Locks
use Rattle.model.specs.Locks.{Answer, no_exclusive, no_shared, access, change, settle, frees}
use Rattle.model.specs.Checks.{Verdict.v_acts, is_unrecognised, verdict, judged, either}
use Rattle.model.specs.Acts
use Rattle.model.specs.Acts.{holder}
use Rattle.model.specs.Refusals.{refusal}
use Rattle.model.specs.Step.{Result, effect, received, plan, answered, finish, step, final, lock_frame}
use Rattle.model.specs.LockModel
use Rattle.model.specs.LockModel.{Session, Model, ModelResult, own, on, allowed, not_shared, not_exclusive, second_connection, model_step, delivered, looked, fresh_model}
use Rattle.model.specs.Agreement.{as_session, Agrees, feed, told_frame, is_lock}
use Rattle.model.specs.Access.{Command, access_of}
use Rattle.model.specs.Granting.{ByHolders}
use Rattle.model.specs.Deciding.{exclusive_held, lock_holders, may_act, access_on, release_pends, request_codes, release_codes, grants_after, lock_answer, model_after, Decides, Deciding, Decided, EachDecides}
use Rattle.model.proofs.Basics.{and_l, and_r, both, not_not, and_true, inside, all_split, all_but_cong, all_but_true}
use Rattle.model.proofs.Place.{place_sound, place_role, async_live}
use Rattle.claims.proofs.Invariant.{Inv, Firm}
use Rattle.claims.proofs.Events.{inv_fresh}
use Rattle.claims.proofs.Fits.{opening_passed, sync_passed, real_delivery, inv_call, inv_run}
use Rattle.claims.proofs.Seen.{Same, all_lift, lift, own_seen, channel_seen, on_seen}
use Rattle.claims.proofs.Simulation.{told_of, sim_ask}
use Rattle.claims.proofs.Scanning.{header_cut, payload_cut}
use Rattle.claims.proofs.Agreement.{keep_append, keep_locks, call_locks, call_answers, fresh_agrees, agreement}
use Rattle.claims.proofs.Granting.{by_holders}
use Rattle.claims.proofs.Replies.{acting, accepted}
use Rattle.claims.proofs.Access.{accessed}
use Rattle.claims.proofs.Fewer.{Request, request_step, step_request}

-- a question to the session of connection c
module _ (ss : List Session) (es : List Entry) (s : Same ss es) (f : Firm es) (c : ℕ) (real : c ≡ no_connection → ⊥) (i : ℕ) (v : is_on_connection c (at es i) ≡ true) where
  none_on : (q : Session → Bool) → all (λ x. not (on c x && q x)) ss ≡ not (q (as_session (at es i)))
  none_on q =
      all_lift ss es s (λ x. not (on c x && q x))
      ∙ all_split (lift (λ x. not (on c x && q x))) es i (inside (is_on_connection c) es i refl v)
      ∙ ap₂ ◌&&◌ here (all_but_cong _ (λ e. true) es i (λ j d. out j d (live (at es j)) (on c (as_session (at es j))) refl refl) ∙ all_but_true es i)
      ∙ and_true _
    where
      here : lift (λ x. not (on c x && q x)) (at es i) ≡ not (q (as_session (at es i)))
      here = ap₂ (λ (a b : Bool). not a || not (b && q (as_session (at es i)))) (and_l (live (at es i)) _ v) (on_seen c (at es i) real ∙ and_r (live (at es i)) _ v)

      out : (j : ℕ) → (j ≡ i → ⊥) → (a b : Bool) → live (at es j) ≡ a → on c (as_session (at es j)) ≡ b → (not a || not (b && q (as_session (at es j)))) ≡ true
      out j d false b u w = refl
      out j d true false u w = refl
      out j d true true u w = absurd (d (f.connections c real j i (both _ _ u (sym (on_seen c (at es j) real) ∙ w)) v))

  pub on_one : (q : Session → Bool) → any (λ x. on c x && q x) ss ≡ q (as_session (at es i))
  on_one q = ap not (none_on q) ∙ not_not _

-- sessions counted by two tests that agree
tally_alike : (p q : Session → Bool) → ((x : Session) → p x ≡ q x) → (ss : List Session) → tally p ss ≡ tally q ss
tally_alike p q h [] = refl
tally_alike p q h (x ∷ ss) = ap₂ (λ (b : Bool) (n : ℕ). cond b (suc n) n) (h x) (tally_alike p q h ss)

pub told_frames : (xs : List Answer) → map told_frame (map told_of xs) ≡ map lock_frame xs
told_frames [] = refl
told_frames (x ∷ xs) = ap (λ l. lock_frame x ∷ l) (told_frames xs)

-- the asynchronous connection's session
role_async : (a b s : Bool) → role_by a b s ≡ r_asynchronous → (a ≡ true) × (s ≡ false)
role_async false b s e = absurd (let z : ◌≡◌ {A = ℕ} 0 1 = cc in omega arith)
role_async true true s e = absurd (let z : ◌≡◌ {A = ℕ} 0 1 = cc in omega arith)
role_async true false true e = absurd (let z : ◌≡◌ {A = ℕ} 0 1 = cc in omega arith)
role_async true false false e = (refl, refl)

pub async_own : (es : List Entry) (c : ℕ) → role_of es c ≡ r_asynchronous → (at es (slot_in es c)).asynchronous ≡ c
async_own es c e = go (place_sound es c)
  where
    x : Entry
    x = at es (slot_in es c)

    r : (live x ≡ true) × (eqb x.synchronous c ≡ false)
    r = role_async (live x) (eqb x.asynchronous no_connection) (eqb x.synchronous c) (sym (place_role es c) ∙ e)

    go : (is_on_connection c x ≡ true) ⊎ (x ≡ blank) → x.asynchronous ≡ c
    go (inl h) = eqb-true _ _ (rw r.1 at (and_r (live x) _ h))
    go (inr h) = absurd (true≢false (sym r.0 ∙ ap live h))

-- an AsyncLockInfo that acted came on the asynchronous connection
info_role : (d : Server) (c : ℕ) (h : Header) (p : List ℕ) (r : Role) → h.kind ≡ AsyncLockInfo → judged r d (slot_of d c) h p ≡ v_acts → r ≡ r_asynchronous
unfolding class_of
info_role d c h p r_none t q = absurd (true≢false (ap (λ n. not (either 0 17 n)) (sym t) ∙ (opening_passed d h p q).0))
info_role d c h p r_half_open t q = absurd (let y : ◌≡◌ {A = ℕ} 0 1 = cc in omega arith)
info_role d c h p r_synchronous t q = absurd (true≢false (ap (λ n. is_unrecognised (class_of synchronous n)) (sym t) ∙ (sync_passed d (slot_of d c) h p q).1.1.1.1.0))
info_role d c h p r_asynchronous t q = refl

module _ (d : Server) (m : Model) (a : Agrees d.locks m) (v : Inv d.locks) (c : ℕ) (bs : List ℕ) (room : ℕ) where
  by : ByHolders d.locks m
  by = by_holders d.locks m a v

  abbrev R : Result
  R = step d (delivery c bs room)

  -- AsyncLockInfo
  code_same : ◌≡◌ {A = ℕ} (cond (all no_exclusive d.locks.entries) 0 1) (cond (exclusive_held m) 1 0)
  code_same = go (all no_exclusive d.locks.entries) ∙ ap (λ b. cond {A = ℕ} (not b) 1 0) by.info_code
    where
      go : (b : Bool) → ◌≡◌ {A = ℕ} (cond b 0 1) (cond (not b) 1 0)
      go true = refl
      go false = refl

  count_same : tally holder d.locks.entries ≡ lock_holders m
  count_same = by.info_count ∙ tally_alike _ _ (λ x. go x.exclusive (not_shared x)) m.sessions
    where
      go : (b s : Bool) → not (not b && s) ≡ (b || not s)
      go true s = refl
      go false s = refl

  info : (k n : ℕ) → R.reply ≡ took acted k n → (header bs).kind ≡ AsyncLockInfo → R.frames ≡ frame_of c AsyncLockInfoResponse (cond (exclusive_held m) 1 0) (lock_holders m) [] ∷ []
  unfolding finish Acts.acts Acts.asynchronous_said Acts.asynchronous_event change
  info k n e t =
      let g = acting d c bs room k n e in
      let h = g.head in
      let t24 : h.kind ≡ AsyncLockInfo = ap (λ (x : Header). x.kind) (sym g.reads) ∙ t in
      ap (λ (x : Result). x.frames) g.does
      ∙ ap (λ r. (finish d (Acts.acts r d (slot_of d c) c h g.payload)).frames) (info_role d c h g.payload (role_of d.locks.entries c) t24 g.passes)
      ∙ ap (λ n. (finish d (Acts.acts r_asynchronous d (slot_of d c) c (record { kind = n; code = h.code; param = h.param; len = h.len }) g.payload)).frames) t24
      ∙ ap₂ (λ (x y : ℕ). frame_of c AsyncLockInfoResponse x y [] ∷ []) code_same count_same

  -- access
  access_same : refusal d (delivery c bs room) ≡ 0 → is_on_connection c (entry_of d c) ≡ true → access_on m c ≡ access_of d c
  access_same z o =
      let i = slot_of d c in
      let u : live (at d.locks.entries i) ≡ true = and_l (live (entry_of d c)) _ o in
      let own_is = own_seen m.sessions d.locks.entries a.sessions v.sound.firm i u in
      on_one m.sessions d.locks.entries a.sessions v.sound.firm c (real_delivery d c bs room z) i o (may_act m)
      ∙ sym (by.gives_access i u ∙ ap₂ (λ (x y : Bool). x || (all not_exclusive m.sessions && (y || all not_shared m.sessions))) (own_is (λ s. s.exclusive)) (own_is (λ s. not (not_shared s)))
      ∙ ap (λ b. (entry_of d c).exclusive || (b && (not (no_shared (entry_of d c)) || all not_shared m.sessions))) (sym (not_not (all not_exclusive m.sessions))))

  command_on : Command d c bs → is_on_connection c (entry_of d c) ≡ true
  command_on q = rw (q.on_synchronous.alive, q.on_synchronous.synchronous_one) (go (eqb c c) refl)
    where
      go : (b : Bool) → eqb c c ≡ b → (b || eqb (entry_of d c).asynchronous c) ≡ true
      go true e = refl
      go false e = absurd (eqb-false c c e refl)

  -- lock messages
  second_is : (r : Request d c bs room) → second_connection (entry_of d c).number m.sessions ≡ c
  second_is r = channel_seen m.sessions d.locks.entries a.sessions v.sound.firm (slot_of d c) (async_live d.locks.entries c r.role) ∙ async_own d.locks.entries c r.role

  codes_are : (n t : ℕ) (k : List ℕ) → map told_frame (LockModel.request m n t k).told ≡ map (lock_answer (second_connection n m.sessions)) (request_codes m n t k)
  unfolding LockModel.request
  codes_are n t k = go (own n (LockModel.has k) m.sessions || (any (λ w. eqb w.number n) m.waiting || (ltb string_limit (length k) || release_pends m n))) (allowed m.sessions n k) (eqb t 0)
    where
      go : (x y z : Bool) → map told_frame (LockModel.decided x y z m n t k).told ≡ map (lock_answer (second_connection n m.sessions)) (cond x (3 ∷ []) (cond y (1 ∷ []) (cond z (0 ∷ []) [])))
      go true y z = refl
      go false true z = refl
      go false false true = refl
      go false false false = refl

  asked : (k n : ℕ) → R.reply ≡ took acted k n → (header bs).kind ≡ AsyncLock → (header bs).code ≡ 1
      → R.frames ≡ map (lock_answer c) (request_codes m n (header bs).param (drop 16 (take k bs)))
  unfolding finish
  asked k n e t o =
      let r = step_request d c bs room k n e t in
      let h = r.head in
      let p = r.string in
      let i = slot_of d c in
      let one = request_step d c bs room r t o in
      let told_is = sim_ask d.locks m a v.sound.good v.sound.firm i (async_live d.locks.entries c r.role) h.param p in
      let replied : took acted (16 + h.len) (entry_of d c).number ≡ took acted k n = ap (λ (x : Result). x.reply) (sym one) ∙ e in
      let k-is : 16 + h.len ≡ k = cc in
      let n-is : (entry_of d c).number ≡ n = cc in
      let x = (change d.locks (Locks.request i h.param p)).answers in
      ap (λ (x : Result). x.frames) one
      ∙ append-nil (map lock_frame x)
      ∙ sym (told_frames x)
      ∙ ap (map told_frame) (sym told_is.told)
      ∙ codes_are (entry_of d c).number h.param p
      ∙ ap (λ y. map (lock_answer y) (request_codes m (entry_of d c).number h.param p)) (second_is r)
      ∙ ap₂ (λ (y : ℕ) (q : List ℕ). map (lock_answer c) (request_codes m y h.param q)) n-is (sym (payload_cut _ bs h p r.shows) ∙ ap (λ y. drop 16 (take y bs)) k-is)
      ∙ ap (λ (y : Header). map (lock_answer c) (request_codes m n y.param (drop 16 (take k bs)))) (sym r.reads)

  -- a release
  abbrev freeing : ℕ → Header → Acts.Plan
  freeing i h = record { reply = took acted (16 + h.len) (at d.locks.entries i).number; rest = d.rest; first = []; said = []; event = Locks.release i h.param }

  release_step : (r : Request d c bs room) → (header bs).kind ≡ AsyncLock → (header bs).code ≡ 0 → R ≡ finish d (freeing (slot_of d c) r.head)
  unfolding step answered plan received verdict effect Acts.acts Acts.asynchronous_rest Acts.asynchronous_said Acts.asynchronous_event
  release_step r t k =
      let h = r.head in
      let s = Scan.whole h r.string in
      let i = slot_of d c in
      let t4 : h.kind ≡ AsyncLock = ap (λ (x : Header). x.kind) (sym r.reads) ∙ t in
      let k0 : h.code ≡ 0 = ap (λ (x : Header). x.code) (sym r.reads) ∙ k in
      ap (λ n. answered n d (delivery c bs room)) r.accepted
      ∙ ap (λ x. finish d (received d c x)) r.shows
      ∙ ap (λ x. finish d (effect (verdict x d i s) s x d i c)) r.role
      ∙ ap (λ v. finish d (effect v s r_asynchronous d i c)) r.passes
      ∙ rw (t4, k0)

  all_locks : (i : ℕ) (h : Header) → keep is_lock (finish d (freeing i h)).frames ≡ (finish d (freeing i h)).frames
  unfolding finish
  all_locks i h =
      let x = change d.locks (Locks.release i h.param) in
      let y = settle (frees d.locks (Locks.release i h.param)) x.locks in
      keep_append (map lock_frame x.answers) (map lock_frame y.answers) ∙ ap₂ ◌++◌ (keep_locks x.answers) (keep_locks y.answers)

  released_told : (n p : ℕ) → map told_frame (looked (LockModel.release m n p)).told ≡ map (lock_answer (second_connection n m.sessions))
      (release_codes m n p) ++ map told_frame (grants_after (LockModel.release m n p))
  unfolding LockModel.release looked
  released_told n p = go (release_pends m n) (own n (λ s. s.exclusive) m.sessions) (own n (λ s. not (not_shared s)) m.sessions) (own n (λ s. eqb s.heard p) m.sessions)
    where
      go : (t x y z : Bool) → map told_frame (looked (LockModel.freed t x y z m n p)).told
          ≡ map (lock_answer (second_connection n m.sessions)) (cond t (3 ∷ []) (cond x (cond z (1 ∷ []) []) (cond y (cond z (2 ∷ []) []) (3 ∷ []))))
          ++ map told_frame (grants_after (LockModel.freed t x y z m n p))
      go true x y z = refl
      go false true y true = refl
      go false true y false = refl
      go false false true true = refl
      go false false true false = refl
      go false false false z = refl

  freed_step : (k n : ℕ) → R.reply ≡ took acted k n → (header bs).kind ≡ AsyncLock → (header bs).code ≡ 0
      → R.frames ≡ map (lock_answer c) (release_codes m n (header bs).param) ++ map told_frame (grants_after (LockModel.release m n (header bs).param))
  unfolding finish model_step delivered
  freed_step k n e t o =
      let r = step_request d c bs room k n e t in
      let h = r.head in
      let one = release_step r t o in
      let replied : took acted (16 + h.len) (entry_of d c).number ≡ took acted k n = ap (λ (x : Result). x.reply) (sym one) ∙ e in
      let k-is : 16 + h.len ≡ k = cc in
      let n-is : (entry_of d c).number ≡ n = cc in
      let t4 : h.kind ≡ AsyncLock = ap (λ (x : Header). x.kind) (sym r.reads) ∙ t in
      let k0 : h.code ≡ 0 = ap (λ (x : Header). x.code) (sym r.reads) ∙ o in
      let head-is : header (take k bs) ≡ h = ap (λ y. header (take y bs)) (sym k-is) ∙ header_cut _ bs h r.string r.shows in
      let p-is : (header bs).param ≡ h.param = ap (λ (x : Header). x.param) r.reads in
      let acts-so : looked (LockModel.release m n h.param) ≡ model_step m (feed (delivery c bs room) (took acted k n)) = rw (head-is, t4, k0) in
      sym (ap (keep is_lock) (ap (λ (x : Result). x.frames) one) ∙ all_locks (slot_of d c) h ∙ sym (ap (λ (x : Result). x.frames) one))
      ∙ sym (call_answers d m (delivery c bs room) a v)
      ∙ ap (λ (y : Reply). map told_frame (model_step m (feed (delivery c bs room) y)).told) e
      ∙ ap (λ (y : ModelResult). map told_frame y.told) (sym acts-so)
      ∙ released_told n h.param
      ∙ ap₂ (λ (y p : ℕ). map (lock_answer y) (release_codes m n p) ++ map told_frame (grants_after (LockModel.release m n p)))
      (ap (λ y. second_connection y m.sessions) (sym n-is) ∙ second_is r) (sym p-is)

  pub decides : Decides d m c bs room
  decides =
      record {
        lock_info = info;
        held_without = λ z q x. (accessed d c bs room).held_without z q (sym (access_same z (command_on q)) ∙ x);
        held_only = λ k n e.
            let g = (accessed d c bs room).held_only k n e in
            (g.0, access_same (accepted d (delivery c bs room) held k n e) (command_on g.0) ∙ g.1);
        requests = asked;
        releases = freed_step;
      }

pub deciding : (v : Making) (es : List Event) → Deciding v es
deciding v es = record { decides_next = λ c bs room. decides (final (fresh v) es) (model_after v es) (agreement v es).locks (inv_run v es) c bs room }

-- call by call
pub each_decides : (es : List Event) (d : Server) (m : Model) → Agrees d.locks m → Inv d.locks → EachDecides d m es
each_decides [] d m a v = tt
each_decides (e ∷ es) d m a v = (one e, each_decides es (step d e).server (model_step m (feed e (step d e).reply)).model (call_locks d m e a v) (inv_call d e v))
  where
    one : (e : Event) → Decided d m e
    one (opening c) = tt
    one (delivery c bs room) = decides d m a v c bs room
    one (cut c room) = tt
    one (clock t room) = tt
    one (answer n p end sh room) = tt
    one (status b) = tt
    one (setting s) = tt

pub run_decides : (v : Making) (es : List Event) → EachDecides (fresh v) fresh_model es
run_decides v es = each_decides es (fresh v) fresh_model (fresh_agrees v) inv_fresh

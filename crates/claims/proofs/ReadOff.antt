-- What the lock model reads off a call (outcome, number, taken bytes) is the server's lock event, for every call that is not refused.
use mathlib.Core.Path.{◌≡◌, refl, sym, ap, subst}
use mathlib.Core.Bool.{Bool, true, false, cond, false≢true, true≢false}
use mathlib.Core.List.{List, [], ◌∷◌}
use mathlib.Core.Logic.{◌⊎◌, inl, inr}
use Prim.Native.Nat.{ℕ, ◌+◌}
use native.Mathlib.Omega.{arith}
use lib.Dec.{eqb}
use lib.ListN.{take, drop}
use borrow.Author.Tests.{eqb-true}
use Rattle.wire.specs.declared.Header.{Header}
use Rattle.wire.specs.Message.{header}
use Rattle.wire.specs.Class.{one_of, synchronous, asynchronous}
use Rattle.model.specs.Sizes.{no_connection}
use Rattle.model.specs.MessageTypes.{commands}
use Rattle.model.specs.State.{Locks, at, live, slot_of_number, Server, connection_at}
use Rattle.model.specs.Interface.{Event, Event.opening, Event.delivery, Event.cut, Event.clock, Event.answer, Event.status, Event.setting, Outcome.acted, Reply}
use Rattle.model.specs.Scan.{Scan, Scan.empty, Scan.few, Scan.wrong, Scan.skipping, Scan.long, Scan.part, Scan.whole, scan}
use Rattle.model.specs.Place.{slot_of, Role, Role.r_none, Role.r_half_open, Role.r_synchronous, Role.r_asynchronous, role_of}
use Rattle.model.specs.Locks.{LockEvent, change}
use Rattle.model.specs.Checks
use Rattle.model.specs.Checks.{Verdict, Verdict.v_more, Verdict.v_skipped, Verdict.v_held, Verdict.v_ignored, Verdict.v_closed, Verdict.v_acts}
use Rattle.model.specs.Checks.{Verdict.v_error, Verdict.v_fatal, verdict, judged, either}
use Rattle.model.specs.Acts
use Rattle.model.specs.Refusals.{refusal}
use Rattle.model.specs.Step.{effect, received, plan, withholds}
use Rattle.model.specs.LockModel
use Rattle.model.specs.LockModel.{Model, ModelResult, Fed, Act, act_of, do_act, delivered, looked, model_step, as_before}
use Rattle.model.specs.Agreement.{feed, Agrees}
use Rattle.claims.proofs.Classes.{synchronous_types, asynchronous_types}
use Rattle.model.proofs.Basics.{not_off, or→}
use Rattle.claims.proofs.Scanning.{header_cut, payload_cut}
use Rattle.model.proofs.Place.{sync_live, async_live}
use Rattle.claims.proofs.Classes.{acted_class}
use Rattle.claims.proofs.Invariant.{Inv}
use Rattle.claims.proofs.Numbers.{live_found}
use Rattle.claims.proofs.Events.{Pairs}
use Rattle.claims.proofs.Fits.{Passes, opening_passed, sync_passed, async_passed, opens_fit, real_delivery, real_cut}
use Rattle.claims.proofs.Simulation.{Alike, sim_ask, sim_free, sim_command, sim_clear, sim_tick, sim_enter, sim_pair, sim_drop}

-- a number of a list is one of its numbers
abbrev pub Each : (ℕ → Type 0) → List ℕ → Type 0
Each P [] = Unit {0}
Each P (x ∷ xs) = P x × Each P xs

pub each_of : (P : ℕ → Type 0) (xs : List ℕ) → Each P xs → (t : ℕ) → one_of xs t ≡ true → P t
each_of P [] h t e = absurd (false≢true e)
each_of P (x ∷ xs) h t e = go (λ e. each_of P xs h.1 t e) (or→ (eqb t x) _ e)
  where
    go : (one_of xs t ≡ true → P t) → (eqb t x ≡ true) ⊎ (one_of xs t ≡ true) → P t
    go f (inl q) = subst P (sym (eqb-true t x q)) h.0
    go f (inr q) = f q

-- what the lock model makes of each type that acts
act_for : Acts.AsynchronousKind → Act
act_for Acts.k_lock = LockModel.a_lock
act_for Acts.k_device_clear = LockModel.a_clear
act_for Acts.k_remote_local = LockModel.a_none
act_for Acts.k_maximum_size = LockModel.a_none
act_for Acts.k_status_query = LockModel.a_none
act_for Acts.k_lock_info = LockModel.a_none

sync_act_for : Acts.SynchronousKind → Act
sync_act_for Acts.k_data = LockModel.a_message
sync_act_for Acts.k_data_end = LockModel.a_message
sync_act_for Acts.k_trigger = LockModel.a_message
sync_act_for Acts.k_clear_complete = LockModel.a_none

-- FatalError and Error never act
sync_act : (t : ℕ) → one_of synchronous_types t ≡ true → eqb t 2 ≡ false → eqb t 3 ≡ false → eqb t 0 ≡ false → act_of t ≡ sync_act_for (Acts.synchronous_kind t)
unfolding sync_act_for
sync_act t e =
    each_of (λ t. eqb t 2 ≡ false → eqb t 3 ≡ false → eqb t 0 ≡ false → act_of t ≡ sync_act_for (Acts.synchronous_kind t)) synchronous_types (
      (λ a b z. absurd (true≢false z)),
      (
        (λ a b z. absurd (true≢false a)),
        ((λ a b z. absurd (true≢false b)), ((λ a b z. refl), ((λ a b z. refl), ((λ a b z. refl), ((λ a b z. refl), tt))))),
      ),
    ) t e

async_act : (t : ℕ) → one_of asynchronous_types t ≡ true → eqb t 17 ≡ false → act_of t ≡ act_for (Acts.asynchronous_kind t)
unfolding act_for
async_act t e =
    each_of (λ t. eqb t 17 ≡ false → act_of t ≡ act_for (Acts.asynchronous_kind t)) asynchronous_types (
      (λ z. refl),
      (
        (λ z. refl),
        ((λ z. refl), ((λ z. refl), ((λ z. refl), ((λ z. absurd (true≢false z)), ((λ z. refl), ((λ z. refl), ((λ z. refl), tt))))))),
      ),
    ) t e

-- the number in a reply
abbrev number_in : Reply → ℕ
number_in (Reply.refused n) = 0
number_in Reply.done = 0
number_in Reply.withheld = 0
number_in (Reply.took o k n) = n

-- a message that acted
module _ (d : Server) (m : Model) (a : Agrees d.locks m) (i : Inv d.locks) (c : ℕ) (real : c ≡ no_connection → ⊥) (h : Header) (p : List ℕ) (bs : List ℕ)
    (eh : header bs ≡ h) (ep : drop 16 bs ≡ p) where
  none_alike : Alike (change d.locks LockEvent.nothing) (as_before m)
  unfolding change
  none_alike = record { agrees = a; told = refl }

  abbrev Acted : ℕ → LockEvent → Type 0
  Acted n e = Alike (change d.locks e) (delivered acted c n bs m)

  -- by the act that its type names
  by_act : (n : ℕ) (e : LockEvent) (x : Act) → act_of h.kind ≡ x → Alike (change d.locks e) (do_act x c n h bs m) → Acted n e
  unfolding delivered
  by_act n e x q k = rw (eh, q) k

  opens_alike : (b : Bool) → eqb h.kind 0 ≡ b → role_of d.locks.entries c ≡ r_none → Passes (Checks.opening_rules d h p)
      → Acted (number_in (Acts.opens b d c h).reply) (Acts.opens b d c h).event
  opens_alike true t r q =
      by_act _ _ LockModel.a_enter
      (ap (λ (x : Bool). cond x LockModel.a_enter (cond (eqb h.kind 17) LockModel.a_join
      (cond (eqb h.kind 4) LockModel.a_lock (cond (eqb h.kind 19) LockModel.a_clear
      (cond (one_of commands h.kind) LockModel.a_message LockModel.a_none))))) t)
      (sim_enter d.locks m a i.sound.good i.sound.firm (slot_of_number d.locks.entries 0) _ c (opens_fit d c h p true t real i r q))
  opens_alike false t r q =
      let es = d.locks.entries in
      let x = at es (slot_of_number es h.param) in
      let t17 : eqb h.kind 17 ≡ true = rw t at (not_off (either 0 17 h.kind) q.0) in
      let f : Pairs es (slot_of_number es h.param) c = opens_fit d c h p false t real i r q in
      let n : x.number ≡ h.param = live_found es h.param f.alive in
      by_act h.param _ LockModel.a_join (rw (t, t17)) (rw n at (sim_pair d.locks m a i.sound.good i.sound.firm (slot_of_number es h.param) c f))

  lock_alike : (b : Bool) → live (at d.locks.entries (slot_of d c)) ≡ true
      → Alike (change d.locks (Acts.lock_event b (slot_of d c) h p)) (LockModel.lock_message b (at d.locks.entries (slot_of d c)).number h bs m)
  lock_alike true v = sim_free d.locks m a i.sound.good i.sound.firm (slot_of d c) v h.param
  lock_alike false v = rw ep (sim_ask d.locks m a i.sound.good i.sound.firm (slot_of d c) v h.param p)

  async_alike : (k : Acts.AsynchronousKind) → live (at d.locks.entries (slot_of d c)) ≡ true
      → Alike (change d.locks (Acts.asynchronous_event k (slot_of d c) h p)) (do_act (act_for k) c (at d.locks.entries (slot_of d c)).number h bs m)
  unfolding Acts.asynchronous_event act_for
  async_alike Acts.k_lock v = lock_alike (eqb h.code 0) v
  async_alike Acts.k_remote_local v = none_alike
  async_alike Acts.k_maximum_size v = none_alike
  async_alike Acts.k_device_clear v = sim_clear d.locks m a i.sound.good i.sound.firm (slot_of d c) v
  async_alike Acts.k_status_query v = none_alike
  async_alike Acts.k_lock_info v = none_alike

  sync_alike : (k : Acts.SynchronousKind) → live (at d.locks.entries (slot_of d c)) ≡ true
      → Alike (change d.locks (Acts.synchronous_event k (slot_of d c) h)) (do_act (sync_act_for k) c (at d.locks.entries (slot_of d c)).number h bs m)
  unfolding sync_act_for
  sync_alike Acts.k_data v = sim_command d.locks m a i.sound.good i.sound.firm (slot_of d c) v h.param
  sync_alike Acts.k_data_end v = sim_command d.locks m a i.sound.good i.sound.firm (slot_of d c) v h.param
  sync_alike Acts.k_trigger v = sim_command d.locks m a i.sound.good i.sound.firm (slot_of d c) v h.param
  sync_alike Acts.k_clear_complete v = none_alike

  acts_alike : (r : Role) → role_of d.locks.entries c ≡ r → judged r d (slot_of d c) h p ≡ v_acts
      → Acted (number_in (Acts.acts r d (slot_of d c) c h p).reply) (Acts.acts r d (slot_of d c) c h p).event
  unfolding Acts.acts
  acts_alike r_none e q = opens_alike (eqb h.kind 0) refl e (opening_passed d h p q)
  acts_alike r_half_open e q = absurd (let z : ◌≡◌ {A = ℕ} 0 1 = cc in omega arith)
  acts_alike r_synchronous e q =
      let t = sync_passed d (slot_of d c) h p q in
      by_act _ _ (sync_act_for (Acts.synchronous_kind h.kind))
      (sync_act h.kind (acted_class synchronous h.kind t.1.1.1.0 t.1.1.1.1.0) t.0 t.1.0 t.1.1.1.1.1.0)
      (sync_alike (Acts.synchronous_kind h.kind) (sync_live d.locks.entries c e))
  acts_alike r_asynchronous e q =
      let t = async_passed h p q in
      by_act _ _ (act_for (Acts.asynchronous_kind h.kind)) (async_act h.kind (acted_class asynchronous h.kind t.1.1.0 t.1.1.1.0)
      t.1.1.1.1.0) (async_alike (Acts.asynchronous_kind h.kind) (async_live d.locks.entries c e))

-- any call: the lock model does the like of the server's event, then looks
pub record Core (l : Locks) (m : Model) (f : Fed) (e : LockEvent) : Type 0 where
  pub out : ModelResult
  pub is : model_step m f ≡ looked out
  pub alike : Alike (change l e) out

unchanged : (l : Locks) (m : Model) (f : Fed) → Agrees l m → model_step m f ≡ looked (as_before m) → Core l m f LockEvent.nothing
unfolding change
unchanged l m f a e = record { out = as_before m; is = e; alike = record { agrees = a; told = refl } }

module _ (d : Server) (m : Model) (a : Agrees d.locks m) (i : Inv d.locks) where
  removes : (c : ℕ) → (c ≡ no_connection → ⊥) → (f : Fed) → model_step m f ≡ looked (LockModel.removal c m) → Core d.locks m f (LockEvent.close (slot_of d c))
  removes c r f e = record { out = LockModel.removal c m; is = e; alike = sim_drop d.locks m a i.sound.good i.sound.firm c r }

  reply_acted : (r : Role) (c : ℕ) (h : Header) (p bs : List ℕ) (room : ℕ)
      → feed (delivery c bs room) (Acts.acts r d (slot_of d c) c h p).reply ≡ Fed.f_delivery c acted (number_in (Acts.acts r d (slot_of d c) c h p).reply) (take (16 + h.len) bs)
  unfolding Acts.acts
  reply_acted r_none c h p bs room = go (eqb h.kind 0)
    where
      go : (b : Bool) → feed (delivery c bs room) (Acts.opens b d c h).reply ≡ Fed.f_delivery c acted (number_in (Acts.opens b d c h).reply) (take (16 + h.len) bs)
      go true = refl
      go false = refl
  reply_acted r_half_open c h p bs room = refl
  reply_acted r_synchronous c h p bs room = refl
  reply_acted r_asynchronous c h p bs room = refl

  effect_core : (c k : ℕ) (bs : List ℕ) (room : ℕ) → (c ≡ no_connection → ⊥) → (v : Verdict) (s : Scan) (r : Role) → scan k bs ≡ s → role_of d.locks.entries c ≡ r → verdict r d (slot_of d c) s ≡ v
      → Core d.locks m (feed (delivery c bs room) (effect v s r d (slot_of d c) c).reply) (effect v s r d (slot_of d c) c).event
  unfolding effect verdict model_step delivered
  effect_core c k bs room n v_more s r es er ev = unchanged d.locks m _ a refl
  effect_core c k bs room n v_held s r es er ev = unchanged d.locks m _ a refl
  effect_core c k bs room n v_skipped s r es er ev = unchanged d.locks m _ a refl
  effect_core c k bs room n v_ignored s r es er ev = unchanged d.locks m _ a refl
  effect_core c k bs room n (v_error x) s r es er ev = unchanged d.locks m _ a refl
  effect_core c k bs room n (v_fatal x) s r es er ev = removes c n _ refl
  effect_core c k bs room n v_closed s r es er ev = removes c n _ refl
  effect_core c k bs room n v_acts empty r es er ev = unchanged d.locks m _ a refl
  effect_core c k bs room n v_acts few r es er ev = unchanged d.locks m _ a refl
  effect_core c k bs room n v_acts wrong r es er ev = unchanged d.locks m _ a refl
  effect_core c k bs room n v_acts (skipping x) r es er ev = unchanged d.locks m _ a refl
  effect_core c k bs room n v_acts (long x) r es er ev = unchanged d.locks m _ a refl
  effect_core c k bs room n v_acts (part x) r es er ev = unchanged d.locks m _ a refl
  effect_core c k bs room n v_acts (whole h p) r es er ev =
      let num = number_in (Acts.acts r d (slot_of d c) c h p).reply in
      record {
        out = delivered acted c num (take (16 + h.len) bs) m;
        is = ap (model_step m) (reply_acted r c h p bs room);
        alike = acts_alike d m a i c n h p (take (16 + h.len) bs) (header_cut k bs h p es) (payload_cut k bs h p es) r er ev;
      }

  pub plan_core : (e : Event) → refusal d e ≡ 0 → Core d.locks m (feed e (plan d e).reply) (plan d e).event
  unfolding plan received model_step
  plan_core (opening c) z = unchanged d.locks m _ a refl
  plan_core (delivery c bs room) z = effect_core c (connection_at d.rest c).remainder bs room (real_delivery d c bs room z) _
      (scan (connection_at d.rest c).remainder bs) (role_of d.locks.entries c) refl refl refl
  plan_core (cut c room) z = removes c (real_cut d c room z) _ refl
  plan_core (clock t room) z = record { out = LockModel.reading t m; is = refl; alike = sim_tick d.locks m a i.sound.good i.sound.firm t }
  plan_core (answer n p end sh room) z = go (withholds d n end sh)
    where
      go : (w : Bool) → Core d.locks m (feed (answer n p end sh room) (cond w Reply.withheld Reply.done)) LockEvent.nothing
      go true = unchanged d.locks m _ a refl
      go false = unchanged d.locks m _ a refl
  plan_core (status b) z = unchanged d.locks m _ a refl
  plan_core (setting s) z = unchanged d.locks m _ a refl

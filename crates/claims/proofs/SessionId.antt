-- L, proved: the number issued is the first free one after the last issued, which is the one that the log shows.
use mathlib.Core.Path.{◌≡◌, refl, sym, ap, ◌∙◌}
use mathlib.Core.Bool.{Bool, true, false, cond, true≢false}
use mathlib.Core.List.{List, [], ◌∷◌}
use mathlib.Core.Logic.{◌⊎◌, inl, inr}
use Prim.Native.Nat.{ℕ, zero, suc, ◌+◌, ◌*◌, ◌/◌, ◌<◌, ◌≤◌, min}
use native.Mathlib.Omega.{arith}
use lib.Dec.{eqb, ltb}
use lib.ListN.{length}
use borrow.Author.Tests.{eqb-true, eq-eqb, ltb-true, ltb-false}
use Rattle.wire.specs.declared.Header.{Header}
use Rattle.wire.specs.Message.{header}
use Rattle.wire.specs.Frame.{frame_of}
use Rattle.wire.specs.Class.{one_of, asynchronous}
use Rattle.model.specs.Sizes.{session_limit, last_session_id, protocol_version}
use Rattle.model.specs.MessageTypes.{Initialize, InitializeResponse}
use Rattle.model.specs.Lists.{all}
use Rattle.model.specs.State.{Entry, live, slot_of_number, Server, connection_at, fresh, Making, Rest}
use Rattle.model.specs.Interface.{Event, Event.opening, Event.delivery, Event.cut, Event.clock, Event.answer, Event.status, Event.setting, Outcome.more_needed}
use Rattle.model.specs.Interface.{Outcome.skipped, Outcome.held, Outcome.ignored, Outcome.error_sent, Outcome.closed, Outcome.acted, Reply, Reply.refused}
use Rattle.model.specs.Interface.{Reply.done, Reply.withheld, Reply.took}
use Rattle.model.specs.Scan.{Scan, Scan.empty, Scan.few, Scan.wrong, Scan.skipping, Scan.long, Scan.part, Scan.whole, scan}
use Rattle.model.specs.Place.{slot_of, Role, Role.r_none, Role.r_half_open, Role.r_synchronous, Role.r_asynchronous, role_of}
use Rattle.model.specs.Locks.{candidate, IsLive, issued}
use Rattle.model.specs.Checks.{Verdict, Verdict.v_more, Verdict.v_skipped, Verdict.v_held, Verdict.v_ignored, Verdict.v_closed, Verdict.v_acts, Verdict.v_error, Verdict.v_fatal, verdict, judged}
use Rattle.model.specs.Acts
use Rattle.model.specs.Refusals.{refusal}
use Rattle.model.specs.Acts.{preference}
use Rattle.model.specs.Step.{withholds, Result, effect, received, plan, answered, finish, step, final, log}
use Rattle.model.specs.SessionId.{next, onward, in_use, FirstFree, SessionId, by_line, last_in_log, SessionIds, NumbersIssued}
use Rattle.claims.proofs.Classes.{asynchronous_types, acted_class}
use Rattle.model.proofs.Basics.{both, same?}
use Rattle.claims.proofs.Invariant.{numbered}
use Rattle.claims.proofs.Numbers.{live_found, issues}
use Rattle.claims.proofs.Fits.{opening_passed, sync_passed, async_passed, inv_run}
use Rattle.claims.proofs.ReadOff.{each_of}
use Rattle.claims.proofs.Slots.{any_at, any_none}
use Rattle.claims.proofs.Replies.{Acting, acting}
use Rattle.claims.proofs.Access.{whole_read}

-- the order of the numbers
onward_candidate : (k last : ℕ) → last ≤ last_session_id → onward (suc k) last ≡ candidate last k
onward_candidate zero last l = go (ltb last last_session_id) refl
  where
    go : (b : Bool) → ltb last last_session_id ≡ b → cond b (suc last) 1 ≡ candidate last 0
    go true e = omega (arith, ltb-true last last_session_id e)
    go false e = omega (arith, ltb-false last last_session_id e)
onward_candidate (suc k) last l = ap next (onward_candidate k last l) ∙ go (ltb (candidate last k) last_session_id) refl
  where
    go : (b : Bool) → ltb (candidate last k) last_session_id ≡ b → cond b (suc (candidate last k)) 1 ≡ candidate last (suc k)
    go true e = omega (arith, ltb-true (candidate last k) last_session_id e)
    go false e = omega (arith, ltb-false (candidate last k) last_session_id e)

live_in_use : (es : List Entry) (n : ℕ) → IsLive es n ≡ true → in_use es n ≡ true
live_in_use es n v =
    let q = live_found es n v in
    any_at (numbered n) es (slot_of_number es n) refl (both _ _ v (eq-eqb _ _ q))

record Found (es : List Entry) (last n : ℕ) : Type 0 where
  steps : ℕ
  here : n ≡ candidate last steps
  before : (m : ℕ) → m < steps → in_use es (candidate last m) ≡ true

tries : (es : List Entry) (last f k : ℕ) → ((m : ℕ) → m < k → in_use es (candidate last m) ≡ true) → Found es last (issued f k es last)
tries es last zero k h = record { steps = k; here = refl; before = h }
tries es last (suc f) k h = go (IsLive es (candidate last k)) refl (λ g. tries es last f (suc k) g)
  where
    more_needed : IsLive es (candidate last k) ≡ true → (m : ℕ) → m < suc k → in_use es (candidate last m) ≡ true
    more_needed v m l = pick (same? m k)
      where
        pick : (m ≡ k) ⊎ (m ≡ k → ⊥) → in_use es (candidate last m) ≡ true
        pick (inl e) = ap (λ z. in_use es (candidate last z)) e ∙ live_in_use es (candidate last k) v
        pick (inr n) = h m (omega (arith, n))

    go : (b : Bool) → IsLive es (candidate last k) ≡ b → (((m : ℕ) → m < suc k → in_use es (candidate last m) ≡ true) → Found es last (issued f (suc k) es last))
        → Found es last (elim b [ true ↦ issued f (suc k) es last | false ↦ candidate last k ])
    go true v ih = ih (more_needed v)
    go false v ih = record { steps = k; here = refl; before = h }

pub first_free : (es : List Entry) (last : ℕ) → length es ≡ session_limit → all live es ≡ false → last ≤ last_session_id → FirstFree es last (issued session_limit 0 es last)
first_free es last s a l =
    let f = tries es last session_limit 0 (λ m z. absurd (omega arith)) in
    let g = issues es last a s in
    record {
      at_least_1 = omega (arith, f.here);
      at_most_65535 = omega (arith, f.here);
      not_in_use = any_none (numbered (issued session_limit 0 es last)) es g.fresh;
      passed = f.steps;
      comes_next = f.here ∙ sym (onward_candidate f.steps last l);
      all_in_use = λ m z. ap (in_use es) (onward_candidate m last l) ∙ f.before m z;
    }

-- the last number issued, through each call
async_last : (k : Acts.AsynchronousKind) (r : Rest) (i : ℕ) (h : Header) (p : List ℕ) → (Acts.asynchronous_rest k r i h p).last_issued ≡ r.last_issued
unfolding Acts.asynchronous_rest
async_last Acts.k_lock r i h p = refl
async_last Acts.k_remote_local r i h p = refl
async_last Acts.k_maximum_size r i h p = refl
async_last Acts.k_device_clear r i h p = refl
async_last Acts.k_status_query r i h p = refl
async_last Acts.k_lock_info r i h p = refl

async_not_0 : (t : ℕ) → one_of asynchronous_types t ≡ true → eqb t 0 ≡ false
async_not_0 t e = each_of (λ t. eqb t 0 ≡ false) asynchronous_types (refl, (refl, (refl, (refl, (refl, (refl, (refl, (refl, (refl, tt))))))))) t e

module _ (d : Server) (c : ℕ) (bs : List ℕ) (room : ℕ) where
  abbrev Tracks : Acts.Plan → Type 0
  Tracks p = p.rest.last_issued ≡ by_line (delivery c bs room) p.reply d.rest.last_issued

  acts_last : (r : Role) (h : Header) (p : List ℕ) → header bs ≡ h → judged r d (slot_of d c) h p ≡ v_acts → Tracks (Acts.acts r d (slot_of d c) c h p)
  unfolding Acts.acts
  acts_last r_none h p eh q = go (eqb h.kind 0) refl
    where
      go : (b : Bool) → eqb h.kind 0 ≡ b → Tracks (Acts.opens b d c h)
      go true e = rw (eh, e)
      go false e = rw (eh, e)
  acts_last r_half_open h p eh q = absurd (let z : ◌≡◌ {A = ℕ} 0 1 = cc in omega arith)
  acts_last r_synchronous h p eh q = rw (eh, (sync_passed d (slot_of d c) h p q).1.1.1.1.1.0)
  acts_last r_asynchronous h p eh q =
      async_last (Acts.asynchronous_kind h.kind) d.rest (slot_of d c) h p
      ∙ rw (eh, async_not_0 h.kind (acted_class asynchronous h.kind (async_passed h p q).1.1.0 (async_passed h p q).1.1.1.0))

  effect_last : (v : Verdict) (s : Scan) (r : Role) → scan (connection_at d.rest c).remainder bs ≡ s → verdict r d (slot_of d c) s ≡ v → Tracks (effect v s r d (slot_of d c) c)
  unfolding effect verdict
  effect_last v_more s r es ev = refl
  effect_last v_held s r es ev = refl
  effect_last v_skipped s r es ev = refl
  effect_last v_ignored s r es ev = refl
  effect_last (v_error n) s r es ev = refl
  effect_last (v_fatal n) s r es ev = refl
  effect_last v_closed s r es ev = refl
  effect_last v_acts empty r es ev = refl
  effect_last v_acts few r es ev = refl
  effect_last v_acts wrong r es ev = refl
  effect_last v_acts (skipping k) r es ev = refl
  effect_last v_acts (long h) r es ev = refl
  effect_last v_acts (part h) r es ev = refl
  effect_last v_acts (whole h p) r es ev = acts_last r h p (whole_read _ bs h p es).1 ev

  -- an Initialize that acts finds a free slot
  abbrev Opens : ℕ → Acts.Plan → Type 0
  Opens n p = (all live d.locks.entries ≡ false) × (n ≡ issued session_limit 0 d.locks.entries d.rest.last_issued) × (p ≡ Acts.opens true d c (header bs))

  acts_opens : (r : Role) (k n : ℕ) (h : Header) (p : List ℕ) → header bs ≡ h → h.kind ≡ Initialize → judged r d (slot_of d c) h p ≡ v_acts →
      (Acts.acts r d (slot_of d c) c h p).reply ≡ took acted k n → Opens n (Acts.acts r d (slot_of d c) c h p)
  unfolding Acts.acts
  acts_opens r_none k n h p eh t q e =
      let b : eqb h.kind 0 ≡ true = eq-eqb _ _ t in
      let o : took acted (16 + h.len) (issued session_limit 0 d.locks.entries d.rest.last_issued) ≡ took acted k n = rw b at e in
      (rw b at (opening_passed d h p q).1.1.1.0, cc, rw (b, eh))
  acts_opens r_half_open k n h p eh t q e = absurd (let z : ◌≡◌ {A = ℕ} 0 1 = cc in omega arith)
  acts_opens r_synchronous k n h p eh t q e = absurd (true≢false (sym (eq-eqb h.kind 0 t) ∙ (sync_passed d (slot_of d c) h p q).1.1.1.1.1.0))
  acts_opens r_asynchronous k n h p eh t q e = absurd (true≢false
      (sym (eq-eqb h.kind 0 t) ∙ async_not_0 h.kind (acted_class asynchronous h.kind (async_passed h p q).1.1.0
      (async_passed h p q).1.1.1.0)))

  abbrev Opened : ℕ → Type 0
  Opened n = (all live d.locks.entries ≡ false) × (n ≡ issued session_limit 0 d.locks.entries d.rest.last_issued) × (step d (delivery c bs room) ≡ finish d (Acts.opens true d c (header bs)))

  step_opens : (k n : ℕ) → (step d (delivery c bs room)).reply ≡ took acted k n → (header bs).kind ≡ Initialize → Opened n
  unfolding finish
  step_opens k n e t =
      let a = acting d c bs room k n e in
      let o = acts_opens (role_of d.locks.entries c) k n a.head a.payload a.reads (rw a.reads at t) a.passes (replied a) in
      (o.0, o.1, a.does ∙ ap (finish d) o.2)
    where
      replied : (a : Acting d c bs room) → (Acts.acts (role_of d.locks.entries c) d (slot_of d c) c a.head a.payload).reply ≡ took acted k n
      replied a = ap (λ (r : Result). r.reply) (sym a.does) ∙ e

  open_frames : (n : ℕ) → Opened n → (step d (delivery c bs room)).frames ≡ frame_of c InitializeResponse (preference d) (min ((header bs).param / 65536) protocol_version * 65536 + n) [] ∷ []
  unfolding finish Rattle.model.specs.Locks.change
  open_frames n o = ap (λ (r : Result). r.frames) o.2 ∙ rw (← o.1)

step_last : (d : Server) (e : Event) → (step d e).server.rest.last_issued ≡ by_line e (step d e).reply d.rest.last_issued
unfolding step answered finish plan received
step_last d e = go (refusal d e) e
  where
    go : (z : ℕ) (e : Event) → (answered z d e).server.rest.last_issued ≡ by_line e (answered z d e).reply d.rest.last_issued
    go (suc z) e = refl
    go zero (opening c) = refl
    go zero (delivery c bs room) = effect_last d c bs room _ (scan (connection_at d.rest c).remainder bs) (role_of d.locks.entries c) refl refl
    go zero (cut c room) = refl
    go zero (clock t room) = refl
    go zero (answer n p end sh room) = same (withholds d n end sh)
      where
        same : (w : Bool) → d.rest.last_issued ≡ by_line (answer n p end sh room) (cond w Reply.withheld Reply.done) d.rest.last_issued
        same true = refl
        same false = refl
    go zero (status b) = refl
    go zero (setting s) = refl

-- of any server with its slots, whose last number is one
pub session_id : (d : Server) → length d.locks.entries ≡ session_limit → d.rest.last_issued ≤ last_session_id → SessionId d
session_id d s l =
    record {
      issues = λ c bs room k n e t.
          let o = step_opens d c bs room k n e t in
          record {
            first_free = rw o.1 (first_free d.locks.entries d.rest.last_issued s o.0 l);
            sent = open_frames d c bs room n o;
            remembered = step_last d (delivery c bs room) ∙ ap (λ (r : Reply). by_line (delivery c bs room) r d.rest.last_issued) e
                ∙ ap (λ (b : Bool). cond b n d.rest.last_issued) (eq-eqb _ _ t);
          };
    }

-- after any list from the fresh server
last_list : (es : List Event) (d : Server) → (final d es).rest.last_issued ≡ last_in_log (log d es) d.rest.last_issued
unfolding final log last_in_log
last_list [] d = refl
last_list (e ∷ es) d = last_list es (step d e).server ∙ ap (last_in_log (log (step d e).server es)) (step_last d e)

line_bound : (d : Server) (e : Event) (r : Reply) → (step d e).reply ≡ r → d.rest.last_issued ≤ last_session_id → by_line e r d.rest.last_issued ≤ last_session_id
line_bound d e (refused m) q l = l
line_bound d e done q l = l
line_bound d e withheld q l = l
line_bound d (opening c) (took o k n) q l = l
line_bound d (cut c room) (took o k n) q l = l
line_bound d (clock t room) (took o k n) q l = l
line_bound d (answer m x end sh room) (took o k n) q l = l
line_bound d (status s) (took o k n) q l = l
line_bound d (setting u) (took o k n) q l = l
line_bound d (delivery c bs room) (took more_needed k n) q l = l
line_bound d (delivery c bs room) (took skipped k n) q l = l
line_bound d (delivery c bs room) (took held k n) q l = l
line_bound d (delivery c bs room) (took ignored k n) q l = l
line_bound d (delivery c bs room) (took error_sent k n) q l = l
line_bound d (delivery c bs room) (took closed k n) q l = l
line_bound d (delivery c bs room) (took acted k n) q l = go (eqb (header bs).kind 0) refl
  where
    go : (b : Bool) → eqb (header bs).kind 0 ≡ b → cond b n d.rest.last_issued ≤ last_session_id
    go true t =
        let f = tries d.locks.entries d.rest.last_issued session_limit 0 (λ m z. absurd (omega arith)) in
        omega (arith, f.here, (step_opens d c bs room k n q (eqb-true _ _ t)).1)
    go false t = l

last_bound : (es : List Event) (d : Server) → d.rest.last_issued ≤ last_session_id → (final d es).rest.last_issued ≤ last_session_id
unfolding final
last_bound [] d l = l
last_bound (e ∷ es) d l = last_bound es (step d e).server (rw (step_last d e) (line_bound d e (step d e).reply refl l))

pub session_ids : (v : Making) (es : List Event) → SessionIds v es
session_ids v es =
    record {
      issues = λ c bs room k n e t.
          rw (← last_list es (fresh v)) ((session_id (final (fresh v) es) (inv_run v es).sound.firm.slots (last_bound es (fresh v) (omega arith))).issues c bs room k n e t);
    }

pub numbers_issued : NumbersIssued
numbers_issued = record { any_server = session_id; any_run = session_ids }

-- What the reply to a delivery tells: one that acted was a whole message that passed its checks; one that closed took the session of its
-- connection.
use mathlib.Core.Path.{◌≡◌, refl, ap, ◌∙◌}
use mathlib.Core.Bool.{Bool, true, false}
use mathlib.Core.List.{List, [], ◌∷◌}
use Prim.Native.Nat.{ℕ, zero, suc}
use native.Mathlib.Omega.{arith}
use lib.Dec.{eqb}
use Rattle.wire.specs.declared.Header.{Header}
use Rattle.wire.specs.Message.{header}
use Rattle.wire.specs.Frame.{frame_of}
use Rattle.model.specs.MessageTypes.{Error}
use Rattle.model.specs.State.{Server, connection_at}
use Rattle.model.specs.Interface.{Event, Event.delivery, Outcome, Outcome.error_sent, Outcome.closed, Outcome.acted, Reply.took}
use Rattle.model.specs.Scan.{Scan, Scan.empty, Scan.few, Scan.wrong, Scan.skipping, Scan.long, Scan.part, Scan.whole, scan}
use Rattle.model.specs.Place.{slot_of, Role, Role.r_none, Role.r_half_open, Role.r_synchronous, Role.r_asynchronous, role_of}
use Rattle.model.specs.Locks.{LockEvent}
use Rattle.model.specs.Checks.{Verdict, Verdict.v_more, Verdict.v_skipped, Verdict.v_held, Verdict.v_ignored, Verdict.v_closed, Verdict.v_acts, Verdict.v_error, Verdict.v_fatal, verdict, judged}
use Rattle.model.specs.Acts
use Rattle.model.specs.Refusals.{refusal}
use Rattle.model.specs.Step.{Result, effect, received, plan, answered, finish, step, closing}
use Rattle.claims.proofs.Scanning.{whole_scan}

-- a call that is not refused
pub accepted : (d : Server) (e : Event) (o : Outcome) (k n : ℕ) → (step d e).reply ≡ took o k n → refusal d e ≡ 0
unfolding step answered
accepted d e o k n q = go (refusal d e) q
  where
    go : (z : ℕ) → (answered z d e).reply ≡ took o k n → z ≡ 0
    go zero q = refl
    go (suc z) q = absurd (let y : ◌≡◌ {A = ℕ} 0 1 = cc in omega arith)

-- a message that acts
pub record Acting (d : Server) (c : ℕ) (bs : List ℕ) (room : ℕ) : Type 0 where
  pub head : Header
  pub payload : List ℕ
  pub shows : scan (connection_at d.rest c).remainder bs ≡ Scan.whole head payload
  pub reads : header bs ≡ head
  pub passes : judged (role_of d.locks.entries c) d (slot_of d c) head payload ≡ v_acts
  pub accepted : refusal d (delivery c bs room) ≡ 0
  pub does : step d (delivery c bs room) ≡ finish d (Acts.acts (role_of d.locks.entries c) d (slot_of d c) c head payload)

-- a message that is answered Error, with code `code`
pub record Erring (d : Server) (c : ℕ) (bs : List ℕ) (room : ℕ) : Type 0 where
  pub code : ℕ
  pub verdict_is : verdict (role_of d.locks.entries c) d (slot_of d c) (scan (connection_at d.rest c).remainder bs) ≡ v_error code
  pub sends : (step d (delivery c bs room)).frames ≡ frame_of c Error code 0 [] ∷ []

-- a message that closes
pub record Closing (d : Server) (c : ℕ) (bs : List ℕ) (room : ℕ) : Type 0 where
  pub done_by : Acts.Plan
  pub closes_slot : done_by.event ≡ LockEvent.close (slot_of d c)
  pub rest_is : done_by.rest ≡ closing d c
  pub accepted : refusal d (delivery c bs room) ≡ 0
  pub planned : plan d (delivery c bs room) ≡ done_by
  pub does : step d (delivery c bs room) ≡ finish d done_by

module _ (d : Server) (c : ℕ) (bs : List ℕ) (room : ℕ) where
  opens_acted : (b : Bool) (h : Header) (o : Outcome) (k n : ℕ) → (Acts.opens b d c h).reply ≡ took o k n → o ≡ acted
  opens_acted true h o k n e = cc
  opens_acted false h o k n e = cc

  acts_acted : (r : Role) (h : Header) (p : List ℕ) (o : Outcome) (k n : ℕ) → (Acts.acts r d (slot_of d c) c h p).reply ≡ took o k n → o ≡ acted
  unfolding Acts.acts
  acts_acted r_none h p o k n e = opens_acted (eqb h.kind 0) h o k n e
  acts_acted r_half_open h p o k n e = cc
  acts_acted r_synchronous h p o k n e = cc
  acts_acted r_asynchronous h p o k n e = cc

  -- by verdict and scan
  act_shown : (s : Scan) (k n : ℕ) → scan (connection_at d.rest c).remainder bs ≡ s → verdict (role_of d.locks.entries c) d (slot_of d c) s ≡ v_acts → refusal d (delivery c bs room) ≡ 0
      → (effect v_acts s (role_of d.locks.entries c) d (slot_of d c) c).reply ≡ took acted k n →
      step d (delivery c bs room) ≡ finish d (effect v_acts s (role_of d.locks.entries c) d (slot_of d c) c) → Acting d c bs room
  unfolding effect verdict
  act_shown empty k n es ev z e f = absurd (let y : ◌≡◌ {A = ℕ} 0 1 = cc in omega arith)
  act_shown few k n es ev z e f = absurd (let y : ◌≡◌ {A = ℕ} 0 1 = cc in omega arith)
  act_shown wrong k n es ev z e f = absurd (let y : ◌≡◌ {A = ℕ} 0 1 = cc in omega arith)
  act_shown (skipping x) k n es ev z e f = absurd (let y : ◌≡◌ {A = ℕ} 0 1 = cc in omega arith)
  act_shown (long x) k n es ev z e f = absurd (let y : ◌≡◌ {A = ℕ} 0 1 = cc in omega arith)
  act_shown (part x) k n es ev z e f = absurd (let y : ◌≡◌ {A = ℕ} 0 1 = cc in omega arith)
  act_shown (whole h p) k n es ev z e f = record { head = h; payload = p; shows = es; reads = (whole_scan _ bs h p es).0; passes = ev; accepted = z; does = f }

  by_acted : (v : Verdict) (s : Scan) (k n : ℕ) → scan (connection_at d.rest c).remainder bs ≡ s → verdict (role_of d.locks.entries c) d (slot_of d c) s ≡ v → refusal d (delivery c bs room) ≡ 0
      → (effect v s (role_of d.locks.entries c) d (slot_of d c) c).reply ≡ took acted k n →
      step d (delivery c bs room) ≡ finish d (effect v s (role_of d.locks.entries c) d (slot_of d c) c) → Acting d c bs room
  unfolding effect
  by_acted v_more s k n es ev z e f = absurd (let y : ◌≡◌ {A = ℕ} 0 1 = cc in omega arith)
  by_acted v_held s k n es ev z e f = absurd (let y : ◌≡◌ {A = ℕ} 0 1 = cc in omega arith)
  by_acted v_skipped s k n es ev z e f = absurd (let y : ◌≡◌ {A = ℕ} 0 1 = cc in omega arith)
  by_acted v_ignored s k n es ev z e f = absurd (let y : ◌≡◌ {A = ℕ} 0 1 = cc in omega arith)
  by_acted (v_error x) s k n es ev z e f = absurd (let y : ◌≡◌ {A = ℕ} 0 1 = cc in omega arith)
  by_acted (v_fatal x) s k n es ev z e f = absurd (let y : ◌≡◌ {A = ℕ} 0 1 = cc in omega arith)
  by_acted v_closed s k n es ev z e f = absurd (let y : ◌≡◌ {A = ℕ} 0 1 = cc in omega arith)
  by_acted v_acts s k n es ev z e f = act_shown s k n es ev z e f

  pub acting : (k n : ℕ) → (step d (delivery c bs room)).reply ≡ took acted k n → Acting d c bs room
  unfolding step answered plan received finish
  acting k n e = go (refusal d (delivery c bs room)) refl e
    where
      go : (z : ℕ) → refusal d (delivery c bs room) ≡ z → (answered z d (delivery c bs room)).reply ≡ took acted k n → Acting d c bs room
      go zero z e = by_acted _ (scan (connection_at d.rest c).remainder bs) k n refl refl z e (ap (λ n. answered n d (delivery c bs room)) z)
      go (suc y) z e = absurd (let y : ◌≡◌ {A = ℕ} 0 1 = cc in omega arith)

  by_error : (v : Verdict) (s : Scan) (k n : ℕ) → scan (connection_at d.rest c).remainder bs ≡ s → verdict (role_of d.locks.entries c) d (slot_of d c) s ≡ v
      → (effect v s (role_of d.locks.entries c) d (slot_of d c) c).reply ≡ took error_sent k n →
      step d (delivery c bs room) ≡ finish d (effect v s (role_of d.locks.entries c) d (slot_of d c) c) → Erring d c bs room
  unfolding effect finish Rattle.model.specs.Locks.change
  by_error v_more s k n es ev e f = absurd (let y : ◌≡◌ {A = ℕ} 0 1 = cc in omega arith)
  by_error v_held s k n es ev e f = absurd (let y : ◌≡◌ {A = ℕ} 0 1 = cc in omega arith)
  by_error v_skipped s k n es ev e f = absurd (let y : ◌≡◌ {A = ℕ} 0 1 = cc in omega arith)
  by_error v_ignored s k n es ev e f = absurd (let y : ◌≡◌ {A = ℕ} 0 1 = cc in omega arith)
  by_error (v_error x) s k n es ev e f = record { code = x; verdict_is = ap (verdict (role_of d.locks.entries c) d (slot_of d c)) es ∙ ev; sends = ap (λ (r : Result). r.frames) f }
  by_error (v_fatal x) s k n es ev e f = absurd (let y : ◌≡◌ {A = ℕ} 0 1 = cc in omega arith)
  by_error v_closed s k n es ev e f = absurd (let y : ◌≡◌ {A = ℕ} 0 1 = cc in omega arith)
  by_error v_acts empty k n es ev e f = absurd (let y : ◌≡◌ {A = ℕ} 0 1 = cc in omega arith)
  by_error v_acts few k n es ev e f = absurd (let y : ◌≡◌ {A = ℕ} 0 1 = cc in omega arith)
  by_error v_acts wrong k n es ev e f = absurd (let y : ◌≡◌ {A = ℕ} 0 1 = cc in omega arith)
  by_error v_acts (skipping x) k n es ev e f = absurd (let y : ◌≡◌ {A = ℕ} 0 1 = cc in omega arith)
  by_error v_acts (long x) k n es ev e f = absurd (let y : ◌≡◌ {A = ℕ} 0 1 = cc in omega arith)
  by_error v_acts (part x) k n es ev e f = absurd (let y : ◌≡◌ {A = ℕ} 0 1 = cc in omega arith)
  by_error v_acts (whole h p) k n es ev e f = absurd (let q = acts_acted (role_of d.locks.entries c) h p error_sent k n e in let y : ◌≡◌ {A = ℕ} 0 1 = cc in omega arith)

  pub erring : (k n : ℕ) → (step d (delivery c bs room)).reply ≡ took error_sent k n → Erring d c bs room
  unfolding step answered plan received finish
  erring k n e = go (refusal d (delivery c bs room)) refl e
    where
      go : (z : ℕ) → refusal d (delivery c bs room) ≡ z → (answered z d (delivery c bs room)).reply ≡ took error_sent k n → Erring d c bs room
      go zero z e = by_error _ (scan (connection_at d.rest c).remainder bs) k n refl refl e (ap (λ n. answered n d (delivery c bs room)) z)
      go (suc y) z e = absurd (let y : ◌≡◌ {A = ℕ} 0 1 = cc in omega arith)

  by_closed : (v : Verdict) (s : Scan) (k n : ℕ) → refusal d (delivery c bs room) ≡ 0 → (effect v s (role_of d.locks.entries c) d (slot_of d c) c).reply ≡ took closed k n
      → plan d (delivery c bs room) ≡ effect v s (role_of d.locks.entries c) d (slot_of d c) c →
      step d (delivery c bs room) ≡ finish d (effect v s (role_of d.locks.entries c) d (slot_of d c) c) → Closing d c bs room
  unfolding effect
  by_closed v_more s k n z e g f = absurd (let y : ◌≡◌ {A = ℕ} 0 1 = cc in omega arith)
  by_closed v_held s k n z e g f = absurd (let y : ◌≡◌ {A = ℕ} 0 1 = cc in omega arith)
  by_closed v_skipped s k n z e g f = absurd (let y : ◌≡◌ {A = ℕ} 0 1 = cc in omega arith)
  by_closed v_ignored s k n z e g f = absurd (let y : ◌≡◌ {A = ℕ} 0 1 = cc in omega arith)
  by_closed (v_error x) s k n z e g f = absurd (let y : ◌≡◌ {A = ℕ} 0 1 = cc in omega arith)
  by_closed (v_fatal x) s k n z e g f = record { done_by = _; closes_slot = refl; rest_is = refl; accepted = z; planned = g; does = f }
  by_closed v_closed s k n z e g f = record { done_by = _; closes_slot = refl; rest_is = refl; accepted = z; planned = g; does = f }
  by_closed v_acts empty k n z e g f = absurd (let y : ◌≡◌ {A = ℕ} 0 1 = cc in omega arith)
  by_closed v_acts few k n z e g f = absurd (let y : ◌≡◌ {A = ℕ} 0 1 = cc in omega arith)
  by_closed v_acts wrong k n z e g f = absurd (let y : ◌≡◌ {A = ℕ} 0 1 = cc in omega arith)
  by_closed v_acts (skipping x) k n z e g f = absurd (let y : ◌≡◌ {A = ℕ} 0 1 = cc in omega arith)
  by_closed v_acts (long x) k n z e g f = absurd (let y : ◌≡◌ {A = ℕ} 0 1 = cc in omega arith)
  by_closed v_acts (part x) k n z e g f = absurd (let y : ◌≡◌ {A = ℕ} 0 1 = cc in omega arith)
  by_closed v_acts (whole h p) k n z e g f = absurd (let q = acts_acted (role_of d.locks.entries c) h p closed k n e in let y : ◌≡◌ {A = ℕ} 0 1 = cc in omega arith)

  pub closed_by : (k n : ℕ) → (step d (delivery c bs room)).reply ≡ took closed k n → Closing d c bs room
  unfolding step answered plan received finish
  closed_by k n e = go (refusal d (delivery c bs room)) refl e
    where
      go : (z : ℕ) → refusal d (delivery c bs room) ≡ z → (answered z d (delivery c bs room)).reply ≡ took closed k n → Closing d c bs room
      go zero z e = by_closed _ (scan (connection_at d.rest c).remainder bs) k n z e refl (ap (λ n. answered n d (delivery c bs room)) z)
      go (suc y) z e = absurd (let y : ◌≡◌ {A = ℕ} 0 1 = cc in omega arith)

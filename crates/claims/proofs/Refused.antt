-- A call is refused for its cause only, and a refusal changes nothing. A delivery that is not refused is answered with an outcome.
use mathlib.Core.Path.{◌≡◌, ap, subst}
use mathlib.Core.Bool.{Bool, true, false, cond}
use mathlib.Core.Logic.{◌↔◌}
use mathlib.Core.List.{List, []}
use Prim.Native.Nat.{ℕ, zero, suc}
use lib.Dec.{eqb}
use Rattle.wire.specs.declared.Header.{Header}
use Rattle.model.specs.State.{Server, connection_at}
use Rattle.model.specs.Interface.{Event, Event.opening, Event.delivery, Event.cut, Event.clock, Event.answer, Event.status, Event.setting, Reply, Reply.refused, Reply.done, Reply.withheld, Reply.took}
use Rattle.model.specs.Scan.{Scan, Scan.empty, Scan.few, Scan.wrong, Scan.skipping, Scan.long, Scan.part, Scan.whole, scan}
use Rattle.model.specs.Place.{Role, Role.r_none, Role.r_half_open, Role.r_synchronous, Role.r_asynchronous, role_of, slot_of}
use Rattle.model.specs.Checks.{Verdict, Verdict.v_more, Verdict.v_skipped, Verdict.v_held, Verdict.v_ignored, Verdict.v_closed, Verdict.v_acts, Verdict.v_error, Verdict.v_fatal, verdict}
use Rattle.model.specs.Acts.{acts, opens}
use Rattle.model.specs.Refusals.{refusal}
use Rattle.model.specs.Step.{withholds, answered, effect, finish, plan, received, step}

-- a delivery that is not refused is answered with an outcome
abbrev pub Took : Reply → Type 0
Took (refused n) = ⊥
Took done = ⊥
Took withheld = ⊥
Took (took o k n) = Unit {0}

opens_took : (b : Bool) (d : Server) (c : ℕ) (h : Header) → Took (opens b d c h).reply
opens_took true d c h = tt
opens_took false d c h = tt

acts_took : (r : Role) (d : Server) (i c : ℕ) (h : Header) (p : List ℕ) → Took (acts r d i c h p).reply
unfolding acts
acts_took r_none d i c h p = opens_took (eqb h.kind 0) d c h
acts_took r_half_open d i c h p = tt
acts_took r_synchronous d i c h p = tt
acts_took r_asynchronous d i c h p = tt

pub effect_took : (v : Verdict) (s : Scan) (r : Role) (d : Server) (i c : ℕ) → Took (effect v s r d i c).reply
unfolding effect
effect_took v_more s r d i c = tt
effect_took v_skipped s r d i c = tt
effect_took v_held s r d i c = tt
effect_took v_ignored s r d i c = tt
effect_took v_closed s r d i c = tt
effect_took (v_error n) s r d i c = tt
effect_took (v_fatal n) s r d i c = tt
effect_took v_acts empty r d i c = tt
effect_took v_acts few r d i c = tt
effect_took v_acts wrong r d i c = tt
effect_took v_acts (skipping k) r d i c = tt
effect_took v_acts (long h) r d i c = tt
effect_took v_acts (part h) r d i c = tt
effect_took v_acts (whole h p) r d i c = acts_took r d i c h p

-- what is planned is never a refusal
abbrev NotRefused : Reply → Type 0
NotRefused (refused n) = ⊥
NotRefused done = Unit {0}
NotRefused withheld = Unit {0}
NotRefused (took o k n) = Unit {0}

took_not : (y : Reply) → Took y → NotRefused y
took_not (refused n) t = t
took_not done t = tt
took_not withheld t = tt
took_not (took o k n) t = tt

plan_not : (d : Server) (e : Event) → NotRefused (plan d e).reply
unfolding plan received
plan_not d (opening c) = tt
plan_not d (delivery c bs room) =
    let s = scan (connection_at d.rest c).remainder bs in
    let r = role_of d.locks.entries c in
    let i = slot_of d c in
    took_not (effect (verdict r d i s) s r d i c).reply (effect_took (verdict r d i s) s r d i c)
plan_not d (cut c room) = tt
plan_not d (clock t room) = tt
plan_not d (answer n p end sh room) = go (withholds d n end sh)
  where
    go : (w : Bool) → NotRefused (cond w withheld done)
    go true = tt
    go false = tt
plan_not d (status b) = tt
plan_not d (setting s) = tt

abbrev number_in : Reply → ℕ
number_in (refused n) = n
number_in done = 0
number_in withheld = 0
number_in (took o k n) = 0

module _ (d : Server) (e : Event) where
  pub never_planned : (n : ℕ) → (finish d (plan d e)).reply ≡ refused n → ⊥
  unfolding finish
  never_planned n q = subst NotRefused q (plan_not d e)

  pub for_its_cause : (n : ℕ) → ((step d e).reply ≡ refused (suc n)) ↔ (refusal d e ≡ suc n)
  unfolding step answered
  for_its_cause n = (go (refusal d e), λ q. ap (λ (k : ℕ). (answered k d e).reply) q)
    where
      go : (k : ℕ) → (answered k d e).reply ≡ refused (suc n) → k ≡ suc n
      go zero q = absurd (never_planned (suc n) q)
      go (suc k) q = ap number_in q

  pub changes_nothing_lem : (n : ℕ) → (step d e).reply ≡ refused n → step d e ≡ record { server = d; reply = refused n; frames = [] }
  unfolding step answered
  changes_nothing_lem n = go (refusal d e)
    where
      go : (k : ℕ) → (answered k d e).reply ≡ refused n → answered k d e ≡ record { server = d; reply = refused n; frames = [] }
      go zero q = absurd (never_planned n q)
      go (suc k) q = ap (λ (y : Reply). record { server = d; reply = y; frames = [] }) q

-- A, proved: the canonical history leaves the same server, with the same lines; no invariant is needed.
use mathlib.Core.Path.{◌≡◌, refl, sym, ap, ◌∙◌}
use mathlib.Core.Bool.{Bool, true, false, cond, false≢true, true≢false}
use mathlib.Core.List.{List, [], ◌∷◌}
use Prim.Native.Nat.{ℕ, zero, suc, ◌+◌, ◌<◌, ◌≤◌}
use native.Mathlib.Omega.{arith}
use lib.Dec.{eqb}
use lib.ListN.{length}
use Rattle.wire.specs.declared.Header.{Header}
use Rattle.model.specs.State.{Server, connection_at}
use Rattle.model.specs.Interface.{Event, Event.opening, Event.delivery, Event.cut, Event.clock, Event.answer, Event.status, Event.setting, Reply}
use Rattle.model.specs.Scan.{Scan, Scan.empty, Scan.few, Scan.wrong, Scan.skipping, Scan.long, Scan.part, Scan.whole, size, scan}
use Rattle.model.specs.Place.{slot_of, Role, Role.r_none, Role.r_half_open, Role.r_synchronous, Role.r_asynchronous, role_of}
use Rattle.model.specs.Locks.{change}
use Rattle.model.specs.Checks.{Verdict, Verdict.v_more, Verdict.v_skipped, Verdict.v_held, Verdict.v_ignored, Verdict.v_closed, Verdict.v_acts, Verdict.v_error, Verdict.v_fatal, verdict}
use Rattle.model.specs.Acts.{acts, opens}
use Rattle.model.specs.Refusals.{refusal}
use Rattle.model.specs.Step.{withholds, Result, Line, idle, effect, received, plan, answered, finish, step, final, log}
use Rattle.model.specs.Canonical.{omits, taken, bytes, shown, kept, events, showed, Canonical}
use Rattle.claims.proofs.Scanning.{scan_cut, scan_le}

-- what acts takes its whole message, and is not omitted
opens_taken : (b : Bool) (d : Server) (c : ℕ) (h : Header) → taken (opens b d c h).reply ≡ 16 + h.len
opens_taken true d c h = refl
opens_taken false d c h = refl

opens_kept : (b : Bool) (d : Server) (c : ℕ) (h : Header) → omits (opens b d c h).reply ≡ false
opens_kept true d c h = refl
opens_kept false d c h = refl

pub acts_taken : (r : Role) (d : Server) (i c : ℕ) (h : Header) (p : List ℕ) → taken (acts r d i c h p).reply ≡ 16 + h.len
unfolding acts
acts_taken r_none d i c h p = opens_taken (eqb h.kind 0) d c h
acts_taken r_half_open d i c h p = refl
acts_taken r_synchronous d i c h p = refl
acts_taken r_asynchronous d i c h p = refl

acts_kept : (r : Role) (d : Server) (i c : ℕ) (h : Header) (p : List ℕ) → omits (acts r d i c h p).reply ≡ false
unfolding acts
acts_kept r_none d i c h p = opens_kept (eqb h.kind 0) d c h
acts_kept r_half_open d i c h p = refl
acts_kept r_synchronous d i c h p = refl
acts_kept r_asynchronous d i c h p = refl

-- bytes taken: none, or all that the scan is of
effect_size : (v : Verdict) (s : Scan) (r : Role) (d : Server) (i c : ℕ) → 0 < taken (effect v s r d i c).reply → size s ≡ taken (effect v s r d i c).reply
unfolding effect
effect_size v_more s r d i c p = absurd (omega arith)
effect_size v_held s r d i c p = absurd (omega arith)
effect_size v_skipped s r d i c p = refl
effect_size v_ignored s r d i c p = refl
effect_size (v_error n) s r d i c p = refl
effect_size (v_fatal n) s r d i c p = absurd (omega arith)
effect_size v_closed s r d i c p = absurd (omega arith)
effect_size v_acts empty r d i c p = absurd (omega arith)
effect_size v_acts few r d i c p = absurd (omega arith)
effect_size v_acts wrong r d i c p = absurd (omega arith)
effect_size v_acts (skipping k) r d i c p = absurd (omega arith)
effect_size v_acts (long h) r d i c p = absurd (omega arith)
effect_size v_acts (part h) r d i c p = absurd (omega arith)
effect_size v_acts (whole h q) r d i c p = sym (acts_taken r d i c h q)

-- so a delivery that takes bytes does the same with just those
kept_scan : (r : ℕ) (bs : List ℕ) (k : ℕ) → (0 < k → size (scan r bs) ≡ k) → scan r (bytes k bs) ≡ scan r bs
kept_scan r bs zero h = refl
kept_scan r bs (suc k) h = scan_cut r bs (suc k) (h (omega arith)) (omega arith)

kept_step : (d : Server) (e : Event) → step d (shown e (taken (step d e).reply)) ≡ step d e
unfolding step answered plan finish received refusal Rattle.model.specs.Refusals.causes
kept_step d (opening c) = refl
kept_step d (cut c room) = refl
kept_step d (clock t room) = refl
kept_step d (answer n p end sh room) = refl
kept_step d (status b) = refl
kept_step d (setting s) = refl
kept_step d (delivery c bs room) = go (refusal d (delivery c bs room)) refl
  where
    go : (n : ℕ) → refusal d (delivery c bs room) ≡ n
        → step d (delivery c (bytes (taken (answered n d (delivery c bs room)).reply) bs) room) ≡ answered n d (delivery c bs room)
    go zero e =
        let s = scan (connection_at d.rest c).remainder bs in
        let r = role_of d.locks.entries c in
        let i = slot_of d c in
        let k = taken (effect (verdict r d i s) s r d i c).reply in
        ap (λ n. answered n d (delivery c (bytes k bs) room)) e ∙ ap (λ x. finish d (received d c x)) (kept_scan _ bs k (effect_size (verdict r d i s) s r d i c))
    go (suc n) e = ap (λ n. answered n d (delivery c bs room)) e

-- a call that is omitted changes nothing, says nothing and has no event
effect_omitted : (v : Verdict) (s : Scan) (r : Role) (d : Server) (i c : ℕ) → omits (effect v s r d i c).reply ≡ true → effect v s r d i c ≡ idle d (effect v s r d i c).reply
unfolding effect
effect_omitted v_more s r d i c e = refl
effect_omitted v_held s r d i c e = refl
effect_omitted v_skipped s r d i c e = absurd (false≢true e)
effect_omitted v_ignored s r d i c e = absurd (false≢true e)
effect_omitted (v_error n) s r d i c e = absurd (false≢true e)
effect_omitted (v_fatal n) s r d i c e = absurd (false≢true e)
effect_omitted v_closed s r d i c e = absurd (false≢true e)
effect_omitted v_acts empty r d i c e = refl
effect_omitted v_acts few r d i c e = refl
effect_omitted v_acts wrong r d i c e = refl
effect_omitted v_acts (skipping k) r d i c e = refl
effect_omitted v_acts (long h) r d i c e = refl
effect_omitted v_acts (part h) r d i c e = refl
effect_omitted v_acts (whole h q) r d i c e = absurd (true≢false (sym e ∙ acts_kept r d i c h q))

plan_omitted : (d : Server) (e : Event) → omits (plan d e).reply ≡ true → plan d e ≡ idle d (plan d e).reply
unfolding plan received
plan_omitted d (opening c) e = absurd (false≢true e)
plan_omitted d (delivery c bs room) e = effect_omitted _ _ _ d _ c e
plan_omitted d (cut c room) e = absurd (false≢true e)
plan_omitted d (clock t room) e = absurd (false≢true e)
plan_omitted d (answer n p end sh room) e = absurd (false≢true (go (withholds d n end sh) e))
  where
    go : (w : Bool) → omits (cond w Reply.withheld Reply.done) ≡ true → false ≡ true
    go true e = e
    go false e = e
plan_omitted d (status b) e = absurd (false≢true e)
plan_omitted d (setting s) e = absurd (false≢true e)

stays : Server → Reply → Result
stays d r = record { server = d; reply = r; frames = [] }

finish_idle : (d : Server) (r : Reply) → finish d (idle d r) ≡ stays d r
unfolding finish change stays
finish_idle d r = refl

pub step_omitted : (d : Server) (e : Event) → omits (step d e).reply ≡ true → step d e ≡ record { server = d; reply = (step d e).reply; frames = [] }
unfolding step answered finish stays
step_omitted d e = go (refusal d e)
  where
    go : (n : ℕ) → omits (answered n d e).reply ≡ true → answered n d e ≡ stays d (answered n d e).reply
    go zero o = ap (finish d) (plan_omitted d e o) ∙ finish_idle d _
    go (suc n) o = refl

-- no more is taken than was shown
effect_within : (v : Verdict) (s : Scan) (r : Role) (d : Server) (i c n : ℕ) → size s ≤ n → taken (effect v s r d i c).reply ≤ n
effect_within v s r d i c n l = go (taken (effect v s r d i c).reply) (effect_size v s r d i c)
  where
    go : (k : ℕ) → (0 < k → size s ≡ k) → k ≤ n
    go zero f = omega arith
    go (suc k) f = omega (arith, f (omega arith))

step_within : (d : Server) (e : Event) → taken (step d e).reply ≤ showed e
unfolding step answered plan finish received
step_within d e = go (refusal d e) e
  where
    go : (n : ℕ) (e : Event) → taken (answered n d e).reply ≤ showed e
    go (suc n) e = omega arith
    go zero (opening c) = omega arith
    go zero (delivery c bs room) = effect_within _ (scan (connection_at d.rest c).remainder bs) _ d _ c (length bs) (scan_le (connection_at d.rest c).remainder bs)
    go zero (cut c room) = omega arith
    go zero (clock t room) = omega arith
    go zero (answer n p end sh room) = none (withholds d n end sh)
      where
        none : (w : Bool) → taken (cond w Reply.withheld Reply.done) ≤ 0
        none true = omega arith
        none false = omega arith
    go zero (status b) = omega arith
    go zero (setting s) = omega arith

-- the whole list
longer : (d : Server) (e : Event) (es : List Event) → Canonical (step d e).server es → Canonical d (e ∷ es)
unfolding final log stays
longer d e es ih =
    let r = go (omits (step d e).reply) refl in
    record { same_server = r.0; same_lines = r.1; omitted_silent = (λ o. ap (λ x. x.frames) (step_omitted d e o), ih.omitted_silent); within = (step_within d e, ih.within) }
  where
    ks : List Line
    ks = kept (log (step d e).server es)

    x : Line
    x = record { event = shown e (taken (step d e).reply); reply = (step d e).reply; frames = (step d e).frames }

    go : (b : Bool) → omits (step d e).reply ≡ b
        → (final d (events (cond b ks (x ∷ ks))) ≡ final (step d e).server es) × (log d (events (cond b ks (x ∷ ks))) ≡ cond b ks (x ∷ ks))
    go true o =
        let same : d ≡ (step d e).server = sym (ap (λ x. x.server) (step_omitted d e o)) in
        (ap (λ z. final z (events ks)) same ∙ ih.same_server, ap (λ z. log z (events ks)) same ∙ ih.same_lines)
    go false o = (
      ap (λ z. final z.server (events ks)) (kept_step d e) ∙ ih.same_server,
      ap (λ z. record { event = shown e (taken (step d e).reply); reply = z.reply; frames = z.frames } ∷ log z.server (events ks)) (kept_step d e)
          ∙ ap (λ ls. x ∷ ls) ih.same_lines,
    )

pub canonical_history : (es : List Event) (d : Server) → Canonical d es
unfolding final log
canonical_history [] d = record { same_server = refl; same_lines = refl; omitted_silent = tt; within = tt }
canonical_history (e ∷ es) d = longer d e es (canonical_history es (step d e).server)

-- G, proved: access goes to the exclusive holder alone, and there is at most one.
use mathlib.Core.Path.{◌≡◌, refl, sym, ap, ◌∙◌}
use mathlib.Core.Bool.{Bool, true, false, not, ◌&&◌, ◌||◌, false≢true, true≢false}
use mathlib.Core.List.{List}
use Prim.Native.Nat.{ℕ, zero, suc}
use native.Mathlib.Omega.{arith}
use Rattle.wire.specs.declared.Header.{Header}
use Rattle.wire.specs.Message.{header}
use Rattle.wire.specs.Class.{one_of, asynchronous}
use Rattle.model.specs.MessageTypes.{commands}
use Rattle.model.specs.Lists.{all}
use Rattle.model.specs.State.{Entry, at, Server, connection_at, fresh, Making}
use Rattle.model.specs.Interface.{Event, Event.delivery, Outcome.acted, Reply.took}
use Rattle.model.specs.Scan.{Scan, Scan.empty, Scan.few, Scan.wrong, Scan.skipping, Scan.long, Scan.part, Scan.whole, scan}
use Rattle.model.specs.Place.{slot_of, Role, Role.r_none, Role.r_half_open, Role.r_synchronous, Role.r_asynchronous, role_of}
use Rattle.model.specs.Locks.{no_exclusive, no_shared, access}
use Rattle.model.specs.Checks.{Verdict, Verdict.v_more, Verdict.v_skipped, Verdict.v_held, Verdict.v_ignored, Verdict.v_closed, Verdict.v_acts}
use Rattle.model.specs.Checks.{Verdict.v_error, Verdict.v_fatal, verdict, judged, either}
use Rattle.model.specs.Acts
use Rattle.model.specs.Refusals.{refusal}
use Rattle.model.specs.Step.{effect, received, plan, answered, finish, step, final}
use Rattle.model.specs.Isolation.{Isolated}
use Rattle.claims.proofs.Classes.{asynchronous_types}
use Rattle.model.proofs.Basics.{not_off, all_at}
use Rattle.claims.proofs.Scanning.{whole_scan}
use Rattle.claims.proofs.Classes.{acted_class}
use Rattle.claims.proofs.Invariant.{Inv}
use Rattle.claims.proofs.Fits.{opening_passed, sync_passed, async_passed, inv_run}
use Rattle.claims.proofs.ReadOff.{each_of}

-- who has access while slot j holds exclusive
holder_only : (es : List Entry) (i j : ℕ) → (at es j).exclusive ≡ true → access es i ≡ true → (at es i).exclusive ≡ true
unfolding access
holder_only es i j h a = go (at es i).exclusive (all no_exclusive es) refl refl a
  where
    go : (b n : Bool) → (at es i).exclusive ≡ b → all no_exclusive es ≡ n → (b || (n && (not (no_shared (at es i)) || all no_shared es))) ≡ true → (at es i).exclusive ≡ true
    go true n e q a = e
    go false true e q a = absurd (true≢false (sym (all_at no_exclusive es j refl q) ∙ ap not h))
    go false false e q a = absurd (false≢true a)

pub not_opening : (t : ℕ) → one_of commands t ≡ true → either 0 17 t ≡ false
not_opening t e = each_of (λ t. either 0 17 t ≡ false) commands (refl, (refl, (refl, tt))) t e

pub not_async : (t : ℕ) → one_of commands t ≡ true → one_of asynchronous_types t ≡ false
not_async t e = each_of (λ t. one_of asynchronous_types t ≡ false) commands (refl, (refl, (refl, tt))) t e

module _ (d : Server) (i : Inv d.locks) (j : ℕ) (h : (at d.locks.entries j).exclusive ≡ true) (c k n : ℕ) where
  acts_own : (x : Header) (p : List ℕ) (r : Role) → judged r d (slot_of d c) x p ≡ v_acts → one_of commands x.kind ≡ true
      → (Acts.acts r d (slot_of d c) c x p).reply ≡ took acted k n → n ≡ (at d.locks.entries j).number
  unfolding Acts.acts
  acts_own x p r_none q t e = absurd (true≢false (sym (not_off (either 0 17 x.kind) (opening_passed d x p q).0) ∙ not_opening x.kind t))
  acts_own x p r_half_open q t e = absurd (let z : ◌≡◌ {A = ℕ} 0 1 = cc in omega arith)
  acts_own x p r_synchronous q t e =
      let g : (one_of commands x.kind && not (access d.locks.entries (slot_of d c))) ≡ false = (sync_passed d (slot_of d c) x p q).1.1.1.1.1.1.0 in
      let a : access d.locks.entries (slot_of d c) ≡ true = not_off _ (rw t at g) in
      let s : slot_of d c ≡ j = i.sound.firm.one_exclusive (slot_of d c) j (holder_only d.locks.entries (slot_of d c) j h a) h in
      let m : (at d.locks.entries (slot_of d c)).number ≡ n = cc in
      sym m ∙ ap (λ z. (at d.locks.entries z).number) s
  acts_own x p r_asynchronous q t e = absurd (true≢false (sym (acted_class asynchronous x.kind (async_passed x p q).1.1.0 (async_passed x p q).1.1.1.0) ∙ not_async x.kind t))

  effect_own : (bs : List ℕ) (l : ℕ) (v : Verdict) (s : Scan) (r : Role) → scan l bs ≡ s → verdict r d (slot_of d c) s ≡ v → one_of commands (header bs).kind ≡ true
      → (effect v s r d (slot_of d c) c).reply ≡ took acted k n → n ≡ (at d.locks.entries j).number
  unfolding effect verdict
  effect_own bs l v_more s r es ev t e = absurd (let z : ◌≡◌ {A = ℕ} 0 1 = cc in omega arith)
  effect_own bs l v_held s r es ev t e = absurd (let z : ◌≡◌ {A = ℕ} 0 1 = cc in omega arith)
  effect_own bs l v_skipped s r es ev t e = absurd (let z : ◌≡◌ {A = ℕ} 0 1 = cc in omega arith)
  effect_own bs l v_ignored s r es ev t e = absurd (let z : ◌≡◌ {A = ℕ} 0 1 = cc in omega arith)
  effect_own bs l (v_error x) s r es ev t e = absurd (let z : ◌≡◌ {A = ℕ} 0 1 = cc in omega arith)
  effect_own bs l (v_fatal x) s r es ev t e = absurd (let z : ◌≡◌ {A = ℕ} 0 1 = cc in omega arith)
  effect_own bs l v_closed s r es ev t e = absurd (let z : ◌≡◌ {A = ℕ} 0 1 = cc in omega arith)
  effect_own bs l v_acts empty r es ev t e = absurd (let z : ◌≡◌ {A = ℕ} 0 1 = cc in omega arith)
  effect_own bs l v_acts few r es ev t e = absurd (let z : ◌≡◌ {A = ℕ} 0 1 = cc in omega arith)
  effect_own bs l v_acts wrong r es ev t e = absurd (let z : ◌≡◌ {A = ℕ} 0 1 = cc in omega arith)
  effect_own bs l v_acts (skipping x) r es ev t e = absurd (let z : ◌≡◌ {A = ℕ} 0 1 = cc in omega arith)
  effect_own bs l v_acts (long x) r es ev t e = absurd (let z : ◌≡◌ {A = ℕ} 0 1 = cc in omega arith)
  effect_own bs l v_acts (part x) r es ev t e = absurd (let z : ◌≡◌ {A = ℕ} 0 1 = cc in omega arith)
  effect_own bs l v_acts (whole x p) r es ev t e = acts_own x p r ev (rw (whole_scan l bs x p es).0 at t) e

  pub step_own : (bs : List ℕ) (room : ℕ) → (step d (delivery c bs room)).reply ≡ took acted k n → one_of commands (header bs).kind ≡ true → n ≡ (at d.locks.entries j).number
  unfolding step answered plan received finish
  step_own bs room e t = go (refusal d (delivery c bs room)) e
    where
      go : (z : ℕ) → (answered z d (delivery c bs room)).reply ≡ took acted k n → n ≡ (at d.locks.entries j).number
      go zero e = effect_own bs (connection_at d.rest c).remainder _ (scan (connection_at d.rest c).remainder bs) (role_of d.locks.entries c) refl refl t e
      go (suc z) e = absurd (let y : ◌≡◌ {A = ℕ} 0 1 = cc in omega arith)

-- after any list from the fresh server
pub isolated : (v : Making) (es : List Event) → Isolated (final (fresh v) es)
isolated v es = record { only_its_own = λ j h c bs room k n e t. step_own (final (fresh v) es) (inv_run v es) j h c k n bs room e t }

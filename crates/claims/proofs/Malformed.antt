-- Check 10 answers as the table of forms says: the code first, then the payload.
use mathlib.Core.Path.{◌≡◌, refl, ap, ◌∙◌}
use mathlib.Core.Bool.{Bool, true, false, not, ◌&&◌, ◌||◌, cond, true≢false}
use mathlib.Core.List.{List, map}
use Prim.Native.Nat.{ℕ, zero, suc}
use native.Mathlib.Omega.{arith}
use lib.Dec.{eqb, ltb}
use borrow.Author.Tests.{eq-eqb, ne_eqb, lt-ltb}
use Rattle.wire.specs.declared.Header.{Header}
use Rattle.wire.specs.Message.{header, payload_of}
use Rattle.wire.specs.Class.{one_of, class_of}
use Rattle.model.specs.MessageTypes.{DeviceClearComplete}
use Rattle.model.specs.State.{Server, exchange_at, connection_at}
use Rattle.model.specs.Interface.{Event.delivery}
use Rattle.model.specs.Scan.{Scan}
use Rattle.model.specs.Place.{slot_of, Role, Role.r_synchronous, Role.r_asynchronous, role_of}
use Rattle.model.specs.Locks.{access, change}
use Rattle.model.specs.Checks
use Rattle.model.specs.Checks.{Verdict, Verdict.v_acts, Verdict.v_error, first, judged}
use Rattle.model.specs.Refusals.{refusal}
use Rattle.model.specs.Step.{Result, effect, finish}
use Rattle.model.specs.Access.{WholeMessage}
use Rattle.model.specs.Permitted
use Rattle.model.specs.Permitted.{Form, permits, command_forms, clear_forms, asynchronous_forms, Takes}
use Rattle.model.specs.Malformed.{of_type, fault, AnswersError, Malformed}
use Rattle.claims.proofs.ReadOff.{each_of}
use Rattle.claims.proofs.Access.{role_sync}
use Rattle.claims.proofs.Forms.{◌also◌, typed, limit, none}
use Rattle.claims.proofs.Permitted.{role_async, whole_step}

-- two rules in a row: the code is not allowed, the payload is not
stages : (k l : Bool) → ((not k && not l) || false) ≡ false → cond k (v_error 2) (cond l (v_error 0) v_acts) ≡ v_error (cond (not k || false) 0 2)
stages true l e = refl
stages false true e = refl
stages false false e = absurd (true≢false e)

before_list : (k : Bool) (x : Verdict) → ((not k && true) || false) ≡ false → cond k (v_error 2) x ≡ v_error (cond (not k || false) 0 2)
before_list true x e = refl
before_list false x e = absurd (true≢false e)

exact : (l : Bool) → (l || false) ≡ false → cond (not l) (v_error 0) v_acts ≡ v_error 0
exact true e = absurd (true≢false e)
exact false e = refl

-- a lock message: a release without payload, or a request
lock_stages : (k l : ℕ) → ((eqb k 0 && eqb l 0) || ((eqb k 1 && true) || false)) ≡ false →
    cond (ltb 1 k) (v_error 2) (cond (eqb k 0 && ltb 0 l) (v_error 0) v_acts) ≡ v_error (cond (eqb k 0 || (eqb k 1 || false)) 0 2)
lock_stages zero l e = stages false (ltb 0 l) (rw (none l) at e)
lock_stages (suc zero) l e = absurd (true≢false e)
lock_stages (suc (suc k)) l e = rw (lt-ltb 1 (suc (suc k)) (omega arith), ne_eqb (suc (suc k)) 0 (λ q. omega arith), ne_eqb (suc (suc k)) 1 (λ q. omega arith))

module _ (d : Server) (i : ℕ) (p : List ℕ) (h : Header) where
  abbrev clearing : Bool
  clearing = (exchange_at d.rest i).in_clear

  abbrev Errs : List Form → ℕ → Type 0
  Errs fs t = permits fs (typed t h) ≡ false → first (Checks.synchronous_rules d i (typed t h) p) ≡ v_error (fault fs (typed t h))

  command_errs : clearing ≡ false → access d.locks.entries i ≡ true → h.param ≡ (exchange_at d.rest i).number_expected → (t : ℕ) →
      one_of (map (λ f. f.kind) command_forms) t ≡ true → Errs command_forms t
  unfolding class_of
  command_errs n a m =
      let m : eqb h.param (exchange_at d.rest i).number_expected ≡ true = eq-eqb _ _ m in
      each_of (Errs command_forms) (map (λ f. f.kind) command_forms)
      ((λ e. rw (n, a, m, limit 1 h.code) (stages (ltb 1 h.code) false (rw (limit 1 h.code) at e)))
      also (λ e. rw (n, a, m, limit 1 h.code) (before_list (ltb 1 h.code) _ (rw (limit 1 h.code) at e)))
      also (λ e. rw (n, a, m, limit 1 h.code) (stages (ltb 1 h.code) (ltb 0 h.len) (rw (limit 1 h.code, none h.len) at e)))
      also tt)

  clear_errs : clearing ≡ true → (t : ℕ) → one_of (map (λ f. f.kind) clear_forms) t ≡ true → Errs clear_forms t
  unfolding class_of
  clear_errs n = each_of (Errs clear_forms) (map (λ f. f.kind) clear_forms) ((λ e. rw n (stages false (ltb 0 h.len) (rw (none h.len) at e))) also tt)

  no_clear_errs : clearing ≡ false → h.kind ≡ DeviceClearComplete → first (Checks.synchronous_rules d i h p) ≡ v_error 0
  unfolding class_of
  no_clear_errs n t = rw (t, n) (go (ltb 0 h.len))
    where
      go : (b : Bool) → cond b (v_error 0) (v_error 0) ≡ v_error 0
      go true = refl
      go false = refl

module _ (p : List ℕ) (h : Header) where
  abbrev AsyncErrs : ℕ → Type 0
  AsyncErrs t = permits asynchronous_forms (typed t h) ≡ false → first (Checks.asynchronous_rules (typed t h) p) ≡ v_error (fault asynchronous_forms (typed t h))

  async_errs : (t : ℕ) → one_of (map (λ f. f.kind) asynchronous_forms) t ≡ true → AsyncErrs t
  unfolding class_of
  async_errs =
      each_of AsyncErrs (map (λ f. f.kind) asynchronous_forms)
      ((λ e. lock_stages h.code h.len e)
      also (λ e. lock_stages h.code h.len e)
      also (λ e. rw (limit 6 h.code) (stages (ltb 6 h.code) (ltb 0 h.len) (rw (limit 6 h.code, none h.len) at e)))
      also (λ e. exact (eqb h.len 8) e)
      also (λ e. stages false (ltb 0 h.len) (rw (none h.len) at e))
      also (λ e. rw (limit 1 h.code) (stages (ltb 1 h.code) (ltb 0 h.len) (rw (limit 1 h.code, none h.len) at e)))
      also (λ e. stages false (ltb 0 h.len) (rw (none h.len) at e))
      also tt)

module _ (d : Server) (c : ℕ) (bs : List ℕ) (room : ℕ) where
  abbrev p : List ℕ
  p = payload_of (header bs) bs

  answers : refusal d (delivery c bs room) ≡ 0 → WholeMessage (connection_at d.rest c).remainder bs → (r : Role) → role_of d.locks.entries c ≡ r → (n : ℕ)
      → judged r d (slot_of d c) (header bs) p ≡ v_error n → AnswersError d c bs room n
  unfolding finish effect change
  answers z w r er n q =
      let one = whole_step d c bs room z w r er ∙ ap (λ v. finish d (effect v (Scan.whole (header bs) p) r d (slot_of d c) c)) q in
      record { replies = ap (λ (x : Result). x.reply) one; sent = ap (λ (x : Result). x.frames) one; locks_same = ap (λ (x : Result). x.server.locks) one }

  wrong_form : (fs : List Form) → refusal d (delivery c bs room) ≡ 0 → WholeMessage (connection_at d.rest c).remainder bs → Takes d c (header bs).param fs
      → of_type fs (header bs) ≡ true → permits fs (header bs) ≡ false → AnswersError d c bs room (fault fs (header bs))
  wrong_form fs z w (Permitted.commands s n a m) o e = answers z w r_synchronous (role_sync d c s) _ (command_errs d (slot_of d c) p (header bs) n a m (header bs).kind o e)
  wrong_form fs z w (Permitted.clear_complete s n) o e = answers z w r_synchronous (role_sync d c s) _ (clear_errs d (slot_of d c) p (header bs) n (header bs).kind o e)
  wrong_form fs z w (Permitted.on_asynchronous s) o e = answers z w r_asynchronous (role_async d c s) _ (async_errs p (header bs) (header bs).kind o e)

  pub malformed : Malformed d c bs room
  malformed =
      record {
        wrong_form = wrong_form;
        no_clear = λ z w s n t. answers z w r_synchronous (role_sync d c s) 0 (no_clear_errs d (slot_of d c) p (header bs) n t);
      }

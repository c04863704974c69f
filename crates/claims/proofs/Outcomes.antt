-- What an outcome tells of the bytes shown, proved: by what they show, then by the verdict.
use mathlib.Core.Path.{◌≡◌, refl, sym, ap, ◌∙◌}
use mathlib.Core.Bool.{Bool, true, false, cond, false≢true, true≢false}
use mathlib.Core.List.{List, [], ◌∷◌}
use mathlib.Core.Logic.{inl, inr}
use Prim.Native.Nat.{ℕ, zero, suc}
use lib.Dec.{eqb}
use Rattle.wire.specs.declared.Header.{Header}
use Rattle.wire.specs.Message.{Decoded, decode}
use Rattle.model.specs.State.{Server, connection_at, fresh}
use Rattle.model.specs.Interface.{Event.delivery}
use Rattle.model.specs.Scan.{Scan, Scan.empty, Scan.few, Scan.wrong, Scan.skipping, Scan.long, Scan.part, Scan.whole, scan}
use Rattle.model.specs.Place.{slot_of, role_of, Role, Role.r_none, Role.r_half_open, Role.r_synchronous, Role.r_asynchronous}
use Rattle.model.specs.Checks.{Verdict, Verdict.v_more, Verdict.v_skipped, Verdict.v_held, Verdict.v_ignored, Verdict.v_closed, Verdict.v_acts}
use Rattle.model.specs.Checks.{Verdict.v_error, Verdict.v_fatal, verdict, judged, either}
use Rattle.model.specs.Checks
use Rattle.model.specs.Acts
use Rattle.model.specs.Refusals.{causes, refusal}
use Rattle.model.specs.Step.{effect, received, plan, answered, finish, step, final}
use Rattle.model.specs.Reader.{message_with}
use Rattle.model.specs.Outcomes.{established, BeginsWhole, Tells, OutcomesTell}
use Rattle.model.proofs.Basics.{not_off}
use Rattle.claims.proofs.Fits.{uncaused}
use Rattle.claims.proofs.Reader.{never, alike}
use Rattle.claims.proofs.Shapes.{reads, fresh_scan_lem, fresh_reads}
use Rattle.claims.proofs.Codes.{of_message, judged_of}
use Rattle.claims.proofs.OnlyWhole.{owed_run}

shows_none : (r : ℕ) (bs : List ℕ) → scan r bs ≡ Scan.empty → bs ≡ []
unfolding scan
shows_none r [] e = refl
shows_none zero (b ∷ bs) e = absurd (true≢false (sym (fresh_reads (b ∷ bs)) ∙ ap reads e))
shows_none (suc r) (b ∷ bs) e = never cc

module _ (d : Server) (i c r : ℕ) (bs : List ℕ) where
  begins : (h : Header) (p : List ℕ) → scan r bs ≡ Scan.whole h p → BeginsWhole bs
  begins h p e =
      let w = ((alike bs).whole h p).0 (fresh_scan_lem r bs (Scan.whole h p) e refl).1 in
      record { message = message_with h p; reads = w.decodes; within = w.within }

  none : (s : Scan) → scan r bs ≡ s → reads s ≡ true → r ≡ 0
  none s e q = (fresh_scan_lem r bs s e q).0

  acts_tell : (k : Bool) (o : Role) (h : Header) (p : List ℕ) → Tells (Acts.acts o d i c h p).reply k r bs
  unfolding Acts.acts
  acts_tell k r_none h p = go (eqb h.kind 0)
    where
      go : (b : Bool) → Tells (Acts.opens b d c h).reply k r bs
      go true = tt
      go false = tt
  acts_tell k r_half_open h p = tt
  acts_tell k r_synchronous h p = tt
  acts_tell k r_asynchronous h p = tt

  message_tells : (k : Bool) (v : Verdict) (o : Role) (h : Header) (p : List ℕ) → scan r bs ≡ Scan.whole h p → of_message v ≡ true → Tells (effect v (Scan.whole h p) o d i c).reply k r bs
  unfolding effect
  message_tells k v_more o h p e m = absurd (false≢true m)
  message_tells k v_skipped o h p e m = absurd (false≢true m)
  message_tells k v_held o h p e m = (refl, none (Scan.whole h p) e refl, begins h p e)
  message_tells k v_ignored o h p e m = tt
  message_tells k v_closed o h p e m = (refl, none (Scan.whole h p) e refl, λ z. inr (begins h p e))
  message_tells k (v_error n) o h p e m = tt
  message_tells k (v_fatal n) o h p e m = (refl, none (Scan.whole h p) e refl, λ z. inr (begins h p e))
  message_tells k v_acts o h p e m = acts_tell k o h p

  long_tells : (h : Header) (o : Role) → scan r bs ≡ Scan.long h → Tells (effect (Checks.too_long o) (Scan.long h) o d i c).reply (established o) r bs
  unfolding effect
  long_tells h r_none e = (refl, none (Scan.long h) e refl, λ z. absurd (false≢true z))
  long_tells h r_half_open e = (refl, none (Scan.long h) e refl, λ z. absurd (false≢true z))
  long_tells h r_synchronous e = tt
  long_tells h r_asynchronous e = tt

  waits : (h : Header) → scan r bs ≡ Scan.part h → decode bs ≡ Decoded.short
  waits h e = (((alike bs).part h).0 (fresh_scan_lem r bs (Scan.part h) e refl).1).waits

  part_tells : (h : Header) (o : Role) → scan r bs ≡ Scan.part h → Tells (effect (Checks.partly o h) (Scan.part h) o d i c).reply (established o) r bs
  unfolding effect
  part_tells h r_none e = go (either 0 17 h.kind)
    where
      go : (b : Bool) → Tells (effect (cond b v_more (v_fatal 3)) (Scan.part h) r_none d i c).reply false r bs
      go true = (refl, inr (none (Scan.part h) e refl, waits h e))
      go false = (refl, none (Scan.part h) e refl, λ z. absurd (false≢true z))
  part_tells h r_half_open e = (refl, none (Scan.part h) e refl, λ z. absurd (false≢true z))
  part_tells h r_synchronous e = (refl, inr (none (Scan.part h) e refl, waits h e))
  part_tells h r_asynchronous e = (refl, inr (none (Scan.part h) e refl, waits h e))

  scan_tells : (s : Scan) (o : Role) → scan r bs ≡ s → Tells (effect (verdict o d i s) s o d i c).reply (established o) r bs
  unfolding verdict effect
  scan_tells empty o e = (refl, inl (shows_none r bs e))
  scan_tells few o e = (refl, inr (none Scan.few e refl, ((alike bs).few.0 (fresh_scan_lem r bs Scan.few e refl).1).1))
  scan_tells wrong o e = (refl, none Scan.wrong e refl, λ z. inl ((alike bs).wrong.0 (fresh_scan_lem r bs Scan.wrong e refl).1))
  scan_tells (skipping k) o e = tt
  scan_tells (long h) o e = long_tells h o e
  scan_tells (part h) o e = part_tells h o e
  scan_tells (whole h p) o e = message_tells (established o) (judged o d i h p) o h p e (judged_of o d i h p)

-- on any server, of what is left to skip
delivery_tells : (d : Server) (c : ℕ) (bs : List ℕ) (room : ℕ) (owed : ℕ)
    → ((connection_at d.rest c).is_open ≡ true → (connection_at d.rest c).remainder ≡ owed)
    → Tells (step d (delivery c bs room)).reply (established (role_of d.locks.entries c)) owed bs
unfolding step answered plan received finish refusal causes
delivery_tells d c bs room owed t = go (refusal d (delivery c bs room)) refl
  where
    go : (n : ℕ) → refusal d (delivery c bs room) ≡ n → Tells (answered n d (delivery c bs room)).reply (established (role_of d.locks.entries c)) owed bs
    go (suc n) z = tt
    go zero z =
        let o = not_off _ (uncaused (causes d (delivery c bs room)) refl z).1.1.0 in
        let q = (connection_at d.rest c).remainder in
        rw (← (t o)) (scan_tells d (slot_of d c) c q bs (scan q bs) (role_of d.locks.entries c) refl)

pub outcomes_tell : OutcomesTell
outcomes_tell = record { any_run = λ v es c bs room p. delivery_tells (final (fresh v) es) c bs room _ (owed_run v es p c) }

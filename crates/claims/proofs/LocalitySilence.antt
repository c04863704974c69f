-- A delivery that closes sends FatalError, but for a client's own FatalError on an established session.
use mathlib.Core.Path.{◌≡◌, refl, sym, ap, ◌∙◌}
use mathlib.Core.Bool.{Bool, true, false, not, ◌&&◌, cond, false≢true}
use mathlib.Core.List.{List, [], ◌∷◌, ◌++◌, map}
use Prim.Native.Nat.{ℕ, zero, suc, ◌+◌}
use native.Mathlib.Omega.{arith}
use lib.Dec.{eqb, ltb}
use lib.ListN.{length}
use Rattle.wire.specs.declared.Header.{Header}
use Rattle.wire.specs.Message.{header, prologue}
use Rattle.wire.specs.Frame.{Frame, frame_of}
use Rattle.model.specs.Sizes.{no_connection, payload_limit}
use Rattle.model.specs.MessageTypes.{FatalError}
use Rattle.model.specs.Lists.{all}
use Rattle.model.specs.State.{Server, Entry, live, connection_at}
use Rattle.model.specs.Interface.{Event.delivery, Outcome.closed, Reply.took}
use Rattle.model.specs.Scan.{Scan, Scan.empty, Scan.few, Scan.wrong, Scan.skipping, Scan.long, Scan.part, Scan.whole, sorted, fresh_scan, scan}
use Rattle.model.specs.Place.{slot_of, role_of, role_by, entry_of, Role, Role.r_none, Role.r_half_open, Role.r_synchronous, Role.r_asynchronous}
use Rattle.model.specs.Locks.{Answer, change, grant_pass, pass_over}
use Rattle.model.specs.Checks
use Rattle.model.specs.Checks.{Verdict, Verdict.v_more, Verdict.v_skipped, Verdict.v_held, Verdict.v_ignored, Verdict.v_closed, Verdict.v_acts}
use Rattle.model.specs.Checks.{Verdict.v_error, Verdict.v_fatal, Rule, first, verdict, judged, either}
use Rattle.model.specs.Acts
use Rattle.model.specs.Refusals.{refusal}
use Rattle.model.specs.Step.{effect, received, plan, answered, finish, step, lock_frame}
use Rattle.model.specs.Happening.{Heard.silence, Heard.with_code, heard}
use Rattle.model.specs.LocalityRows.{is_silence}
use Rattle.model.specs.Locality.{clients_fatal_error}
use Rattle.model.proofs.Basics.{and_l, and_r, not_of, and_true}
use Rattle.model.proofs.Place.{place_role}
use Rattle.claims.proofs.Scanning.{whole_scan}
use Rattle.claims.proofs.LocalityLocks.{freed, stay}

-- FatalError is heard: some connection gets it first; without one no frame has its type at the front
pub fatal_heard : (n : ℕ) (b : Bool) (x y : ℕ) (xs : List ℕ) (fs : List Frame) → heard 2 (map (λ (z : ℕ). frame_of z FatalError n 0 []) (cond b (x ∷ xs) (y ∷ [])) ++ fs) ≡ with_code n
fatal_heard n true x y xs fs = refl
fatal_heard n false x y xs fs = refl

pub none_heard : (xs : List Answer) → heard 2 (map lock_frame xs) ≡ silence
none_heard [] = refl
none_heard (x ∷ xs) = refl

-- a verdict that closes without reply; one that closes
closes_by : Verdict → Bool
closes_by v_closed = true
closes_by v_more = false
closes_by v_skipped = false
closes_by v_held = false
closes_by v_ignored = false
closes_by v_acts = false
closes_by (v_error n) = false
closes_by (v_fatal n) = false

shuts : Verdict → Bool
shuts v_closed = true
shuts v_more = false
shuts v_skipped = false
shuts v_held = false
shuts v_ignored = false
shuts v_acts = false
shuts (v_error n) = false
shuts (v_fatal n) = true

first_loud : (rs : List Rule) → all (λ r. not (closes_by r.then)) rs ≡ true → closes_by (first rs) ≡ false
unfolding closes_by
first_loud [] s = refl
first_loud (r ∷ rs) s = go r.test (first_loud rs (and_r (not (closes_by r.then)) _ s))
  where
    go : (b : Bool) → closes_by (first rs) ≡ false → closes_by (cond b r.then (first rs)) ≡ false
    go true h = not_of _ (and_l (not (closes_by r.then)) _ s)
    go false h = h

first_silent : (b : Bool) (rs : List Rule) → all (λ r. not (closes_by r.then)) rs ≡ true → closes_by (cond b v_closed (first rs)) ≡ b
unfolding closes_by
first_silent true rs s = refl
first_silent false rs s = first_loud rs s

-- the channels of an established session
abbrev established : Role → Bool
established r_none = false
established r_half_open = false
established r_synchronous = true
established r_asynchronous = true

by_role : (a b s : Bool) → (a && not b) ≡ established (role_by a b s)
by_role true true s = refl
by_role true false true = refl
by_role true false false = refl
by_role false b s = refl

off : (a : Bool) → (a && false) ≡ false
off true = refl
off false = refl

-- the rules behind the first
abbrev others : List Rule → List Rule
others [] = []
others (r ∷ rs) = rs

judged_silent : (r : Role) (d : Server) (i : ℕ) (h : Header) (p : List ℕ) → closes_by (judged r d i h p) ≡ (eqb h.kind 2 && established r)
unfolding closes_by
judged_silent r_none d i h p = first_loud (Checks.opening_rules d h p) refl ∙ sym (off (eqb h.kind 2))
judged_silent r_half_open d i h p = sym (off (eqb h.kind 2))
judged_silent r_synchronous d i h p = first_silent (eqb h.kind 2) (others (Checks.synchronous_rules d i h p)) refl ∙ sym (and_true (eqb h.kind 2))
judged_silent r_asynchronous d i h p = first_silent (eqb h.kind 2) (others (Checks.asynchronous_rules h p)) refl ∙ sym (and_true (eqb h.kind 2))

-- the prologue by the scan
prologue_by : Scan → Bool → Bool
prologue_by empty b = b
prologue_by few b = b
prologue_by wrong b = false
prologue_by (skipping k) b = b
prologue_by (long h) b = true
prologue_by (part h) b = true
prologue_by (whole h p) b = true

fresh_prologue : (bs : List ℕ) → prologue bs ≡ prologue_by (fresh_scan bs) (prologue bs)
unfolding fresh_scan prologue_by
fresh_prologue bs = go (ltb (length bs) 16) (prologue bs) (ltb payload_limit (header bs).len) (ltb (length bs) (16 + (header bs).len))
  where
    go : (a b c f : Bool) → b ≡ prologue_by (sorted a b c f bs (header bs)) b
    go true b c f = refl
    go false false c f = refl
    go false true true f = refl
    go false true false true = refl
    go false true false false = refl

scan_prologue : (r : ℕ) (bs : List ℕ) → prologue bs ≡ prologue_by (scan r bs) (prologue bs)
unfolding scan prologue_by
scan_prologue r [] = refl
scan_prologue zero (b ∷ bs) = fresh_prologue (b ∷ bs)
scan_prologue (suc r) (b ∷ bs) = refl

nowhere : (a b : Bool) → (a && (b && false)) ≡ false
nowhere a b = ap (λ x. a && x) (off b) ∙ off a

module _ (d : Server) (c : ℕ) (bs : List ℕ) (room : ℕ) where
  abbrev e : Entry
  e = entry_of d c

  -- by what the bytes show and the role
  by_verdict : (s : Scan) (r : Role) → scan (connection_at d.rest c).remainder bs ≡ s → shuts (verdict r d (slot_of d c) s) ≡ true
      → closes_by (verdict r d (slot_of d c) s) ≡ (prologue bs && (eqb (header bs).kind 2 && established r))
  unfolding verdict shuts closes_by prologue_by
  by_verdict empty r es h = absurd (false≢true h)
  by_verdict few r es h = absurd (false≢true h)
  by_verdict wrong r es h = sym (ap (λ b. b && (eqb (header bs).kind 2 && established r)) (scan_prologue _ bs ∙ ap (λ s. prologue_by s (prologue bs)) es))
  by_verdict (skipping k) r es h = absurd (false≢true h)
  by_verdict (long x) r_none es h = sym (nowhere (prologue bs) (eqb (header bs).kind 2))
  by_verdict (long x) r_half_open es h = sym (nowhere (prologue bs) (eqb (header bs).kind 2))
  by_verdict (long x) r_synchronous es h = absurd (false≢true h)
  by_verdict (long x) r_asynchronous es h = absurd (false≢true h)
  by_verdict (part x) r_none es h = go (either 0 17 x.kind) ∙ sym (nowhere (prologue bs) (eqb (header bs).kind 2))
    where
      go : (b : Bool) → closes_by (cond b v_more (v_fatal 3)) ≡ false
      go true = refl
      go false = refl
  by_verdict (part x) r_half_open es h = sym (nowhere (prologue bs) (eqb (header bs).kind 2))
  by_verdict (part x) r_synchronous es h = absurd (false≢true h)
  by_verdict (part x) r_asynchronous es h = absurd (false≢true h)
  by_verdict (whole x p) r es h =
      judged_silent r d (slot_of d c) x p
      ∙ ap (λ (y : Header). eqb y.kind 2 && established r) (sym (whole_scan _ bs x p es).0)
      ∙ sym (ap (λ b. b && (eqb (header bs).kind 2 && established r)) (scan_prologue _ bs ∙ ap (λ s. prologue_by s (prologue bs)) es))

  as_client : (r : Role) → role_of d.locks.entries c ≡ r → (prologue bs && (eqb (header bs).kind 2 && established r)) ≡ clients_fatal_error d c bs
  as_client r er =
      ap (λ b. prologue bs && (eqb (header bs).kind 2 && b))
      (ap established (sym er ∙ place_role d.locks.entries c) ∙ sym (by_role (live e) (eqb e.asynchronous no_connection) (eqb e.synchronous c)))

  acts_open : (r : Role) (h : Header) (p : List ℕ) (k n : ℕ) → (Acts.acts r d (slot_of d c) c h p).reply ≡ took closed k n → ⊥
  unfolding Acts.acts
  acts_open r_none h p k n q = go (eqb h.kind 0) q
    where
      go : (b : Bool) → (Acts.opens b d c h).reply ≡ took closed k n → ⊥
      go true q = let y : ◌≡◌ {A = ℕ} 0 1 = cc in omega arith
      go false q = let y : ◌≡◌ {A = ℕ} 0 1 = cc in omega arith
  acts_open r_half_open h p k n q = let y : ◌≡◌ {A = ℕ} 0 1 = cc in omega arith
  acts_open r_synchronous h p k n q = let y : ◌≡◌ {A = ℕ} 0 1 = cc in omega arith
  acts_open r_asynchronous h p k n q = let y : ◌≡◌ {A = ℕ} 0 1 = cc in omega arith

  by_effect : (v : Verdict) (s : Scan) (r : Role) (k n : ℕ) → verdict r d (slot_of d c) s ≡ v → (effect v s r d (slot_of d c) c).reply ≡ took closed k n
      → (shuts (verdict r d (slot_of d c) s) ≡ true) × (is_silence (heard 2 (finish d (effect v s r d (slot_of d c) c)).frames) ≡ closes_by (verdict r d (slot_of d c) s))
  unfolding effect finish change grant_pass shuts closes_by
  by_effect v_more s r k n ev q = absurd (let y : ◌≡◌ {A = ℕ} 0 1 = cc in omega arith)
  by_effect v_held s r k n ev q = absurd (let y : ◌≡◌ {A = ℕ} 0 1 = cc in omega arith)
  by_effect v_skipped s r k n ev q = absurd (let y : ◌≡◌ {A = ℕ} 0 1 = cc in omega arith)
  by_effect v_ignored s r k n ev q = absurd (let y : ◌≡◌ {A = ℕ} 0 1 = cc in omega arith)
  by_effect (v_error x) s r k n ev q = absurd (let y : ◌≡◌ {A = ℕ} 0 1 = cc in omega arith)
  by_effect (v_fatal x) s r k n ev q =
      (ap shuts ev, ap is_silence (fatal_heard x (live e) e.synchronous c (cond (eqb e.asynchronous no_connection) [] (e.asynchronous ∷ [])) _) ∙ sym (ap closes_by ev))
  by_effect v_closed s r k n ev q = (ap shuts ev, ap is_silence (none_heard (pass_over d.locks.clock (stay d c) (freed d c)).answers) ∙ sym (ap closes_by ev))
  by_effect v_acts empty r k n ev q = absurd (let y : ◌≡◌ {A = ℕ} 0 1 = cc in omega arith)
  by_effect v_acts few r k n ev q = absurd (let y : ◌≡◌ {A = ℕ} 0 1 = cc in omega arith)
  by_effect v_acts wrong r k n ev q = absurd (let y : ◌≡◌ {A = ℕ} 0 1 = cc in omega arith)
  by_effect v_acts (skipping x) r k n ev q = absurd (let y : ◌≡◌ {A = ℕ} 0 1 = cc in omega arith)
  by_effect v_acts (long x) r k n ev q = absurd (let y : ◌≡◌ {A = ℕ} 0 1 = cc in omega arith)
  by_effect v_acts (part x) r k n ev q = absurd (let y : ◌≡◌ {A = ℕ} 0 1 = cc in omega arith)
  by_effect v_acts (whole h p) r k n ev q = absurd (acts_open r h p k n q)

  pub closes_silently : (k n : ℕ) → (step d (delivery c bs room)).reply ≡ took closed k n → is_silence (heard 2 (step d (delivery c bs room)).frames) ≡ clients_fatal_error d c bs
  unfolding step answered plan received finish
  closes_silently k n q = go (refusal d (delivery c bs room)) q
    where
      go : (z : ℕ) → (answered z d (delivery c bs room)).reply ≡ took closed k n → is_silence (heard 2 (answered z d (delivery c bs room)).frames) ≡ clients_fatal_error d c bs
      go zero q =
          let s = scan (connection_at d.rest c).remainder bs in
          let r = role_of d.locks.entries c in
          let x = by_effect (verdict r d (slot_of d c) s) s r k n refl q in
          x.1 ∙ by_verdict s r refl x.0 ∙ as_client r refl
      go (suc z) q = absurd (let y : ◌≡◌ {A = ℕ} 0 1 = cc in omega arith)

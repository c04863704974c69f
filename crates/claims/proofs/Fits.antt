-- What the checks make sure of: the lock event of every call that is not refused fits the locks, so the invariant goes from call to call.
use mathlib.Core.Path.{◌≡◌, refl, sym, ap, ◌∙◌}
use mathlib.Core.Bool.{Bool, true, false, not, ◌&&◌, cond, true≢false}
use mathlib.Core.List.{List, [], ◌∷◌}
use Prim.Native.Nat.{ℕ, zero, suc, ◌<◌}
use native.Mathlib.Omega.{arith}
use lib.Dec.{eqb, leb}
use lib.ListN.{length}
use borrow.Author.Tests.{eqb-true, eqb-false}
use Rattle.wire.specs.declared.Header.{Header}
use Rattle.model.specs.Sizes.{connection_limit, no_connection}
use Rattle.model.specs.Lists.{all}
use Rattle.model.specs.State.{Entry, at, live, half_open, slot_of_number, Server, connection_at, fresh, Making}
use Rattle.model.specs.Interface.{Event, Event.opening, Event.delivery, Event.cut, Event.clock, Event.answer, Event.status, Event.setting}
use Rattle.model.specs.Scan.{Scan, Scan.empty, Scan.few, Scan.wrong, Scan.skipping, Scan.long, Scan.part, Scan.whole, scan}
use Rattle.model.specs.Place.{is_on_connection, slot_of, Role, Role.r_none, Role.r_half_open, Role.r_synchronous, Role.r_asynchronous, role_of}
use Rattle.model.specs.Checks
use Rattle.model.specs.Checks.{Verdict, Verdict.v_more, Verdict.v_skipped, Verdict.v_held, Verdict.v_ignored, Verdict.v_closed, Verdict.v_acts}
use Rattle.model.specs.Checks.{Verdict.v_error, Verdict.v_fatal, Rule, first, verdict, judged, either}
use Rattle.model.specs.Acts
use Rattle.model.specs.Refusals.{Cause, first_cause, causes, refusal}
use Rattle.model.specs.Step.{effect, received, plan, answered, finish, step, final}
use Rattle.model.proofs.Basics.{and_l, and_r, not_of, not_off, pos_passes}
use Rattle.model.proofs.Place.{no_role, sync_live, async_live, place_unique}
use Rattle.claims.proofs.Invariant.{Inv}
use Rattle.claims.proofs.Numbers.{issues}
use Rattle.claims.proofs.Events.{Fit, always_settled, inv_event, inv_fresh}

-- what a message that acts has passed: every rule's test is false
pub stops : Verdict → Bool
stops v_acts = false
stops v_more = true
stops v_skipped = true
stops v_held = true
stops v_ignored = true
stops v_closed = true
stops (v_error n) = true
stops (v_fatal n) = true

abbrev pub Passes : List Rule → Type 0
Passes [] = Unit {0}
Passes (r ∷ rs) = (r.test ≡ false) × Passes rs

passed : (rs : List Rule) → all (λ r. stops r.then) rs ≡ true → first rs ≡ v_acts → Passes rs
unfolding stops
passed [] s e = tt
passed (r ∷ rs) s e = go r.test refl e (passed rs (and_r (stops r.then) _ s))
  where
    go : (b : Bool) → r.test ≡ b → cond b r.then (first rs) ≡ v_acts → (first rs ≡ v_acts → Passes rs) → (r.test ≡ false) × Passes rs
    go true t e f = absurd (true≢false (sym (and_l (stops r.then) _ s) ∙ ap stops e))
    go false t e f = (t, f e)

pub opening_passed : (d : Server) (h : Header) (p : List ℕ) → first (Checks.opening_rules d h p) ≡ v_acts → Passes (Checks.opening_rules d h p)
unfolding stops
opening_passed d h p e = passed (Checks.opening_rules d h p) refl e

pub sync_passed : (d : Server) (i : ℕ) (h : Header) (p : List ℕ) → first (Checks.synchronous_rules d i h p) ≡ v_acts → Passes (Checks.synchronous_rules d i h p)
unfolding stops
sync_passed d i h p e = passed (Checks.synchronous_rules d i h p) refl e

pub async_passed : (h : Header) (p : List ℕ) → first (Checks.asynchronous_rules h p) ≡ v_acts → Passes (Checks.asynchronous_rules h p)
unfolding stops
async_passed h p e = passed (Checks.asynchronous_rules h p) refl e

-- no cause of a refusal
abbrev pub NoCause : List Cause → Type 0
NoCause [] = Unit {0}
NoCause (r ∷ rs) = (r.test ≡ false) × NoCause rs

pub uncaused : (rs : List Cause) → all (λ r. not (eqb r.number 0)) rs ≡ true → first_cause rs ≡ 0 → NoCause rs
uncaused [] s e = tt
uncaused (r ∷ rs) s e = go r.test refl e (uncaused rs (and_r (not (eqb r.number 0)) _ s))
  where
    go : (b : Bool) → r.test ≡ b → cond b r.number (first_cause rs) ≡ 0 → (first_cause rs ≡ 0 → NoCause rs) → (r.test ≡ false) × NoCause rs
    go true t e f = absurd (eqb-false r.number 0 (not_of _ (and_l (not (eqb r.number 0)) _ s)) e)
    go false t e f = (t, f e)

small : (c : ℕ) → leb connection_limit c ≡ false → c ≡ no_connection → ⊥
small c l e = true≢false (rw e at l)

pub real_delivery : (d : Server) (c : ℕ) (bs : List ℕ) (room : ℕ) → refusal d (delivery c bs room) ≡ 0 → c ≡ no_connection → ⊥
unfolding refusal causes
real_delivery d c bs room e = small c (uncaused (causes d (delivery c bs room)) refl e).1.0

pub real_cut : (d : Server) (c room : ℕ) → refusal d (cut c room) ≡ 0 → c ≡ no_connection → ⊥
unfolding refusal causes
real_cut d c room e = small c (uncaused (causes d (cut c room)) refl e).1.0

-- opening
free_inside : (es : List Entry) → all live es ≡ false → slot_of_number es 0 < length es
free_inside [] a = absurd (true≢false a)
free_inside (x ∷ es) a = go (eqb x.number 0) a (free_inside es)
  where
    go : (b : Bool) → (not b && all live es) ≡ false → (all live es ≡ false → slot_of_number es 0 < length es) → cond b 0 (suc (slot_of_number es 0)) < suc (length es)
    go true a f = omega arith
    go false a f = omega (arith, f a)

pub opens_fit : (d : Server) (c : ℕ) (h : Header) (p : List ℕ) (b : Bool) → eqb h.kind 0 ≡ b → (c ≡ no_connection → ⊥) → Inv d.locks → role_of d.locks.entries c ≡ r_none
    → Passes (Checks.opening_rules d h p) → Fit d.locks.entries (Acts.opens b d c h).event
opens_fit d c h p true t r i e q =
    let es = d.locks.entries in
    let free : all live es ≡ false = rw t at q.1.1.1.0 in
    let n = issues es d.rest.last_issued free i.sound.firm.slots in
    record {
      vacant = ap not (pos_passes (λ e. eqb e.number 0) es refl);
      within = free_inside es free;
      fresh = n.fresh;
      nonzero = n.nonzero;
      unused = no_role es c e;
      real = r;
    }
opens_fit d c h p false t r i e q =
    let es = d.locks.entries in
    let x = at es (slot_of_number es h.param) in
    let t17 : eqb h.kind 17 ≡ true = rw t at (not_off (either 0 17 h.kind) q.0) in
    let half : half_open x ≡ true = not_off _ (rw t17 at q.1.1.1.1.0) in
    record {
      alive = and_l (live x) _ half;
      half = eqb-true _ _ (and_r (live x) _ half);
      unused = no_role es c e;
      real = r;
    }

-- a message on the asynchronous channel
lock_fit : (es : List Entry) (b : Bool) (i : ℕ) (h : Header) (p : List ℕ) → live (at es i) ≡ true → Fit es (Acts.lock_event b i h p)
lock_fit es true i h p v = v
lock_fit es false i h p v = v

async_fit : (es : List Entry) (k : Acts.AsynchronousKind) (i : ℕ) (h : Header) (p : List ℕ) → live (at es i) ≡ true → Fit es (Acts.asynchronous_event k i h p)
unfolding Acts.asynchronous_event
async_fit es Acts.k_lock i h p v = lock_fit es (eqb h.code 0) i h p v
async_fit es Acts.k_remote_local i h p v = tt
async_fit es Acts.k_maximum_size i h p v = tt
async_fit es Acts.k_device_clear i h p v = v
async_fit es Acts.k_status_query i h p v = tt
async_fit es Acts.k_lock_info i h p v = tt

-- and on the synchronous one
sync_fit : (es : List Entry) (k : Acts.SynchronousKind) (i : ℕ) (h : Header) → live (at es i) ≡ true → Fit es (Acts.synchronous_event k i h)
sync_fit es Acts.k_data i h v = v
sync_fit es Acts.k_data_end i h v = v
sync_fit es Acts.k_trigger i h v = v
sync_fit es Acts.k_clear_complete i h v = tt

acts_fit : (d : Server) (c : ℕ) (h : Header) (p : List ℕ) (r : Role) → role_of d.locks.entries c ≡ r → (c ≡ no_connection → ⊥) → Inv d.locks
    → judged r d (slot_of d c) h p ≡ v_acts → Fit d.locks.entries (Acts.acts r d (slot_of d c) c h p).event
unfolding Acts.acts
acts_fit d c h p r_none e r i q = opens_fit d c h p (eqb h.kind 0) refl r i e (opening_passed d h p q)
acts_fit d c h p r_half_open e r i q = tt
acts_fit d c h p r_synchronous e r i q = sync_fit d.locks.entries (Acts.synchronous_kind h.kind) (slot_of d c) h (sync_live d.locks.entries c e)
acts_fit d c h p r_asynchronous e r i q = async_fit d.locks.entries (Acts.asynchronous_kind h.kind) (slot_of d c) h p (async_live d.locks.entries c e)

effect_fit : (d : Server) (c : ℕ) (v : Verdict) (s : Scan) (r : Role) → role_of d.locks.entries c ≡ r → (c ≡ no_connection → ⊥) → Inv d.locks
    → verdict r d (slot_of d c) s ≡ v → Fit d.locks.entries (effect v s r d (slot_of d c) c).event
unfolding effect verdict
effect_fit d c v_more s r e n i q = tt
effect_fit d c v_held s r e n i q = tt
effect_fit d c v_skipped s r e n i q = tt
effect_fit d c v_ignored s r e n i q = tt
effect_fit d c (v_error k) s r e n i q = tt
effect_fit d c (v_fatal k) s r e n i q = tt
effect_fit d c v_closed s r e n i q = tt
effect_fit d c v_acts empty r e n i q = tt
effect_fit d c v_acts few r e n i q = tt
effect_fit d c v_acts wrong r e n i q = tt
effect_fit d c v_acts (skipping k) r e n i q = tt
effect_fit d c v_acts (long h) r e n i q = tt
effect_fit d c v_acts (part h) r e n i q = tt
effect_fit d c v_acts (whole h p) r e n i q = acts_fit d c h p r e n i q

pub plan_fit : (d : Server) (e : Event) → Inv d.locks → refusal d e ≡ 0 → Fit d.locks.entries (plan d e).event
unfolding plan received
plan_fit d (opening c) i z = tt
plan_fit d (delivery c bs room) i z = effect_fit d c _ (scan (connection_at d.rest c).remainder bs) (role_of d.locks.entries c) refl (real_delivery d c bs room z) i refl
plan_fit d (cut c room) i z = tt
plan_fit d (clock t room) i z = tt
plan_fit d (answer n p end sh room) i z = tt
plan_fit d (status b) i z = tt
plan_fit d (setting s) i z = tt

-- the invariant goes from call to call
pub inv_call : (d : Server) (e : Event) → Inv d.locks → Inv (step d e).server.locks
unfolding step answered finish
inv_call d e i = go (refusal d e) refl
  where
    go : (n : ℕ) → refusal d e ≡ n → Inv (answered n d e).server.locks
    go zero z =
        let f = plan_fit d e i z in
        rw (always_settled d.locks i (plan d e).event f) (inv_event d.locks i (plan d e).event f)
    go (suc n) z = i

-- and holds after any list from the fresh server
inv_list : (es : List Event) (d : Server) → Inv d.locks → Inv (final d es).locks
unfolding final
inv_list [] d i = i
inv_list (e ∷ es) d i = inv_list es (step d e).server (inv_call d e i)

pub inv_run : (v : Making) (es : List Event) → Inv (final (fresh v) es).locks
inv_run v es = inv_list es (fresh v) inv_fresh

-- so the session found is the only one on the connection
pub found_run : (v : Making) (es : List Event) (c j : ℕ) → (c ≡ no_connection → ⊥) → is_on_connection c (at (final (fresh v) es).locks.entries j) ≡ true → j ≡ slot_of (final (fresh v) es) c
found_run v es c j r h = place_unique (final (fresh v) es).locks.entries c j ((inv_run v es).sound.firm.connections c r) h

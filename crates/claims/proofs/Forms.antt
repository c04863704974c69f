-- The rows of rules let pass exactly what the table of forms permits, role by role.
use mathlib.Core.Path.{◌≡◌, refl, sym, ap, ◌∙◌}
use mathlib.Core.Bool.{Bool, true, false, not, ◌&&◌, ◌||◌, true≢false, false≢true}
use mathlib.Core.List.{List, [], ◌∷◌}
use mathlib.Core.Logic.{◌⊎◌, inl, inr}
use Prim.Native.Nat.{ℕ, zero, suc}
use native.Mathlib.Omega.{arith}
use lib.Dec.{eqb, leb, ltb}
use borrow.Author.Tests.{eqb-true, eq-eqb, ne_eqb, le-leb, lt-leb, ltb-true, ltb-false}
use Rattle.wire.specs.declared.Header.{Header}
use Rattle.wire.specs.Class.{one_of, class_of, synchronous, asynchronous}
use Rattle.model.specs.Lists.{is_nil, same, all}
use Rattle.model.specs.State.{at, live, half_open, slot_of_number, Server, exchange_at}
use Rattle.model.specs.MessageTypes.{DataEND}
use Rattle.model.specs.Allowing.{admits}
use Rattle.model.specs.Locks.{access}
use Rattle.model.specs.Checks
use Rattle.model.specs.Checks.{Verdict.v_acts, first, either, hislip0}
use Rattle.model.specs.Permitted.{within, Form, permits, command_forms, clear_forms, asynchronous_forms, initialize_forms, async_initialize_forms, SubAddress}
use Rattle.model.proofs.Basics.{and_l, and_r, not_of, not_off, and_true, or→, or_of, or_r}
use Rattle.claims.proofs.Classes.{acted_class, synchronous_types, asynchronous_types}
use Rattle.claims.proofs.GrantingRule.{nil→, nil←, same→, same_refl}
use Rattle.claims.proofs.Fits.{Passes, opening_passed, sync_passed, async_passed}
use Rattle.claims.proofs.ReadOff.{each_of}

-- cases in a row
infixr 1 ◌also◌
pub ◌also◌ : {A B : Type 0} → A → B → A × B
a also b = (a, b)

-- a message that is permitted is of some form
abbrev EachForm : (Header → Type 0) → List Form → Type 0
EachForm P [] = Unit {0}
EachForm P (f ∷ fs) = ((h : Header) → h.kind ≡ f.kind → within f.codes h.code ≡ true → within f.payload h.len ≡ true → P h) × EachForm P fs

pub form_of : (P : Header → Type 0) (fs : List Form) → EachForm P fs → (h : Header) → permits fs h ≡ true → P h
form_of P [] g h e = absurd (false≢true e)
form_of P (f ∷ fs) g h e = go (λ q. form_of P fs g.1 h q) (or→ (eqb h.kind f.kind && (within f.codes h.code && within f.payload h.len)) _ e)
  where
    go : (permits fs h ≡ true → P h) → ((eqb h.kind f.kind && (within f.codes h.code && within f.payload h.len)) ≡ true) ⊎ (permits fs h ≡ true) → P h
    go r (inl q) =
        let s = and_r (eqb h.kind f.kind) _ q in
        g.0 h (eqb-true _ _ (and_l (eqb h.kind f.kind) _ q)) (and_l (within f.codes h.code) _ s) (and_r (within f.codes h.code) _ s)
    go r (inr q) = r q

-- a limit as the forms and as the rules test it
pub limit : (n x : ℕ) → leb x n ≡ not (ltb n x)
limit n x = go (ltb n x) refl
  where
    go : (b : Bool) → ltb n x ≡ b → leb x n ≡ not b
    go true e = lt-leb x n (ltb-true n x e)
    go false e = le-leb x n (ltb-false n x e)

pub none : (x : ℕ) → eqb x 0 ≡ not (ltb 0 x)
none x = go (ltb 0 x) refl
  where
    go : (b : Bool) → ltb 0 x ≡ b → eqb x 0 ≡ not b
    go true e = ne_eqb x 0 (λ q. omega (arith, ltb-true 0 x e))
    go false e = eq-eqb x 0 (omega (arith, ltb-false 0 x e))

above : (n x : ℕ) → leb x n ≡ true → ltb n x ≡ false
above n x e = not_of (ltb n x) (sym (limit n x) ∙ e)

below : (n x : ℕ) → ltb n x ≡ false → leb x n ≡ true
below n x e = limit n x ∙ ap not e

empty : (x : ℕ) → ltb 0 x ≡ false → eqb x 0 ≡ true
empty x e = none x ∙ ap not e

-- a header of type t
abbrev pub typed : ℕ → Header → Header
typed t h = record { kind = t; code = h.code; param = h.param; len = h.len }

-- the synchronous channel
module _ (d : Server) (i : ℕ) (p : List ℕ) where
  abbrev clearing : Bool
  clearing = (exchange_at d.rest i).in_clear

  abbrev expecting : ℕ
  expecting = (exchange_at d.rest i).number_expected

  -- the list allows it
  abbrev pub Listed : Header → Type 0
  Listed h = h.kind ≡ DataEND → admits d.rest.allowed p ≡ true

  pub command_passes : clearing ≡ false → access d.locks.entries i ≡ true → (h : Header) → h.param ≡ expecting → permits command_forms h ≡ true → Listed h →
      first (Checks.synchronous_rules d i h p) ≡ v_acts
  unfolding class_of
  command_passes n a h e f g =
      form_of (λ h. eqb h.param expecting ≡ true → Listed h → first (Checks.synchronous_rules d i h p) ≡ v_acts) command_forms
      ((λ h t k l m q. rw (t, n, a, m, above 1 h.code k))
      also (λ h t k l m q. rw (t, n, a, m, above 1 h.code k, q t))
      also (λ h t k l m q. rw (t, n, a, m, above 1 h.code k, eqb-true h.len 0 l))
      also tt) h f (eq-eqb h.param expecting e) g

  pub clear_passes : clearing ≡ true → (h : Header) → permits clear_forms h ≡ true → first (Checks.synchronous_rules d i h p) ≡ v_acts
  unfolding class_of
  clear_passes n = form_of (λ h. first (Checks.synchronous_rules d i h p) ≡ v_acts) clear_forms ((λ h t k l. rw (t, n, eqb-true h.len 0 l)), tt)

  abbrev pub Synchronous : Header → Type 0
  Synchronous h = ((clearing ≡ false) × (access d.locks.entries i ≡ true) × (h.param ≡ expecting) × (permits command_forms h ≡ true) × Listed h) ⊎
      ((clearing ≡ true) × (permits clear_forms h ≡ true))

  -- by type
  abbrev Lets : Header → ℕ → Type 0
  Lets h t = Passes (Checks.synchronous_rules d i (typed t h) p) → Synchronous (typed t h)

  sync_lets : (h : Header) (t : ℕ) → one_of synchronous_types t ≡ true → Lets h t
  unfolding class_of
  sync_lets h =
      each_of (Lets h) synchronous_types
      ((λ q. absurd (true≢false q.1.1.1.1.1.0))
      also (λ q. absurd (true≢false q.0))
      also (λ q. absurd (true≢false q.1.0))
      also (λ q. inl (
        sym (and_true _) ∙ q.1.1.0,
        not_off _ q.1.1.1.1.1.1.0,
        eqb-true _ _ (not_off _ q.1.1.1.1.1.1.1.0),
        rw
            (below 1 h.code q.1.1.1.1.1.1.1.1.0),
        λ e. absurd (omega (arith, e)),
      ))
      also (λ q. inl (
        sym (and_true _) ∙ q.1.1.0,
        not_off _ q.1.1.1.1.1.1.0,
        eqb-true _ _ (not_off _ q.1.1.1.1.1.1.1.0),
        rw
            (below 1 h.code q.1.1.1.1.1.1.1.1.0),
        λ e. not_off _ q.1.1.1.1.1.1.1.1.1.1.1.0,
      ))
      also (λ q. inr (not_off _ q.1.1.1.1.1.1.1.1.1.1.0, rw (empty h.len q.1.1.1.1.1.1.1.1.1.0)))
      also (λ q. inl (
        sym (and_true _) ∙ q.1.1.0,
        not_off _ q.1.1.1.1.1.1.0,
        eqb-true _ _ (not_off _ q.1.1.1.1.1.1.1.0),
        rw
            (below 1 h.code q.1.1.1.1.1.1.1.1.0, empty h.len q.1.1.1.1.1.1.1.1.1.0),
        λ e. absurd (omega (arith, e)),
      ))
      also tt)

  pub sync_permitted : (h : Header) → first (Checks.synchronous_rules d i h p) ≡ v_acts → Synchronous h
  sync_permitted h e =
      let q = sync_passed d i h p e in
      sync_lets h h.kind (acted_class synchronous h.kind q.1.1.1.0 q.1.1.1.1.0) q

-- the asynchronous channel
pub async_passes : (p : List ℕ) (h : Header) → permits asynchronous_forms h ≡ true → first (Checks.asynchronous_rules h p) ≡ v_acts
unfolding class_of
async_passes p =
    form_of (λ h. first (Checks.asynchronous_rules h p) ≡ v_acts) asynchronous_forms
    ((λ h t k l. rw (t, eqb-true h.code 0 k, eqb-true h.len 0 l))
    also (λ h t k l. rw (t, eqb-true h.code 1 k))
    also (λ h t k l. rw (t, above 6 h.code k, eqb-true h.len 0 l))
    also (λ h t k l. rw (t, eqb-true h.len 8 l))
    also (λ h t k l. rw (t, eqb-true h.len 0 l))
    also (λ h t k l. rw (t, above 1 h.code k, eqb-true h.len 0 l))
    also (λ h t k l. rw (t, eqb-true h.len 0 l))
    also tt)

module _ (p : List ℕ) (h : Header) where
  abbrev Goes : ℕ → Type 0
  Goes t = Passes (Checks.asynchronous_rules (typed t h) p) → permits asynchronous_forms (typed t h) ≡ true

  -- a lock message is a release without payload, or a request
  lock_form : (k l : ℕ) → ltb 1 k ≡ false → (eqb k 0 && ltb 0 l) ≡ false → ((eqb k 0 && eqb l 0) || ((eqb k 1 && true) || false)) ≡ true
  lock_form zero l e f = rw (empty l f)
  lock_form (suc zero) l e f = refl
  lock_form (suc (suc k)) l e f = absurd (omega (arith, ltb-false 1 (suc (suc k)) e))

  async_lets : (t : ℕ) → one_of asynchronous_types t ≡ true → Goes t
  unfolding class_of
  async_lets =
      each_of Goes asynchronous_types
      ((λ q. absurd (true≢false q.0))
      also (λ q. absurd (true≢false q.1.0))
      also (λ q. lock_form h.code h.len q.1.1.1.1.1.0 q.1.1.1.1.1.1.1.1.0)
      also (λ q. rw (below 6 h.code q.1.1.1.1.1.1.0, empty h.len q.1.1.1.1.1.1.1.0))
      also (λ q. rw (not_off (eqb h.len 8) q.1.1.1.1.1.1.1.1.1.0))
      also (λ q. absurd (true≢false q.1.1.1.1.0))
      also (λ q. rw (empty h.len q.1.1.1.1.1.1.1.0))
      also (λ q. rw (below 1 h.code q.1.1.1.1.1.0, empty h.len q.1.1.1.1.1.1.1.0))
      also (λ q. rw (empty h.len q.1.1.1.1.1.1.1.0))
      also tt)

  pub async_permitted : first (Checks.asynchronous_rules h p) ≡ v_acts → permits asynchronous_forms h ≡ true
  async_permitted e =
      let q = async_passed h p e in
      async_lets h.kind (acted_class asynchronous h.kind q.1.1.0 q.1.1.1.0) q

-- a connection without a role
module _ (d : Server) (p : List ℕ) where
  sub_address : SubAddress p → (is_nil p || same p hislip0) ≡ true
  sub_address s = go s.empty_or_hislip0
    where
      go : (p ≡ []) ⊎ (p ≡ hislip0) → (is_nil p || same p hislip0) ≡ true
      go (inl e) = or_of _ _ (nil← p e)
      go (inr e) = or_r (is_nil p) _ (ap (λ x. same x hislip0) e ∙ same_refl hislip0)

  address_sub : (is_nil p || same p hislip0) ≡ true → SubAddress p
  address_sub e = record { empty_or_hislip0 = go (or→ (is_nil p) _ e) }
    where
      go : (is_nil p ≡ true) ⊎ (same p hislip0 ≡ true) → (p ≡ []) ⊎ (p ≡ hislip0)
      go (inl h) = inl (nil→ p h)
      go (inr h) = inr (same→ p hislip0 h)

  pub initialize_passes : SubAddress p → all live d.locks.entries ≡ false → (h : Header) → permits initialize_forms h ≡ true → first (Checks.opening_rules d h p) ≡ v_acts
  initialize_passes s a = form_of (λ h. first (Checks.opening_rules d h p) ≡ v_acts) initialize_forms ((λ h t k l. rw (t, sub_address s, a)), tt)

  pub join_passes : (h : Header) → half_open (at d.locks.entries (slot_of_number d.locks.entries h.param)) ≡ true →
      permits async_initialize_forms h ≡ true → first (Checks.opening_rules d h p) ≡ v_acts
  join_passes h o e = form_of (λ h. half_open (at d.locks.entries (slot_of_number d.locks.entries h.param)) ≡ true →
      first (Checks.opening_rules d h p) ≡ v_acts) async_initialize_forms ((λ h t k l o. rw (t, eqb-true h.len 0 l, o)), tt) h e o

  abbrev pub Opens : Header → Type 0
  Opens h = (h.kind ≡ 0) × (permits initialize_forms h ≡ true) × SubAddress p × (all live d.locks.entries ≡ false)

  abbrev pub Joins : Header → Type 0
  Joins h = (h.kind ≡ 17) × (permits async_initialize_forms h ≡ true) × (half_open (at d.locks.entries (slot_of_number d.locks.entries h.param)) ≡ true)

  pub opening_permitted : (h : Header) → first (Checks.opening_rules d h p) ≡ v_acts → Opens h ⊎ Joins h
  opening_permitted h e = go (or→ (eqb h.kind 0) _ (not_off (either 0 17 h.kind) q.0))
    where
      q : Passes (Checks.opening_rules d h p)
      q = opening_passed d h p e

      go : (eqb h.kind 0 ≡ true) ⊎ (eqb h.kind 17 ≡ true) → Opens h ⊎ Joins h
      go (inl t) = inl (eqb-true _ _ t, rw t, address_sub (not_off _ (rw t at q.1.1.0)), rw t at q.1.1.1.0)
      go (inr t) = inr (eqb-true _ _ t, rw (t, empty h.len (rw t at q.1.0)), not_off _ (rw t at q.1.1.1.1.0))

-- What a message that acts has passed, as the functions that carry it out require it. Assumes nothing.
use Rattle.std.specs.Prelude.{◌≡◌, refl, List, [], ◌∷◌, ℕ, suc, ◌+◌, ◌≤◌, ◌<◌, eqb, ltb, length}
use Rattle.std.proofs.Common.{sym, ap, ◌∙◌, ⊎_elim, arith, eq-eqb, ne_eqb, eqb-true, ltb-true, ltb-false}
use mathlib.Core.Bool.{Bool, true, false, not, ◌&&◌, ◌||◌, true≢false}
use Rattle.std.proofs.Math.ListN.{get_or-eq_default}
use Rattle.std.proofs.lemmas.Bool.{eqb-false}
use Rattle.wire.specs.Both.{and_left}
use Rattle.wire.specs.declared.Header.{Header}
use Rattle.model.specs.Sizes.{no_connection, session_limit}
use Rattle.model.specs.Lists.{all, position}
use Rattle.model.specs.MessageTypes.{Initialize, AsyncInitialize, AsyncMaximumMessageSize}
use Rattle.model.specs.State.{Entry, at, blank, live, half_open, slot_of_number}
use Rattle.model.specs.Place.{Place, Role, Role.r_none, Role.r_half_open, Role.r_synchronous, Role.r_asynchronous, role_by, slot_in, place_of, role_in, is_on_connection}
use Rattle.model.specs.Checks.{Verdict.v_acts, first, either, opening_rules, asynchronous_rules}
use Rattle.claims.proofs.Fits.{opening_passed, async_passed}
use Rattle.model.proofs.Place.{place_role, place_sound}
use Rattle.checks.specs.Opening.{all_live}
use Rattle.state.specs.Search.{seat}
use Rattle.state.specs.View.{Memory, memory, view, locks_of}
use Rattle.wire.specs.Frame.{bytes_of}
use Rattle.model.specs.Acts.{acts}
use Rattle.model.specs.Step.{finish}
use Rattle.model.specs.Interface.{Reply.took, Outcome.acted}
use Rattle.sessions.specs.declared.Delivery.{Delivery}
use Rattle.sessions.specs.Did.{Did, did_plainly, numbers_of}
use Rattle.sessions.specs.Replies.{nothing_said}
use Rattle.state.specs.Change.{sessions_held}

abbrev is_async : Role → Bool
is_async r_none = false
is_async r_half_open = false
is_async r_synchronous = false
is_async r_asynchronous = true

-- a connection in the asynchronous role is its session's second
second_of : (l h b a : Bool) → role_by l h b ≡ r_asynchronous → (l && (b || a)) ≡ true → a ≡ true
second_of false h b a p q = absurd (true≢false (sym q))
second_of true true b a p q = absurd (true≢false (ap is_async (sym p)))
second_of true false true a p q = absurd (true≢false (ap is_async (sym p)))
second_of true false false a p q = q

pub second_connection_lem : (w s : List ℕ) (c i : ℕ) → place_of (locks_of w s).entries c ≡ seat i r_asynchronous → (at (locks_of w s).entries i).asynchronous ≡ c
second_connection_lem w s c i e =
    let es : List Entry = (locks_of w s).entries in
    let x : Entry = at es (slot_in es c) in
    let p : role_in c x ≡ r_asynchronous = sym (place_role es c) ∙ ap (λ (k : Place). k.role) e in
    ap (λ (k : Place). (at es k.slot).asynchronous) (sym e)
    ∙ ⊎_elim
    (λ (q : is_on_connection c x ≡ true). eqb-true x.asynchronous c (second_of (live x) (eqb x.asynchronous no_connection) (eqb x.synchronous c) (eqb x.asynchronous c) p q))
    (λ (q : x ≡ blank). absurd (true≢false (ap is_async (sym p ∙ ap (role_in c) q))))
    (place_sound es c)

and_off : (x y : Bool) → x ≡ true → (x && y) ≡ false → y ≡ false
and_off true y e f = f
and_off false y e f = absurd (true≢false (sym e))

not_off : (x : Bool) → not x ≡ false → x ≡ true
not_off true e = refl
not_off false e = absurd (true≢false e)

position_small : {A : Type 0} (p : A → Bool) (es : List A) → position p es ≤ length es
position_small p [] = omega arith
position_small p (e ∷ es) = by (p e) (position_small p es)
  where
    by : (b : Bool) → position p es ≤ length es → mathlib.Core.Bool.cond b 0 (suc (position p es)) ≤ suc (length es)
    by true h = omega arith
    by false h = omega arith

module _ (w s : List ℕ) (h : Header) (p : List ℕ) (passed : first (opening_rules (view (memory w s)) h p) ≡ v_acts) where
  -- Initialize: a slot is free
  pub slot_free : h.kind ≡ Initialize → slot_of_number (locks_of w s).entries 0 < session_limit
  slot_free e =
      let q = opening_passed (view (memory w s)) h p passed in
      let es : List Entry = (locks_of w s).entries in
      let f : all live es ≡ false = and_off (eqb h.kind Initialize) (all live es) (eq-eqb h.kind Initialize e) q.1.1.1.0 in
      let n : slot_of_number es 0 ≡ length es → ⊥ = eqb-false (slot_of_number es 0) (length es) (sym (all_live es) ∙ f) in
      let l : slot_of_number es 0 ≤ length es = position_small (λ (e : Entry). eqb e.number 0) es in
      let t : length es ≡ session_limit = sessions_held w s in
      lower (slot_of_number es 0) (length es) l n t
    where
      lower : (a b : ℕ) → a ≤ b → (a ≡ b → ⊥) → b ≡ session_limit → a < session_limit
      lower a b l n t = by (ltb a b) refl
        where
          by : (x : Bool) → ltb a b ≡ x → a < session_limit
          by true q = let k : a < b = ltb-true a b q in omega arith
          by false q = let k : b ≤ a = ltb-false a b q in absurd (n (let z : a ≡ b = omega arith in z))

  -- AsyncInitialize: the session that it names is live with one connection alone, and so in the table
  pub slot_half : (h.kind ≡ Initialize → ⊥) → half_open (at (locks_of w s).entries (slot_of_number (locks_of w s).entries h.param)) ≡ true
  slot_half o =
      let q = opening_passed (view (memory w s)) h p passed in
      let e : Entry = at (locks_of w s).entries (slot_of_number (locks_of w s).entries h.param) in
      let k : either Initialize AsyncInitialize h.kind ≡ true = not_off (either Initialize AsyncInitialize h.kind) q.0 in
      let t : eqb h.kind AsyncInitialize ≡ true = or_right (eqb h.kind Initialize) (eqb h.kind AsyncInitialize) (ne_eqb h.kind Initialize o) k in
      not_off (half_open e) (and_off (eqb h.kind AsyncInitialize) (not (half_open e)) t q.1.1.1.1.0)
    where
      or_right : (x y : Bool) → x ≡ false → (x || y) ≡ true → y ≡ true
      or_right true y e f = absurd (true≢false e)
      or_right false y e f = f

  slot_lives : (h.kind ≡ Initialize → ⊥) → live (at (locks_of w s).entries (slot_of_number (locks_of w s).entries h.param)) ≡ true
  slot_lives o =
      let e : Entry = at (locks_of w s).entries (slot_of_number (locks_of w s).entries h.param) in
      and_left (live e) (eqb e.asynchronous 255) (slot_half o)

  pub slot_named : (h.kind ≡ Initialize → ⊥) → slot_of_number (locks_of w s).entries h.param < session_limit
  slot_named o = inside (locks_of w s).entries (slot_of_number (locks_of w s).entries h.param) (sessions_held w s) (slot_lives o)
    where
      inside : (es : List Entry) (i : ℕ) → length es ≡ session_limit → live (at es i) ≡ true → i < session_limit
      inside es i t v = by (ltb i session_limit) refl
        where
          by : (x : Bool) → ltb i session_limit ≡ x → i < session_limit
          by true q = ltb-true i session_limit q
          by false q = let k : length es ≤ i = rw t (ltb-false i session_limit q) in absurd (true≢false (sym v ∙ ap live (get_or-eq_default es blank k)))

-- maximum message size: 8 bytes
pub size_eight : (h : Header) (p : List ℕ) → first (asynchronous_rules h p) ≡ v_acts → h.kind ≡ AsyncMaximumMessageSize → h.len ≡ 8
size_eight h p e k =
    let q = async_passed h p e in
    eqb-true h.len 8 (not_off (eqb h.len 8) (and_off (eqb h.kind AsyncMaximumMessageSize) (not (eqb h.len 8))
    (eq-eqb h.kind AsyncMaximumMessageSize k) q.1.1.1.1.1.1.1.1.1.0))

-- the connection of a half-open session never gets here; the definition says this
pub half_acts : (m : Memory) (i c : ℕ) (h : Header) (p out : List ℕ) (r : Delivery) → r ≡ record { refusal = 0; outcome = 6; session = 0; taken = 16 + h.len; output = 0; missing = 0 }
    → Did (finish (view m) (acts r_half_open (view m) i c h p)) r m m out out
unfolding acts bytes_of
half_acts m i c h p out r e = did_plainly (view m) (took acted (16 + h.len) 0) (view m).rest [] r m m out out (ap numbers_of e) refl (nothing_said out) refl (λ t. t)

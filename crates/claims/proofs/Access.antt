-- I, proved: the row of rules of the synchronous channel, read both ways; no invariant is needed.
use mathlib.Core.Path.{◌≡◌, refl, sym, ap, ◌∙◌}
use mathlib.Core.Bool.{Bool, true, false, not, ◌&&◌, cond, true≢false}
use mathlib.Core.List.{List, [], ◌∷◌}
use Prim.Native.Nat.{ℕ, zero, suc, ◌+◌}
use native.Mathlib.Omega.{arith}
use lib.Dec.{eqb, ltb}
use lib.ListN.{length, take, drop}
use borrow.Author.Tests.{eqb-true, eqb-false, eq-eqb, ne_eqb, ltb-false, le-ltb}
use Rattle.wire.specs.declared.Header.{Header}
use Rattle.wire.specs.Message.{header, prologue}
use Rattle.wire.specs.Class.{one_of, asynchronous, class_of}
use Rattle.model.specs.Sizes.{payload_limit, no_connection}
use Rattle.model.specs.MessageTypes.{commands}
use Rattle.model.specs.State.{Entry, live, Server, exchange_at, connection_at}
use Rattle.model.specs.Interface.{Event.delivery, Outcome.held, Outcome.acted, Reply.took}
use Rattle.model.specs.Scan.{Scan, Scan.empty, Scan.few, Scan.wrong, Scan.skipping, Scan.long, Scan.part, Scan.whole, sorted, fresh_scan, scan, size}
use Rattle.model.specs.Place.{slot_of, entry_of, Role, Role.r_none, Role.r_half_open, Role.r_synchronous, Role.r_asynchronous, role_by, role_of}
use Rattle.model.specs.Checks
use Rattle.model.specs.Checks.{Verdict, Verdict.v_more, Verdict.v_skipped, Verdict.v_held, Verdict.v_ignored, Verdict.v_closed, Verdict.v_acts}
use Rattle.model.specs.Checks.{Verdict.v_error, Verdict.v_fatal, Rule, first, verdict, judged, either}
use Rattle.model.specs.Acts
use Rattle.model.specs.Refusals.{refusal}
use Rattle.model.specs.Step.{Result, effect, received, plan, answered, finish, step}
use Rattle.model.specs.Access.{OnSynchronous, WholeMessage, Command, access_of, Access}
use Rattle.claims.proofs.Classes.{acted_class}
use Rattle.model.proofs.Basics.{and_l, and_r, not_of, not_off}
use Rattle.model.proofs.Place.{place_role}
use Rattle.claims.proofs.FirstRule.{never, before, applies}
use Rattle.claims.proofs.Fits.{opening_passed, sync_passed, async_passed}
use Rattle.claims.proofs.ReadOff.{each_of}
use Rattle.claims.proofs.Isolation.{not_opening, not_async}
use Rattle.claims.proofs.Replies.{acting}

-- a whole message, read off the bytes, both ways
whole_fresh : (bs : List ℕ) (h : Header) (p : List ℕ) → fresh_scan bs ≡ Scan.whole h p → WholeMessage 0 bs × (header bs ≡ h)
unfolding fresh_scan
whole_fresh bs h p e = go (ltb (length bs) 16) (prologue bs) (ltb payload_limit n) (ltb (length bs) (16 + n)) refl refl refl refl e
  where
    n : ℕ
    n = (header bs).len

    go : (a b c d : Bool) → ltb (length bs) 16 ≡ a → prologue bs ≡ b → ltb payload_limit n ≡ c → ltb (length bs) (16 + n) ≡ d → sorted a b c d bs (header bs) ≡ Scan.whole h p
        → WholeMessage 0 bs × (header bs ≡ h)
    go true b c d ea eb ec ed e = absurd (omega (arith, ap size e))
    go false false c d ea eb ec ed e = absurd (omega (arith, ap size e))
    go false true true d ea eb ec ed e = absurd (let z : ◌≡◌ {A = ℕ} 0 1 = cc in omega arith)
    go false true false true ea eb ec ed e = absurd (omega (arith, ap size e))
    go false true false false ea eb ec ed e =
        (record { no_remainder = refl; header_here = ltb-false _ _ ea; begins_well = eb; permitted = ltb-false _ _ ec; all_here = ltb-false _ _ ed }, cc)

pub whole_read : (r : ℕ) (bs : List ℕ) (h : Header) (p : List ℕ) → scan r bs ≡ Scan.whole h p → WholeMessage r bs × (header bs ≡ h)
unfolding scan
whole_read r [] h p e = absurd (let z : ◌≡◌ {A = ℕ} 0 1 = cc in omega arith)
whole_read zero (b ∷ bs) h p e = whole_fresh (b ∷ bs) h p e
whole_read (suc r) (b ∷ bs) h p e = absurd (let z : ◌≡◌ {A = ℕ} 0 1 = cc in omega arith)

read_whole : (r : ℕ) (bs : List ℕ) → WholeMessage r bs → scan r bs ≡ Scan.whole (header bs) (take (header bs).len (drop 16 bs))
unfolding scan fresh_scan
read_whole r [] w = absurd (omega (arith, w.header_here))
read_whole zero (b ∷ bs) w =
    let n = (header (b ∷ bs)).len in
    rw (le-ltb (length (b ∷ bs)) 16 w.header_here, w.begins_well, le-ltb payload_limit n w.permitted, le-ltb (length (b ∷ bs)) (16 + n) w.all_here)
read_whole (suc r) (b ∷ bs) w = absurd (omega (arith, w.no_remainder))

-- the role, both ways
pub sync_role : (d : Server) (c : ℕ) → role_of d.locks.entries c ≡ r_synchronous → OnSynchronous d c
sync_role d c e = go (live x) (eqb x.asynchronous no_connection) (eqb x.synchronous c) refl refl refl (sym (place_role d.locks.entries c) ∙ e)
  where
    x : Entry
    x = entry_of d c

    go : (a b s : Bool) → live x ≡ a → eqb x.asynchronous no_connection ≡ b → eqb x.synchronous c ≡ s → role_by a b s ≡ r_synchronous → OnSynchronous d c
    go false b s ea eb es q = absurd (let z : ◌≡◌ {A = ℕ} 0 1 = cc in omega arith)
    go true true s ea eb es q = absurd (let z : ◌≡◌ {A = ℕ} 0 1 = cc in omega arith)
    go true false false ea eb es q = absurd (let z : ◌≡◌ {A = ℕ} 0 1 = cc in omega arith)
    go true false true ea eb es q = record { alive = ea; established = eqb-false _ _ eb; synchronous_one = eqb-true _ _ es }

pub role_sync : (d : Server) (c : ℕ) → OnSynchronous d c → role_of d.locks.entries c ≡ r_synchronous
role_sync d c s = place_role d.locks.entries c ∙ rw (s.alive, ne_eqb (entry_of d c).asynchronous no_connection s.established, eq-eqb (entry_of d c).synchronous c s.synchronous_one)

-- the types
not_clearance : (t : ℕ) → one_of commands t ≡ true → eqb t 8 ≡ false
not_clearance t e = each_of (λ t. eqb t 8 ≡ false) commands (refl, (refl, (refl, tt))) t e

pub outside : (b : Bool) (t : ℕ) → one_of commands t ≡ true → (b && not (eqb t 8)) ≡ false → b ≡ false
outside true t e h = absurd (true≢false (sym (ap not (not_clearance t e)) ∙ h))
outside false t e h = refl

-- rows of rules: which one holds the message
is_held : Verdict → Bool
is_held v_held = true
is_held v_more = false
is_held v_skipped = false
is_held v_ignored = false
is_held v_closed = false
is_held v_acts = false
is_held (v_error n) = false
is_held (v_fatal n) = false

module _ (d : Server) (c : ℕ) (h : Header) (p : List ℕ) where
  abbrev rules : List Rule
  rules = Checks.synchronous_rules d (slot_of d c) h p

  abbrev Lacks : Type 0
  Lacks = ((exchange_at d.rest (slot_of d c)).in_clear ≡ false) × (one_of commands h.kind ≡ true) × (access_of d c ≡ false)

  sync_held : first rules ≡ v_held → Lacks
  unfolding is_held
  sync_held e =
      let b = before is_held refl 6 rules refl (ap is_held e) in
      let t : (one_of commands h.kind && not (access_of d c)) ≡ true = applies is_held refl (drop 6 rules) refl b.1.1.1.1.1.1 in
      let o = and_l (one_of commands h.kind) _ t in
      (outside _ h.kind o b.1.1.0, o, not_of _ (and_r (one_of commands h.kind) _ t))

  held_sync : Lacks → first rules ≡ v_held
  unfolding class_of
  held_sync l =
      each_of
      (λ t. first (Checks.synchronous_rules d (slot_of d c) (record { kind = t; code = h.code; param = h.param; len = h.len }) p) ≡ v_held)
      commands
      (rw (l.0, l.2), (rw (l.0, l.2), (rw (l.0, l.2), tt)))
      h.kind
      l.1

-- what holds a message: only check 9
module _ (d : Server) (c : ℕ) where
  judged_held : (r : Role) (h : Header) (p : List ℕ) → judged r d (slot_of d c) h p ≡ v_held → (r ≡ r_synchronous) × Lacks d c h p
  unfolding is_held
  judged_held r_none h p e = absurd (never is_held refl (Checks.opening_rules d h p) refl (ap is_held e))
  judged_held r_half_open h p e = absurd (let z : ◌≡◌ {A = ℕ} 0 1 = cc in omega arith)
  judged_held r_synchronous h p e = (refl, sync_held d c h p e)
  judged_held r_asynchronous h p e = absurd (never is_held refl (Checks.asynchronous_rules h p) refl (ap is_held e))

  pub made : (bs : List ℕ) (h : Header) (p : List ℕ) → scan (connection_at d.rest c).remainder bs ≡ Scan.whole h p →
      role_of d.locks.entries c ≡ r_synchronous → (exchange_at d.rest (slot_of d c)).in_clear ≡ false → one_of commands h.kind ≡ true → Command d c bs
  made bs h p es er n o =
      let w = whole_read _ bs h p es in
      record { on_synchronous = sync_role d c er; not_in_clear = n; message = w.0; of_type_lem = rw w.1 o }

  verdict_held : (bs : List ℕ) (s : Scan) → scan (connection_at d.rest c).remainder bs ≡ s →
      verdict (role_of d.locks.entries c) d (slot_of d c) s ≡ v_held → Command d c bs × (access_of d c ≡ false)
  unfolding verdict
  verdict_held bs empty es e = absurd (let z : ◌≡◌ {A = ℕ} 0 1 = cc in omega arith)
  verdict_held bs few es e = absurd (let z : ◌≡◌ {A = ℕ} 0 1 = cc in omega arith)
  verdict_held bs wrong es e = absurd (let z : ◌≡◌ {A = ℕ} 0 1 = cc in omega arith)
  verdict_held bs (skipping k) es e = absurd (let z : ◌≡◌ {A = ℕ} 0 1 = cc in omega arith)
  verdict_held bs (long h) es e = absurd (long_not (role_of d.locks.entries c) e)
    where
      long_not : (r : Role) → Checks.too_long r ≡ v_held → ⊥
      long_not r_none e = let z : ◌≡◌ {A = ℕ} 0 1 = cc in omega arith
      long_not r_half_open e = let z : ◌≡◌ {A = ℕ} 0 1 = cc in omega arith
      long_not r_synchronous e = let z : ◌≡◌ {A = ℕ} 0 1 = cc in omega arith
      long_not r_asynchronous e = let z : ◌≡◌ {A = ℕ} 0 1 = cc in omega arith
  verdict_held bs (part h) es e = absurd (part_not (role_of d.locks.entries c) e)
    where
      opening_not : (b : Bool) → cond b v_more (v_fatal 3) ≡ v_held → ⊥
      opening_not true e = let z : ◌≡◌ {A = ℕ} 0 1 = cc in omega arith
      opening_not false e = let z : ◌≡◌ {A = ℕ} 0 1 = cc in omega arith

      part_not : (r : Role) → Checks.partly r h ≡ v_held → ⊥
      part_not r_none e = opening_not (either 0 17 h.kind) e
      part_not r_half_open e = let z : ◌≡◌ {A = ℕ} 0 1 = cc in omega arith
      part_not r_synchronous e = let z : ◌≡◌ {A = ℕ} 0 1 = cc in omega arith
      part_not r_asynchronous e = let z : ◌≡◌ {A = ℕ} 0 1 = cc in omega arith
  verdict_held bs (whole h p) es e =
      let j = judged_held (role_of d.locks.entries c) h p e in
      (made bs h p es j.0 j.1.0 j.1.1, j.1.2)

  -- what acts
  acts_with : (r : Role) (k n : ℕ) (bs : List ℕ) (h : Header) (p : List ℕ) → scan (connection_at d.rest c).remainder bs ≡ Scan.whole h p →
      role_of d.locks.entries c ≡ r → judged r d (slot_of d c) h p ≡ v_acts
      → one_of commands h.kind ≡ true → (Acts.acts r d (slot_of d c) c h p).reply ≡ took acted k n → Command d c bs × (access_of d c ≡ true) × (n ≡ (entry_of d c).number)
  unfolding Acts.acts
  acts_with r_none k n bs h p es er q o e = absurd (true≢false (sym (not_off (either 0 17 h.kind) (opening_passed d h p q).0) ∙ not_opening h.kind o))
  acts_with r_half_open k n bs h p es er q o e = absurd (let z : ◌≡◌ {A = ℕ} 0 1 = cc in omega arith)
  acts_with r_synchronous k n bs h p es er q o e =
      let g = sync_passed d (slot_of d c) h p q in
      let a : (one_of commands h.kind && not (access_of d c)) ≡ false = g.1.1.1.1.1.1.0 in
      (made bs h p es er (outside _ h.kind o g.1.1.0) o, not_off _ (rw o at a), cc)
  acts_with r_asynchronous k n bs h p es er q o e = let g = async_passed h p q in absurd (true≢false (sym (acted_class asynchronous h.kind g.1.1.0 g.1.1.1.0) ∙ not_async h.kind o))

  effect_held : (k n : ℕ) (v : Verdict) (s : Scan) (r : Role) → (effect v s r d (slot_of d c) c).reply ≡ took held k n → v ≡ v_held
  unfolding effect Acts.acts
  effect_held k n v_more s r e = cc
  effect_held k n v_held s r e = refl
  effect_held k n v_skipped s r e = cc
  effect_held k n v_ignored s r e = cc
  effect_held k n (v_error x) s r e = cc
  effect_held k n (v_fatal x) s r e = cc
  effect_held k n v_closed s r e = cc
  effect_held k n v_acts empty r e = cc
  effect_held k n v_acts few r e = cc
  effect_held k n v_acts wrong r e = cc
  effect_held k n v_acts (skipping x) r e = cc
  effect_held k n v_acts (long x) r e = cc
  effect_held k n v_acts (part x) r e = cc
  effect_held k n v_acts (whole h p) r e = absurd (acts_not r e)
    where
      opens_not : (b : Bool) → (Acts.opens b d c h).reply ≡ took held k n → ⊥
      opens_not true e = let z : ◌≡◌ {A = ℕ} 0 1 = cc in omega arith
      opens_not false e = let z : ◌≡◌ {A = ℕ} 0 1 = cc in omega arith

      acts_not : (r : Role) → (Acts.acts r d (slot_of d c) c h p).reply ≡ took held k n → ⊥
      acts_not r_none e = opens_not (eqb h.kind 0) e
      acts_not r_half_open e = let z : ◌≡◌ {A = ℕ} 0 1 = cc in omega arith
      acts_not r_synchronous e = let z : ◌≡◌ {A = ℕ} 0 1 = cc in omega arith
      acts_not r_asynchronous e = let z : ◌≡◌ {A = ℕ} 0 1 = cc in omega arith

pub accessed : (d : Server) (c : ℕ) (bs : List ℕ) (room : ℕ) → Access d c bs room
unfolding step answered plan received finish verdict effect Rattle.model.specs.Locks.change
accessed d c bs room =
    record {
      acts_with = λ k n e o.
          let a = acting d c bs room k n e in
          acts_with d c (role_of d.locks.entries c) k n bs a.head a.payload a.shows refl a.passes (rw a.reads at o) (ap (λ (r : Result). r.reply) (sym a.does) ∙ e);
      held_without = λ z m a. go-without z m a;
      held_only = λ k n e. go-held (refusal d (delivery c bs room)) k n e;
    }
  where
    s : Scan
    s = scan (connection_at d.rest c).remainder bs

    whole-one : Scan
    whole-one = Scan.whole (header bs) (take (header bs).len (drop 16 bs))

    go-held : (z k n : ℕ) → (answered z d (delivery c bs room)).reply ≡ took held k n → Command d c bs × (access_of d c ≡ false)
    go-held zero k n e = verdict_held d c bs s refl (effect_held d c k n _ s _ e)
    go-held (suc z) k n e = absurd (let y : ◌≡◌ {A = ℕ} 0 1 = cc in omega arith)

    go-without : refusal d (delivery c bs room) ≡ 0 → Command d c bs → access_of d c ≡ false → step d (delivery c bs room) ≡ record { server = d; reply = took held 0 0; frames = [] }
    go-without z m a =
        ap (λ n. answered n d (delivery c bs room)) z
        ∙ ap (λ x. finish d (received d c x)) (read_whole _ bs m.message)
        ∙ ap (λ r. finish d (effect (verdict r d (slot_of d c) whole-one) whole-one r d (slot_of d c) c)) (role_sync d c m.on_synchronous)
        ∙ ap (λ v. finish d (effect v whole-one r_synchronous d (slot_of d c) c)) (held_sync d c (header bs) (take (header bs).len (drop 16 bs)) (m.not_in_clear, m.of_type_lem, a))

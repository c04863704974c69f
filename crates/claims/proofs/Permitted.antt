-- What is permitted acts, and what acts was permitted.
use mathlib.Core.Path.{◌≡◌, refl, sym, ap, ap₂, subst, ◌∙◌}
use mathlib.Core.Bool.{Bool, true, false, ◌&&◌, cond, true≢false}
use mathlib.Core.List.{List, [], ◌∷◌}
use mathlib.Core.Logic.{◌⊎◌, inl, inr}
use Prim.Native.Nat.{ℕ, zero, suc, ◌+◌, ◌<◌}
use native.Mathlib.Omega.{arith}
use lib.Dec.{eqb}
use lib.ListN.{length}
use borrow.Author.Tests.{eqb-false, eq-eqb, ne_eqb, le-ltb}
use Rattle.wire.specs.declared.Header.{Header}
use Rattle.wire.specs.Message.{header, payload_of}
use Rattle.model.specs.Sizes.{payload_limit, no_connection, session_limit}
use Rattle.model.specs.MessageTypes.{Initialize, DataEND}
use Rattle.model.specs.Lists.{all, tally}
use Rattle.model.specs.State.{Entry, blank, at, live, half_open, slot_of_number, Server, connection_at, fresh, Making}
use Rattle.model.specs.Interface.{Event, Event.delivery, Outcome.acted, Reply.took}
use Rattle.model.specs.Scan.{Scan, fresh_scan, scan}
use Rattle.model.specs.Place.{is_on_connection, slot_of, entry_of, Role, Role.r_none, Role.r_half_open, Role.r_synchronous, Role.r_asynchronous, role_by, role_in, role_of}
use Rattle.model.specs.Allowing.{admits_is}
use Rattle.model.specs.Locks.{issued}
use Rattle.model.specs.Checks.{Verdict.v_acts, verdict, judged}
use Rattle.model.specs.Acts
use Rattle.model.specs.Refusals.{refusal}
use Rattle.model.specs.Step.{Result, effect, received, plan, answered, finish, step, final, log}
use Rattle.model.specs.Access.{WholeMessage}
use Rattle.model.specs.SessionId.{FirstFree, in_use, onward, last_in_log}
use Rattle.model.specs.Permitted
use Rattle.model.specs.Permitted.{permits, clear_forms, asynchronous_forms, initialize_forms, async_initialize_forms, OnAsynchronous, WithoutRole, Permitted, ActsExactly, PermittedActs}
use Rattle.model.proofs.Basics.{and_l, and_r, both, isn't}
use Rattle.model.proofs.Place.{place_sound, place_role, no_role}
use Rattle.claims.proofs.Invariant.{Firm}
use Rattle.claims.proofs.Fits.{inv_run}
use Rattle.claims.proofs.Scanning.{whole_scan}
use Rattle.claims.proofs.Numbers.{live_found, live_number}
use Rattle.claims.proofs.Replies.{acting}
use Rattle.claims.proofs.Access.{whole_read, sync_role, role_sync}
use Rattle.claims.proofs.SessionId.{session_ids}
use Rattle.claims.proofs.Deciding.{async_own}
use Rattle.claims.proofs.Forms.{◌also◌, form_of, command_passes, clear_passes, sync_permitted, async_passes, async_permitted, initialize_passes}
use Rattle.claims.proofs.Forms.{join_passes, opening_permitted, Synchronous, Opens, Joins}

-- a whole message is scanned as one
read_whole : (r : ℕ) (bs : List ℕ) → WholeMessage r bs → scan r bs ≡ Scan.whole (header bs) (payload_of (header bs) bs)
unfolding scan fresh_scan
read_whole r [] w = absurd (omega (arith, w.header_here))
read_whole zero (b ∷ bs) w =
    let n = (header (b ∷ bs)).len in
    rw (le-ltb (length (b ∷ bs)) 16 w.header_here, w.begins_well, le-ltb payload_limit n w.permitted, le-ltb (length (b ∷ bs)) (16 + n) w.all_here)
read_whole (suc r) (b ∷ bs) w = absurd (omega (arith, w.no_remainder))

-- roles
module _ (d : Server) (c : ℕ) where
  pub role_async : OnAsynchronous d c → role_of d.locks.entries c ≡ r_asynchronous
  role_async s = place_role d.locks.entries c ∙ rw (s.alive, ne_eqb (entry_of d c).asynchronous no_connection s.established, ne_eqb (entry_of d c).synchronous c s.not_synchronous)

  async_role : role_of d.locks.entries c ≡ r_asynchronous → OnAsynchronous d c
  async_role e = go (live x) (eqb x.asynchronous no_connection) (eqb x.synchronous c) refl refl refl (sym (place_role d.locks.entries c) ∙ e)
    where
      x : Entry
      x = entry_of d c

      go : (a b s : Bool) → live x ≡ a → eqb x.asynchronous no_connection ≡ b → eqb x.synchronous c ≡ s → role_by a b s ≡ r_asynchronous → OnAsynchronous d c
      go false b s ea eb es q = absurd (let z : ◌≡◌ {A = ℕ} 0 1 = cc in omega arith)
      go true true s ea eb es q = absurd (let z : ◌≡◌ {A = ℕ} 0 1 = cc in omega arith)
      go true false true ea eb es q = absurd (let z : ◌≡◌ {A = ℕ} 0 1 = cc in omega arith)
      go true false false ea eb es q = record { alive = ea; established = eqb-false _ _ eb; asynchronous_one = async_own d.locks.entries c e; not_synchronous = eqb-false _ _ es }

  role_none : WithoutRole d c → role_of d.locks.entries c ≡ r_none
  role_none w = place_role d.locks.entries c ∙ go (place_sound d.locks.entries c)
    where
      go : (is_on_connection c (entry_of d c) ≡ true) ⊎ (entry_of d c ≡ blank) → role_in c (entry_of d c) ≡ r_none
      go (inl h) = absurd (w.no_session (slot_of d c) h)
      go (inr h) = ap (role_in c) h

-- of these forms none is a DataEND's
no_clear : (h : Header) → permits clear_forms h ≡ true → h.kind ≡ DataEND → ⊥
no_clear = form_of (λ h. h.kind ≡ DataEND → ⊥) clear_forms ((λ h t k l e. omega (arith, t, e)), tt)

no_async : (h : Header) → permits asynchronous_forms h ≡ true → h.kind ≡ DataEND → ⊥
no_async =
    form_of (λ h. h.kind ≡ DataEND → ⊥) asynchronous_forms
    ((λ h t k l e. omega (arith, t, e))
    also (λ h t k l e. omega (arith, t, e))
    also (λ h t k l e. omega (arith, t, e))
    also (λ h t k l e. omega (arith, t, e))
    also (λ h t k l e. omega (arith, t, e))
    also (λ h t k l e. omega (arith, t, e))
    also (λ h t k l e. omega (arith, t, e))
    also tt)

-- live sessions counted
module _ (p : Entry → Bool) where
  all_count : (es : List Entry) → all p es ≡ true → tally p es ≡ length es
  all_count [] a = refl
  all_count (x ∷ es) a = rw (and_l (p x) _ a) (ap suc (all_count es (and_r (p x) _ a)))

  count_most : (es : List Entry) → tally p es < suc (length es)
  count_most [] = omega arith
  count_most (x ∷ es) = go (p x) (count_most es)
    where
      go : (b : Bool) → tally p es < suc (length es) → cond b (suc (tally p es)) (tally p es) < suc (suc (length es))
      go true h = omega arith
      go false h = omega arith

  fewer_count : (es : List Entry) → all p es ≡ false → tally p es < length es
  fewer_count [] a = absurd (true≢false a)
  fewer_count (x ∷ es) a = go (p x) a (fewer_count es) (count_most es)
    where
      go : (b : Bool) → (b && all p es) ≡ false → (all p es ≡ false → tally p es < length es) → tally p es < suc (length es) → cond b (suc (tally p es)) (tally p es) < suc (length es)
      go true a f h = omega (arith, f a)
      go false a f h = h

-- the next SessionID is one
module _ (es : List Entry) (last : ℕ) where
  no_earlier : (a b : ℕ) → (f : FirstFree es last a) → (g : FirstFree es last b) → f.passed < g.passed → ⊥
  no_earlier a b f g l = true≢false (sym (g.all_in_use f.passed l) ∙ ap (in_use es) (sym f.comes_next) ∙ f.not_in_use)

  first_one : (a b : ℕ) → FirstFree es last a → FirstFree es last b → a ≡ b
  first_one a b f g =
      let x = no_earlier a b f g in
      let y = no_earlier b a g f in
      let e : f.passed ≡ g.passed = omega (arith, x, y) in
      f.comes_next ∙ ap (λ n. onward (suc n) last) e ∙ sym g.comes_next

-- the slot of a half-open session's number
half_slot : (es : List Entry) → Firm es → (n j : ℕ) → half_open (at es j) ≡ true → (at es j).number ≡ n → slot_of_number es n ≡ j
half_slot es f n j h e =
    let u = and_l (live (at es j)) _ h in
    let v = live_number es n j (both _ _ u (eq-eqb _ _ e)) in
    f.numbers n (slot_of_number es n) j (both _ _ v (eq-eqb _ _ (live_found es n v))) (both _ _ u (eq-eqb _ _ e))

module _ (d : Server) (c : ℕ) (bs : List ℕ) (room : ℕ) where
  abbrev p : List ℕ
  p = payload_of (header bs) bs

  abbrev Does : Role → Type 0
  Does r = step d (delivery c bs room) ≡ finish d (Acts.acts r d (slot_of d c) c (header bs) p)

  -- a whole message is judged by the rules of its connection's role
  pub whole_step : refusal d (delivery c bs room) ≡ 0 → WholeMessage (connection_at d.rest c).remainder bs → (r : Role) → role_of d.locks.entries c ≡ r
      → step d (delivery c bs room) ≡ finish d (effect (judged r d (slot_of d c) (header bs) p) (Scan.whole (header bs) p) r d (slot_of d c) c)
  unfolding step answered plan received verdict
  whole_step z w r er =
      let s = Scan.whole (header bs) p in
      ap (λ n. answered n d (delivery c bs room)) z
      ∙ ap (λ x. finish d (received d c x)) (read_whole _ bs w)
      ∙ ap (λ x. finish d (effect (verdict x d (slot_of d c) s) s x d (slot_of d c) c)) er

  -- one that passes them does what it should
  pub whole_does : refusal d (delivery c bs room) ≡ 0 → WholeMessage (connection_at d.rest c).remainder bs → (r : Role) → role_of d.locks.entries c ≡ r
      → judged r d (slot_of d c) (header bs) p ≡ v_acts → Does r
  unfolding effect
  whole_does z w r er q = whole_step z w r er ∙ ap (λ v. finish d (effect v (Scan.whole (header bs) p) r d (slot_of d c) c)) q

  pub record Shows : Type 0 where
    pub message : WholeMessage (connection_at d.rest c).remainder bs
    pub passes : judged (role_of d.locks.entries c) d (slot_of d c) (header bs) p ≡ v_acts
    pub does : Does (role_of d.locks.entries c)

  pub shows : (k n : ℕ) → (step d (delivery c bs room)).reply ≡ took acted k n → Shows
  shows k n e =
      let a = acting d c bs room k n e in
      let w = whole_scan _ bs a.head a.payload a.shows in
      record {
        message = (whole_read _ bs a.head a.payload a.shows).0;
        passes = ap₂ (λ (h : Header) (q : List ℕ). judged (role_of d.locks.entries c) d (slot_of d c) h q) w.0 w.2 ∙ a.passes;
        does = a.does ∙ sym (ap₂ (λ (h : Header) (q : List ℕ). finish d (Acts.acts (role_of d.locks.entries c) d (slot_of d c) c h q)) w.0 w.2);
      }

  -- on a server with its sessions in order, where an Initialize that acts gets the next SessionID
  module _ (firm : Firm d.locks.entries) (last : ℕ) (ids : (k n : ℕ) → (step d (delivery c bs room)).reply ≡ took acted k n →
      (header bs).kind ≡ Initialize → FirstFree d.locks.entries last n) where
    abbrev Acted : ℕ → Type 0
    Acted n = (step d (delivery c bs room)).reply ≡ took acted (16 + (header bs).len) n

    opens_as : permits initialize_forms (header bs) ≡ true → Does r_none → Acted (issued session_limit 0 d.locks.entries d.rest.last_issued)
    unfolding finish Acts.acts
    opens_as f e = ap (λ (x : Result). x.reply) e ∙ rw (form_of (λ h. eqb h.kind 0 ≡ true) initialize_forms ((λ h t k l. eq-eqb _ _ t), tt) (header bs) f)

    joins_as : permits async_initialize_forms (header bs) ≡ true → Does r_none → Acted (header bs).param
    unfolding finish Acts.acts
    joins_as f e = ap (λ (x : Result). x.reply) e ∙ rw (form_of (λ h. eqb h.kind 0 ≡ false) async_initialize_forms ((λ h t k l. rw t), tt) (header bs) f)

    acts : (n : ℕ) → refusal d (delivery c bs room) ≡ 0 → Permitted d last c bs n → Acted n
    unfolding finish Acts.acts
    acts n z (Permitted.established fs w (Permitted.commands s q a m) f l) =
        ap (λ (x : Result). x.reply) (whole_does z w r_synchronous (role_sync d c s)
        (command_passes d (slot_of d c) p q a (header bs) m f (λ t. (admits_is d.rest.allowed p).1 (l t))))
    acts n z (Permitted.established fs w (Permitted.clear_complete s q) f l) =
        ap (λ (x : Result). x.reply) (whole_does z w r_synchronous (role_sync d c s) (clear_passes d (slot_of d c) p q (header bs) f))
    acts n z (Permitted.established fs w (Permitted.on_asynchronous s) f l) = ap (λ (x : Result). x.reply) (whole_does z w r_asynchronous (role_async d c s) (async_passes p (header bs) f))
    acts n z (Permitted.initialize m w o f s l x) =
        let free : all live d.locks.entries ≡ false = isn't _ (λ a. omega (arith, all_count live d.locks.entries a, firm.slots)) in
        let r = opens_as f (whole_does z w r_none (role_none d c o) (initialize_passes d p s free (header bs) f)) in
        let t : (header bs).kind ≡ Initialize = form_of (λ h. h.kind ≡ 0) initialize_forms ((λ h t k l. t), tt) (header bs) f in
        r ∙ ap (took acted (16 + (header bs).len)) (first_one d.locks.entries last _ m (ids _ _ r t) x)
    acts n z (Permitted.async_initialize j w o f h e) =
        let s = half_slot d.locks.entries firm (header bs).param j h e in
        joins_as f (whole_does z w r_none (role_none d c o) (join_passes d p (header bs) (ap (λ i. half_open (at d.locks.entries i)) s ∙ h) f))

    -- what acted was permitted
    abbrev Was : ℕ → ℕ → Type 0
    Was k n = (k ≡ 16 + (header bs).len) × Permitted d last c bs n

    same_reply : (k n m : ℕ) → took acted (16 + (header bs).len) m ≡ took acted k n → Permitted d last c bs m → Was k n
    same_reply k n m e q = let e1 : k ≡ 16 + (header bs).len = cc in let e2 : m ≡ n = cc in (e1, subst (Permitted d last c bs) e2 q)

    by_role : (r : Role) (k n : ℕ) → WholeMessage (connection_at d.rest c).remainder bs → role_of d.locks.entries c ≡ r → judged r d (slot_of d c) (header bs) p ≡ v_acts
        → (Acts.acts r d (slot_of d c) c (header bs) p).reply ≡ took acted k n → (step d (delivery c bs room)).reply ≡ took acted k n → Was k n
    unfolding Acts.acts
    by_role r_none k n w er q e f = go (opening_permitted d p (header bs) q)
      where
        o : WithoutRole d c
        o = record { no_session = no_role d.locks.entries c er }

        go : Opens d p (header bs) ⊎ Joins d p (header bs) → Was k n
        go (inl x) =
            let e' : took acted (16 + (header bs).len) (issued session_limit 0 d.locks.entries d.rest.last_issued) ≡ took acted k n = rw x.0 at e in
            let e1 : k ≡ 16 + (header bs).len = cc in
            (e1, Permitted.initialize n w o x.1 x.2 (omega (arith, fewer_count live d.locks.entries x.3, firm.slots)) (ids k n f x.0))
        go (inr x) =
            let e' : took acted (16 + (header bs).len) (header bs).param ≡ took acted k n = rw x.0 at e in
            let j = slot_of_number d.locks.entries (header bs).param in
            same_reply k n _ e' (Permitted.async_initialize j w o x.1 x.2 (live_found d.locks.entries (header bs).param (and_l (live (at d.locks.entries j)) _ x.2)))
    by_role r_half_open k n w er q e f = absurd (let z : ◌≡◌ {A = ℕ} 0 1 = cc in omega arith)
    by_role r_synchronous k n w er q e f = same_reply k n _ e (go (sync_permitted d (slot_of d c) p (header bs) q))
      where
        go : Synchronous d (slot_of d c) p (header bs) → Permitted d last c bs (entry_of d c).number
        go (inl x) = Permitted.established _ w (Permitted.commands (sync_role d c er) x.0 x.1 x.2) x.3 (λ t. (admits_is d.rest.allowed p).0 (x.4 t))
        go (inr x) = Permitted.established _ w (Permitted.clear_complete (sync_role d c er) x.0) x.1 (λ t. absurd (no_clear (header bs) x.1 t))
    by_role r_asynchronous k n w er q e f = same_reply k n _ e
        (Permitted.established _ w (Permitted.on_asynchronous (async_role d c er)) (async_permitted p (header bs) q)
        (λ t. absurd (no_async (header bs) (async_permitted p (header bs) q) t)))

    pub acts_exactly : ActsExactly d last c bs room
    unfolding finish
    acts_exactly =
        record {
          acts = acts;
          only = λ k n e. let s = shows k n e in by_role (role_of d.locks.entries c) k n s.message refl s.passes (ap (λ (x : Result). x.reply) (sym s.does) ∙ e) e;
        }

pub permitted_acts : (v : Making) (es : List Event) → PermittedActs v es
permitted_acts v es =
    record {
      acts_next = λ c bs room. acts_exactly (final (fresh v) es) c bs room (inv_run v es).sound.firm (last_in_log (log (fresh v) es) 0)
          (λ k n e t. ((session_ids v es).issues c bs room k n e t).first_free);
    }

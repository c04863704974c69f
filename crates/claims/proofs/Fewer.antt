-- H, proved: the granting rule and access never turn against S when others hold less, and the checks of a delivery to S see no more of
-- the locks of others than these two.
use mathlib.Core.Path.{◌≡◌, refl, sym, ap, ap₂, subst, ◌∙◌}
use mathlib.Core.Bool.{Bool, true, false, not, ◌&&◌, ◌||◌, cond, false≢true, true≢false}
use mathlib.Core.List.{List, [], ◌∷◌, ◌++◌, map, append-nil}
use mathlib.Core.Logic.{◌⊎◌, inl, inr, ⊎_elim}
use Prim.Native.Nat.{ℕ, zero, suc, ◌+◌}
use native.Mathlib.Omega.{arith}
use lib.Dec.{eqb}
use lib.ListN.{set, drop}
use Rattle.wire.specs.declared.Header.{Header}
use Rattle.wire.specs.Message.{header}
use Rattle.wire.specs.Class.{one_of, class_of, synchronous}
use Rattle.model.specs.Sizes.{no_connection}
use Rattle.model.specs.MessageTypes.{AsyncLock, commands}
use Rattle.model.specs.Lists.{all, any}
use Rattle.model.specs.State.{Locks, Entry, Waiting, at, live, blank, Server, Rest, connection_at, exchange_at, fresh_exchange, with_connections, with_exchange, with_sensing, fresh_sensing}
use Rattle.model.specs.Interface.{Event, Event.delivery, Outcome.held, Outcome.closed, Outcome.acted, Reply.took}
use Rattle.model.specs.Scan.{Scan, scan}
use Rattle.model.specs.Place.{is_on_connection, slot_of, entry_of, Role, Role.r_none, Role.r_half_open, Role.r_synchronous, Role.r_asynchronous, role_in, role_of}
use Rattle.model.specs.Locks
use Rattle.model.specs.Locks.{no_exclusive, no_shared, may_grant, access, holds, elsewhere, change, no_place}
use Rattle.model.specs.Checks
use Rattle.model.specs.Checks.{Verdict, Verdict.v_more, Verdict.v_skipped, Verdict.v_held, Verdict.v_ignored, Verdict.v_closed, Verdict.v_acts}
use Rattle.model.specs.Checks.{Verdict.v_error, Verdict.v_fatal, first, verdict, judged, either, is_vendor, is_unrecognised}
use Rattle.model.specs.Acts
use Rattle.model.specs.Refusals.{refusal, causes}
use Rattle.model.specs.Step.{Result, shut_all, closing, effect, received, plan, answered, finish, step, lock_frame}
use Rattle.model.specs.Granting.{MayShared}
use Rattle.model.specs.Fewer.{Fewer, NoWorse, FewerLocks, answers1, NoWorseCall, FewerNeverHurts}
use Rattle.model.specs.Access.{WholeMessage, Command, access_of}
use Rattle.model.proofs.Basics.{and_l, and_r, both, not_of, or_of, or_r, or→, contra, same?, all_at}
use Rattle.claims.proofs.GrantingRule.{nil→, nil←, may_exclusive, exclusive_may, may_shared, shared_may}
use Rattle.claims.proofs.Slots.{all_of, at_own}
use Rattle.model.proofs.Place.{place_sound, place_role, place_same, no_role}
use Rattle.claims.proofs.Fits.{opening_passed, sync_passed}
use Rattle.claims.proofs.Replies.{acting, accepted}
use Rattle.claims.proofs.Access.{accessed, whole_read}

module _ (i : ℕ) (es es' : List Entry) (f : Fewer i es es') where
  less_exclusive : (j : ℕ) → (j ≡ i → ⊥) → (at es j).exclusive ≡ false → (at es' j).exclusive ≡ false
  less_exclusive j n e = contra _ _ (f.exclusive j n) e

  less_shared : (j : ℕ) → (j ≡ i → ⊥) → (at es j).shared ≡ [] → (at es' j).shared ≡ []
  less_shared j n e = ⊎_elim (λ h. h) (λ h. h ∙ e) (f.shared j n)

  may_fewer : (k : List ℕ) → may_grant es i k ≡ true → may_grant es' i k ≡ true
  may_fewer [] h =
      let m = may_exclusive es i h in
      exclusive_may es' i record {
        no_other = λ j n. less_exclusive j n (m.no_other j n);
        shared = ⊎_elim (λ a. inl (λ j n. less_shared j n (a j n))) (λ a. inr (λ e. a (sym (ap (λ (x : Entry). x.shared) f.own) ∙ e))) m.shared;
      }
  may_fewer (x ∷ k) h =
      let m = may_shared es i x k h in
      shared_may es' i x k record { no_other = λ j n. less_exclusive j n (m.no_other j n); alike = λ j n. alike m j n (same? j i) }
    where
      other : MayShared es i (x ∷ k) → (j : ℕ) → ((at es' j).shared ≡ [] → ⊥) → ((at es' j).shared ≡ []) ⊎ ((at es' j).shared ≡ (at es j).shared) → (at es' j).shared ≡ x ∷ k
      other m j n (inl e) = absurd (n e)
      other m j n (inr e) = e ∙ m.alike j (λ z. n (e ∙ z))

      alike : MayShared es i (x ∷ k) → (j : ℕ) → ((at es' j).shared ≡ [] → ⊥) → (j ≡ i) ⊎ (j ≡ i → ⊥) → (at es' j).shared ≡ x ∷ k
      alike m j n (inl e) =
          let o : (at es' j).shared ≡ (at es j).shared = ap (λ z. (at es' z).shared) e ∙ ap (λ (x : Entry). x.shared) f.own ∙ ap (λ z. (at es z).shared) (sym e) in
          o ∙ m.alike j (λ z. n (o ∙ z))
      alike m j n (inr d) = other m j n (f.shared j d)

  none_exclusive : all no_exclusive es ≡ true → all no_exclusive es' ≡ true
  none_exclusive a = all_of no_exclusive es' (λ j. go j (same? j i))
    where
      go : (j : ℕ) → (j ≡ i) ⊎ (j ≡ i → ⊥) → no_exclusive (at es' j) ≡ true
      go j (inl e) = ap (λ z. no_exclusive (at es' z)) e ∙ ap no_exclusive f.own ∙ all_at no_exclusive es i refl a
      go j (inr n) = ap not (less_exclusive j n (not_of _ (all_at no_exclusive es j refl a)))

  none_shared : all no_shared es ≡ true → all no_shared es' ≡ true
  none_shared a = all_of no_shared es' (λ j. go j (same? j i))
    where
      go : (j : ℕ) → (j ≡ i) ⊎ (j ≡ i → ⊥) → no_shared (at es' j) ≡ true
      go j (inl e) = ap (λ z. no_shared (at es' z)) e ∙ ap no_shared f.own ∙ all_at no_shared es i refl a
      go j (inr n) = nil← _ (less_shared j n (nil→ _ (all_at no_shared es j refl a)))

  access_fewer : access es i ≡ true → access es' i ≡ true
  unfolding access
  access_fewer h = rw f.own (go (or→ (at es i).exclusive _ h))
    where
      more : (all no_exclusive es ≡ true) → (not (no_shared (at es i)) ≡ true) ⊎ (all no_shared es ≡ true) → (all no_exclusive es' && (not (no_shared (at es i)) || all no_shared es')) ≡ true
      more a (inl s) = both _ _ (none_exclusive a) (or_of _ _ s)
      more a (inr s) = both _ _ (none_exclusive a) (or_r (not (no_shared (at es i))) _ (none_shared s))

      go : ((at es i).exclusive ≡ true) ⊎ ((all no_exclusive es && (not (no_shared (at es i)) || all no_shared es)) ≡ true) →
          ((at es i).exclusive || (all no_exclusive es' && (not (no_shared (at es i)) || all no_shared es'))) ≡ true
      go (inl e) = or_of _ _ e
      go (inr e) = or_r (at es i).exclusive _ (more (and_l (all no_exclusive es) _ e) (or→ (not (no_shared (at es i))) _ (and_r (all no_exclusive es) _ e)))

  pub no_worse_lem : NoWorse i es es'
  no_worse_lem = record { granted = may_fewer; has_access = access_fewer }

-- a request answered 1: the same tests come out alike
module _ (l l' : Locks) (i t : ℕ) (k : List ℕ) (f : Fewer i l.entries l'.entries) (ws : l'.waiting ≡ l.waiting) (now : l'.clock ≡ l.clock) where
  abbrev Same : Locks.Ruling → Locks.Ruling → Type 0
  Same a b = ((Locks.respond b l' i t k).answers ≡ (Locks.respond a l i t k).answers) × (at (Locks.respond b l' i t k).locks.entries i ≡ at (Locks.respond a l i t k).locks.entries i)

  asked_same : (h a s m z m' : Bool) → (m ≡ true → m' ≡ true) → any answers1 (map lock_frame (Locks.respond (Locks.ruling h a s m z) l i t k).answers) ≡ true
      → Same (Locks.ruling h a s m z) (Locks.ruling h a s m' z)
  asked_same true a s m z m' e g = absurd (false≢true g)
  asked_same false false s m z m' e g = absurd (false≢true g)
  asked_same false true true m z m' e g = absurd (false≢true g)
  asked_same false true false true z true e g = (
    ap (λ (x : Entry). record { to = x.asynchronous; code = 1; request = true } ∷ []) f.own,
    ap₂ (λ (t : ℕ) (x : Entry). at (set l'.entries i (Locks.give_at t k x)) i) now f.own ∙ at_own l.entries l'.entries i (Locks.give_at l.clock k (at l.entries i)) f.slots,
  )
  asked_same false true false true z false e g = absurd (false≢true (e refl))
  asked_same false true false false true m' e g = absurd (false≢true g)
  asked_same false true false false false m' e g = absurd (false≢true g)

  ask_same : any answers1 (map lock_frame (change l (Locks.request i t k)).answers) ≡ true
      → ((change l' (Locks.request i t k)).answers ≡ (change l (Locks.request i t k)).answers)
      × (at (change l' (Locks.request i t k)).locks.entries i ≡ at (change l (Locks.request i t k)).locks.entries i)
  unfolding change
  ask_same g =
      let h = holds k (at l.entries i) in
      let a = all (elsewhere i) l.waiting in
      let s = Locks.invalid_by k (at l.entries i) in
      let m = may_grant l.entries i k in
      let m' = may_grant l'.entries i k in
      let z = eqb t 0 || no_place l.waiting in
      subst
      (λ (b : Locks.Ruling). Same (Locks.ruling h a s m z) b)
      (sym (ap₂ (λ (x : Entry) (v : List Waiting). Locks.ruling (holds k x) (all (elsewhere i) v) (Locks.invalid_by k x) m' (eqb t 0 || no_place v)) f.own ws))
      (asked_same h a s m z m' (may_fewer i l.entries l'.entries f k) g)

-- a request that acts, on any server: a whole AsyncLock with code 1 on the asynchronous connection, which the checks let pass
pub record Request (d : Server) (c : ℕ) (bs : List ℕ) (room : ℕ) : Type 0 where
  pub head : Header
  pub string : List ℕ
  pub shows : scan (connection_at d.rest c).remainder bs ≡ Scan.whole head string
  pub reads : header bs ≡ head
  pub role : role_of d.locks.entries c ≡ r_asynchronous
  pub passes : first (Checks.asynchronous_rules head string) ≡ v_acts
  pub accepted : refusal d (delivery c bs room) ≡ 0

-- what it does
abbrev pub asking : Server → ℕ → Header → List ℕ → Acts.Plan
asking d i h p = record { reply = took acted (16 + h.len) (at d.locks.entries i).number; rest = d.rest; first = []; said = []; event = Locks.request i h.param p }

module _ (d : Server) (c : ℕ) (bs : List ℕ) (room : ℕ) where
  pub request_step : (r : Request d c bs room) → (header bs).kind ≡ AsyncLock → (header bs).code ≡ 1 → step d (delivery c bs room) ≡ finish d (asking d (slot_of d c) r.head r.string)
  unfolding step answered plan received verdict effect Acts.acts Acts.asynchronous_rest Acts.asynchronous_said Acts.asynchronous_event
  request_step r t k =
      let h = r.head in
      let s = Scan.whole h r.string in
      let i = slot_of d c in
      let t4 : h.kind ≡ AsyncLock = ap (λ (x : Header). x.kind) (sym r.reads) ∙ t in
      let k1 : h.code ≡ 1 = ap (λ (x : Header). x.code) (sym r.reads) ∙ k in
      ap (λ n. answered n d (delivery c bs room)) r.accepted
      ∙ ap (λ x. finish d (received d c x)) r.shows
      ∙ ap (λ x. finish d (effect (verdict x d i s) s x d i c)) r.role
      ∙ ap (λ v. finish d (effect v s r_asynchronous d i c)) r.passes
      ∙ rw (t4, k1)

  act_request : (r : Role) (h : Header) (p : List ℕ) → scan (connection_at d.rest c).remainder bs ≡ Scan.whole h p → role_of d.locks.entries c ≡ r → judged r d (slot_of d c) h p ≡ v_acts
      → refusal d (delivery c bs room) ≡ 0 → (header bs).kind ≡ AsyncLock → Request d c bs room
  unfolding class_of
  act_request r_none h p es er q z t =
      let t4 : h.kind ≡ AsyncLock = ap (λ (x : Header). x.kind) (sym (whole_read _ bs h p es).1) ∙ t in
      absurd (true≢false (ap (λ n. not (either 0 17 n)) (sym t4) ∙ (opening_passed d h p q).0))
  act_request r_half_open h p es er q z t = absurd (let y : ◌≡◌ {A = ℕ} 0 1 = cc in omega arith)
  act_request r_synchronous h p es er q z t =
      let t4 : h.kind ≡ AsyncLock = ap (λ (x : Header). x.kind) (sym (whole_read _ bs h p es).1) ∙ t in
      absurd (true≢false (ap (λ n. is_unrecognised (class_of synchronous n)) (sym t4) ∙ (sync_passed d (slot_of d c) h p q).1.1.1.1.0))
  act_request r_asynchronous h p es er q z t = record { head = h; string = p; shows = es; reads = (whole_read _ bs h p es).1; role = er; passes = q; accepted = z }

  pub step_request : (k n : ℕ) → (step d (delivery c bs room)).reply ≡ took acted k n → (header bs).kind ≡ AsyncLock → Request d c bs room
  step_request k n e t =
      let a = acting d c bs room k n e in
      act_request (role_of d.locks.entries c) a.head a.payload a.shows refl a.passes a.accepted t

-- two servers that differ only in the locks of others
module _ (d d' : Server) (c : ℕ) (f : FewerLocks (slot_of d c) d d') (bs : List ℕ) (room : ℕ) where
  conn_same : (j : ℕ) → is_on_connection c (at d'.locks.entries j) ≡ is_on_connection c (at d.locks.entries j)
  conn_same j = rw (f.numbers j, f.synchronous j, f.asynchronous j)

  slot_same : slot_of d' c ≡ slot_of d c
  slot_same = place_same d.locks.entries d'.locks.entries c f.fewer.slots conn_same

  entry_same : entry_of d' c ≡ entry_of d c
  entry_same = ap (at d'.locks.entries) slot_same ∙ f.fewer.own

  role_same : role_of d'.locks.entries c ≡ role_of d.locks.entries c
  role_same = place_role d'.locks.entries c ∙ ap (role_in c) entry_same ∙ sym (place_role d.locks.entries c)

  refusal_same : refusal d' (delivery c bs room) ≡ refusal d (delivery c bs room)
  unfolding refusal causes
  refusal_same = ap (λ (r : Rest). refusal (record { locks = d'.locks; rest = r }) (delivery c bs room)) f.rest

  scan_same : scan (connection_at d'.rest c).remainder bs ≡ scan (connection_at d.rest c).remainder bs
  scan_same = ap (λ (r : Rest). scan (connection_at r c).remainder bs) f.rest

  request_same : Request d c bs room → Request d' c bs room
  request_same r =
      record {
        head = r.head;
        string = r.string;
        shows = scan_same ∙ r.shows;
        reads = r.reads;
        role = role_same ∙ r.role;
        passes = r.passes;
        accepted = refusal_same ∙ r.accepted;
      }

  granted_same : (k n : ℕ) → (step d (delivery c bs room)).reply ≡ took acted k n → (header bs).kind ≡ AsyncLock → (header bs).code ≡ 1
      → any answers1 (step d (delivery c bs room)).frames ≡ true
      → ((step d' (delivery c bs room)).reply ≡ took acted k n)
      × ((step d' (delivery c bs room)).frames ≡ (step d (delivery c bs room)).frames)
      × (at (step d' (delivery c bs room)).server.locks.entries (slot_of d c) ≡ at (step d (delivery c bs room)).server.locks.entries (slot_of d c))
  unfolding finish request_same
  granted_same k n e t o g =
      let r = step_request d c bs room k n e t in
      let h = r.head in
      let p = r.string in
      let i = slot_of d c in
      let one = request_step d c bs room r t o in
      let two : step d' (delivery c bs room) ≡ finish d' (asking d' i h p) = request_step d' c bs room (request_same r) t o ∙ ap (λ j. finish d' (asking d' j h p)) slot_same in
      let a = ask_same d.locks d'.locks i h.param p f.fewer f.waiting f.clock
      (ap (any answers1) (sym (append-nil (map lock_frame (change d.locks (Locks.request i h.param p)).answers)))
      ∙ ap (λ (x : Result). any answers1 x.frames) (sym one) ∙ g) in (
        ap (λ (x : Result). x.reply) two ∙ ap (λ (x : Entry). took acted (16 + h.len) x.number) f.fewer.own ∙ ap (λ (x : Result). x.reply) (sym one) ∙ e,
        ap (λ (x : Result). x.frames) two ∙ ap (λ xs. map lock_frame xs ++ []) a.0 ∙ ap (λ (x : Result). x.frames) (sym one),
        ap (λ (x : Result). at x.server.locks.entries i) two ∙ a.1 ∙ ap (λ (x : Result). at x.server.locks.entries i) (sym one),
      )

  held_same : (k n : ℕ) → (step d' (delivery c bs room)).reply ≡ took held k n → (step d (delivery c bs room)).reply ≡ took held 0 0
  held_same k n e =
      let h = (accessed d' c bs room).held_only k n e in
      let m = h.0 in
      let before : Command d c bs =
      record {
        on_synchronous = record {
          alive = ap live (sym entry_same) ∙ m.on_synchronous.alive;
          established = λ z. m.on_synchronous.established (ap (λ (x : Entry). x.asynchronous) entry_same ∙ z);
          synchronous_one = ap (λ (x : Entry). x.synchronous) (sym entry_same) ∙ m.on_synchronous.synchronous_one;
        };
        not_in_clear = ap₂ (λ (r : Rest) (i : ℕ). (exchange_at r i).in_clear) (sym f.rest) (sym slot_same) ∙ m.not_in_clear;
        message = subst (λ (r : Rest). WholeMessage (connection_at r c).remainder bs) f.rest m.message;
        of_type_lem = m.of_type_lem;
      }
      in
      let lacks : access_of d c ≡ false = contra _ _ (access_fewer (slot_of d c) d.locks.entries d'.locks.entries f.fewer) (ap (access d'.locks.entries) (sym slot_same) ∙ h.1) in
      ap (λ (x : Result). x.reply) ((accessed d c bs room).held_without (sym refusal_same ∙ accepted d' (delivery c bs room) held k n e) before lacks)

-- what is not held is judged alike: only check 9 looks at the locks
judged_alike : (x₁ x₂ x₃ x₄ x₅ x₆ m a a' : Bool) (v₁ v₂ v₃ v₄ v₅ v₆ rest : Verdict) → (a ≡ true → a' ≡ true)
    → (cond x₁ v₁ (cond x₂ v₂ (cond x₃ v₃ (cond x₄ v₄ (cond x₅ v₅ (cond x₆ v₆ (cond (m && not a) v_held rest)))))) ≡ v_held → ⊥)
    → cond x₁ v₁ (cond x₂ v₂ (cond x₃ v₃ (cond x₄ v₄ (cond x₅ v₅ (cond x₆ v₆ (cond (m && not a') v_held rest))))))
    ≡ cond x₁ v₁ (cond x₂ v₂ (cond x₃ v₃ (cond x₄ v₄ (cond x₅ v₅ (cond x₆ v₆ (cond (m && not a) v_held rest))))))
judged_alike true x₂ x₃ x₄ x₅ x₆ m a a' v₁ v₂ v₃ v₄ v₅ v₆ rest f n = refl
judged_alike false true x₃ x₄ x₅ x₆ m a a' v₁ v₂ v₃ v₄ v₅ v₆ rest f n = refl
judged_alike false false true x₄ x₅ x₆ m a a' v₁ v₂ v₃ v₄ v₅ v₆ rest f n = refl
judged_alike false false false true x₅ x₆ m a a' v₁ v₂ v₃ v₄ v₅ v₆ rest f n = refl
judged_alike false false false false true x₆ m a a' v₁ v₂ v₃ v₄ v₅ v₆ rest f n = refl
judged_alike false false false false false true m a a' v₁ v₂ v₃ v₄ v₅ v₆ rest f n = refl
judged_alike false false false false false false false a a' v₁ v₂ v₃ v₄ v₅ v₆ rest f n = refl
judged_alike false false false false false false true true true v₁ v₂ v₃ v₄ v₅ v₆ rest f n = refl
judged_alike false false false false false false true true false v₁ v₂ v₃ v₄ v₅ v₆ rest f n = absurd (false≢true (f refl))
judged_alike false false false false false false true false a' v₁ v₂ v₃ v₄ v₅ v₆ rest f n = absurd (n refl)

-- two servers with one rest
module _ (d : Server) (l' : Locks) (c : ℕ) (f : FewerLocks (slot_of d c) d record { locks = l'; rest = d.rest }) (bs : List ℕ) (room : ℕ) (alive : live (entry_of d c) ≡ true) where
  abbrev d₁ : Server
  d₁ = record { locks = l'; rest = d.rest }

  abbrev i₀ : ℕ
  i₀ = slot_of d c

  abbrev x₀ : Event
  x₀ = delivery c bs room

  slot₁ : slot_of d₁ c ≡ i₀
  slot₁ = slot_same d d₁ c f bs room

  entry₁ : entry_of d₁ c ≡ entry_of d c
  entry₁ = entry_same d d₁ c f bs room

  judged₁ : (r : Role) (h : Header) (p : List ℕ) → (r ≡ r_none → ⊥) → (judged r d i₀ h p ≡ v_held → ⊥) → judged r d₁ i₀ h p ≡ judged r d i₀ h p
  judged₁ r_none h p e n = absurd (e refl)
  judged₁ r_half_open h p e n = refl
  judged₁ r_synchronous h p e n =
      judged_alike
      (eqb h.kind 2)
      (eqb h.kind 3)
      ((exchange_at d.rest i₀).in_clear && not (eqb h.kind 8))
      (is_vendor (class_of synchronous h.kind))
      (is_unrecognised (class_of synchronous h.kind))
      (eqb h.kind 0)
      (one_of commands h.kind)
      (access d.locks.entries i₀)
      (access l'.entries i₀)
      v_closed
      v_ignored
      v_ignored
      (v_error 3)
      (v_error 1)
      (v_fatal 3)
      (first (drop 7 (Checks.synchronous_rules d i₀ h p)))
      (access_fewer i₀ d.locks.entries l'.entries f.fewer)
      n
  judged₁ r_asynchronous h p e n = refl

  verdict₁ : (r : Role) (s : Scan) → (r ≡ r_none → ⊥) → (verdict r d i₀ s ≡ v_held → ⊥) → verdict r d₁ i₀ s ≡ verdict r d i₀ s
  unfolding verdict
  verdict₁ r Scan.empty e n = refl
  verdict₁ r Scan.few e n = refl
  verdict₁ r Scan.wrong e n = refl
  verdict₁ r (Scan.skipping k) e n = refl
  verdict₁ r (Scan.long h) e n = refl
  verdict₁ r (Scan.part h) e n = refl
  verdict₁ r (Scan.whole h p) e n = judged₁ r h p e n

  abbrev Alike : Acts.Plan → Acts.Plan → Type 0
  Alike a b = (a.reply ≡ b.reply) × (a.rest ≡ b.rest)

  closing₁ : closing d₁ c ≡ closing d c
  closing₁ =
      ap₂ (λ (e : Entry) (i : ℕ). with_sensing
      (with_exchange (with_connections d.rest (shut_all d.rest.connections
      (cond (live e) (e.synchronous ∷ cond (eqb e.asynchronous no_connection) [] (e.asynchronous ∷ [])) (c ∷ [])))) i fresh_exchange) i fresh_sensing)
      entry₁ slot₁

  acts₁ : (r : Role) (h : Header) (p : List ℕ) → (r ≡ r_none → ⊥) → Alike (Acts.acts r d₁ i₀ c h p) (Acts.acts r d i₀ c h p)
  unfolding Acts.acts
  acts₁ r_none h p e = absurd (e refl)
  acts₁ r_half_open h p e = (refl, refl)
  acts₁ r_synchronous h p e = (ap (λ (x : Entry). took acted (16 + h.len) x.number) f.fewer.own, refl)
  acts₁ r_asynchronous h p e = (ap (λ (x : Entry). took acted (16 + h.len) x.number) f.fewer.own, refl)

  effect₁ : (v : Verdict) (s : Scan) (r : Role) → (r ≡ r_none → ⊥) → Alike (effect v s r d₁ i₀ c) (effect v s r d i₀ c)
  unfolding effect
  effect₁ v_more s r e = (refl, refl)
  effect₁ v_held s r e = (refl, refl)
  effect₁ v_skipped s r e = (refl, refl)
  effect₁ v_ignored s r e = (refl, refl)
  effect₁ (v_error x) s r e = (refl, refl)
  effect₁ (v_fatal x) s r e = (ap (λ (y : Entry). took closed 0 y.number) f.fewer.own, closing₁)
  effect₁ v_closed s r e = (ap (λ (y : Entry). took closed 0 y.number) f.fewer.own, closing₁)
  effect₁ v_acts Scan.empty r e = (refl, refl)
  effect₁ v_acts Scan.few r e = (refl, refl)
  effect₁ v_acts Scan.wrong r e = (refl, refl)
  effect₁ v_acts (Scan.skipping k) r e = (refl, refl)
  effect₁ v_acts (Scan.long h) r e = (refl, refl)
  effect₁ v_acts (Scan.part h) r e = (refl, refl)
  effect₁ v_acts (Scan.whole h p) r e = acts₁ r h p e

  has_role : role_of d.locks.entries c ≡ r_none → ⊥
  has_role e = no_role d.locks.entries c e i₀ (on (place_sound d.locks.entries c))
    where
      on : (is_on_connection c (entry_of d c) ≡ true) ⊎ (entry_of d c ≡ blank) → is_on_connection c (entry_of d c) ≡ true
      on (inl h) = h
      on (inr h) = absurd (true≢false (sym alive ∙ ap live h))

  abbrev s₀ : Scan
  s₀ = scan (connection_at d.rest c).remainder bs

  abbrev r₀ : Role
  r₀ = role_of d.locks.entries c

  planned : (verdict r₀ d i₀ s₀ ≡ v_held → ⊥) → Alike (plan d₁ x₀) (plan d x₀)
  unfolding plan received
  planned n =
      let same : received d₁ c s₀ ≡ effect (verdict r₀ d₁ i₀ s₀) s₀ r₀ d₁ i₀ c = ap₂ (λ (r : Role) (i : ℕ). effect (verdict r d₁ i s₀) s₀ r d₁ i c) (role_same d d₁ c f bs room) slot₁ in
      let by = ap (λ (v : Verdict). effect v s₀ r₀ d₁ i₀ c) (verdict₁ r₀ s₀ has_role n) in
      let x = effect₁ (verdict r₀ d i₀ s₀) s₀ r₀ has_role in
      (ap (λ (p : Acts.Plan). p.reply) (same ∙ by) ∙ x.0, ap (λ (p : Acts.Plan). p.rest) (same ∙ by) ∙ x.1)

  held_then : verdict r₀ d i₀ s₀ ≡ v_held → refusal d x₀ ≡ 0 → (step d x₀).reply ≡ took held 0 0
  unfolding step answered plan received finish effect
  held_then v z = ap (λ (n : ℕ). (answered n d x₀).reply) z ∙ ap (λ (w : Verdict). (effect w s₀ r₀ d i₀ c).reply) v

  pub taken_alike : ((step d x₀).reply ≡ took held 0 0 → ⊥) → ((step d₁ x₀).reply ≡ (step d x₀).reply) × ((step d₁ x₀).server.rest ≡ (step d x₀).server.rest)
  unfolding step answered finish
  taken_alike n = go (refusal d x₀) refl (refusal_same d d₁ c f bs room)
    where
      go : (z : ℕ) → refusal d x₀ ≡ z → refusal d₁ x₀ ≡ refusal d x₀ → ((step d₁ x₀).reply ≡ (step d x₀).reply) × ((step d₁ x₀).server.rest ≡ (step d x₀).server.rest)
      go zero e g =
          let p = planned (λ v. n (held_then v e)) in (
            ap (λ (k : ℕ). (answered k d₁ x₀).reply) (g ∙ e) ∙ p.0 ∙ sym (ap (λ (k : ℕ). (answered k d x₀).reply) e),
            ap (λ (k : ℕ). (answered k d₁ x₀).server.rest) (g ∙ e) ∙ p.1 ∙ sym (ap (λ (k : ℕ). (answered k d x₀).server.rest) e),
          )
      go (suc z) e g = (
        ap (λ (k : ℕ). (answered k d₁ x₀).reply) (g ∙ e) ∙ sym (ap (λ (k : ℕ). (answered k d x₀).reply) e),
        ap (λ (k : ℕ). (answered k d₁ x₀).server.rest) (g ∙ e) ∙ sym (ap (λ (k : ℕ). (answered k d x₀).server.rest) e),
      )

alike_call : (d d' : Server) (c : ℕ) → FewerLocks (slot_of d c) d d' → (bs : List ℕ) (room : ℕ) → live (entry_of d c) ≡ true → ((step d (delivery c bs room)).reply ≡ took held 0 0 → ⊥)
    → ((step d' (delivery c bs room)).reply ≡ (step d (delivery c bs room)).reply) × ((step d' (delivery c bs room)).server.rest ≡ (step d (delivery c bs room)).server.rest)
alike_call d d' c f bs room alive n =
    subst (λ (y : Server). ((step y (delivery c bs room)).reply ≡ (step d (delivery c bs room)).reply) × ((step y (delivery c bs room)).server.rest ≡ (step d (delivery c bs room)).server.rest))
    (λ j. record { locks = d'.locks; rest = sym f.rest j })
    (taken_alike d d'.locks c record {
      fewer = f.fewer;
      numbers = f.numbers;
      synchronous = f.synchronous;
      asynchronous = f.asynchronous;
      clock = f.clock;
      waiting = f.waiting;
      rest = refl;
    } bs room alive n)

pub no_worse_call : (d d' : Server) (c : ℕ) → FewerLocks (slot_of d c) d d' → (bs : List ℕ) (room : ℕ) → NoWorseCall d d' c bs room
no_worse_call d d' c f bs room = record { granted = granted_same d d' c f bs room; held = held_same d d' c f bs room; alike = alike_call d d' c f bs room }

pub fewer_never_hurts : FewerNeverHurts
fewer_never_hurts = record { rules = no_worse_lem; calls = no_worse_call }

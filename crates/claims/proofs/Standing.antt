-- Q, proved: which events leave a release standing, and that the others are those of the statement.
use mathlib.Core.Path.{◌≡◌, refl, sym, ap, ap₂, subst, ◌∙◌}
use mathlib.Core.Bool.{Bool, true, false, not, ◌&&◌, ◌||◌, cond, false≢true, true≢false}
use mathlib.Core.List.{List, [], ◌∷◌, ◌++◌}
use mathlib.Core.Logic.{◌⊎◌, inl, inr}
use Prim.Native.Nat.{ℕ, zero, suc, ◌+◌}
use native.Mathlib.Omega.{arith}
use lib.Dec.{eqb, ltb}
use lib.ListN.{set, length}
use borrow.Author.Tests.{eqb-true, eq-eqb}
use Rattle.wire.specs.declared.Header.{Header}
use Rattle.wire.specs.Message.{header, message_of}
use Rattle.wire.specs.Class.{one_of}
use Rattle.model.specs.Sizes.{before_first, string_limit}
use Rattle.model.specs.MessageTypes.{AsyncLock, AsyncDeviceClear, commands}
use Rattle.model.specs.Lists.{all, keep}
use Rattle.model.specs.State.{Locks, Entry, Waiting, Kind, Kind.exclusive_lock, Kind.shared_lock, Standing.release_of, at, live, blank, Server, fresh, Making}
use Rattle.model.specs.Interface.{Event, Event.delivery, Outcome.acted, Reply.took}
use Rattle.model.specs.Scan.{Scan}
use Rattle.model.specs.Place.{slot_of, Role.r_asynchronous}
use Rattle.model.specs.Locks
use Rattle.model.specs.Locks.{LockEvent, no_exclusive, no_shared, holds, may_grant, give, give_at, grant, elsewhere, pass_over, after, put, grant_pass, change, settle, frees, no_place, release_code}
use Rattle.model.specs.Checks.{verdict}
use Rattle.model.specs.Acts
use Rattle.model.specs.Refusals.{refusal}
use Rattle.model.specs.Step.{plan, received, effect, answered, finish, step, final}
use Rattle.model.specs.Closing.{Closes}
use Rattle.model.specs.Standing.{held_kind, Stands, frees_first, Answers, Completes, Completes.by_message, Completes.by_clear, Completes.by_closing, StandsOn}
use Rattle.model.specs.Happening.{Heard.silence, Action, Happening.message_acted, happened}
use Rattle.model.specs.LocalityRows.{in_slot, number_row, standing_row}
use Rattle.model.specs.Locality.{at_call}
use Rattle.model.proofs.Basics.{and_l, and_r, or_r, same?, inside, all_at, at_set}
use Rattle.model.proofs.Place.{async_live}
use Rattle.claims.proofs.Invariant.{Inv, Firm, clean, backing, backed_at}
use Rattle.claims.proofs.Events.{Fit}
use Rattle.claims.proofs.Fits.{plan_fit, inv_call, inv_run}
use Rattle.claims.proofs.Fewer.{Request, step_request}
use Rattle.claims.proofs.Causes.{Mild, Acted, acted_reply, acted_sends, plan_cause}
use Rattle.claims.proofs.Simulation.{give_num}
use Rattle.claims.proofs.Looking.{pass_num}
use Rattle.claims.proofs.Locality.{locality}

-- a grant keeps the release that stands
give_standing : (k : List ℕ) (e : Entry) → (give k e).standing ≡ e.standing
give_standing [] e = refl
give_standing (x ∷ k) e = refl

standing_same : (es : List Entry) (i : ℕ) (y : Entry) → y.standing ≡ (at es i).standing → (j : ℕ) → (at (set es i y) j).standing ≡ (at es j).standing
standing_same [] i y e j = refl
standing_same (x ∷ es) zero y e zero = e
standing_same (x ∷ es) zero y e (suc j) = refl
standing_same (x ∷ es) (suc i) y e zero = refl
standing_same (x ∷ es) (suc i) y e (suc j) = standing_same es i y e j

pass_standing : (now : ℕ) (ws : List Waiting) (es : List Entry) (j : ℕ) → (at (pass_over now ws es).entries j).standing ≡ (at es j).standing
unfolding pass_over
pass_standing now [] es j = refl
pass_standing now (w ∷ ws) es j = go (may_grant es w.slot w.string) (λ es. pass_standing now ws es j)
  where
    go : (b : Bool) → ((es : List Entry) → (at (pass_over now ws es).entries j).standing ≡ (at es j).standing) →
        (at (put b w es (pass_over now ws (after now b w es))).entries j).standing ≡ (at es j).standing
    go true ih = ih (grant now es w.slot w.string) ∙ standing_same es w.slot (give_at now w.string (at es w.slot)) (give_standing w.string (at es w.slot)) j
    go false ih = ih es

-- the lock that a release stands for is held, so its session is live
backing_held : (k : Kind) (m : ℕ) (e : Entry) → backing (release_of k m) e ≡ true → held_kind k e ≡ true
backing_held exclusive_lock m e b = b
backing_held shared_lock m e b = b

held_kind_lem : (es : List Entry) (j m : ℕ) (k : Kind) → Firm es → (at es j).standing ≡ release_of k m → held_kind k (at es j) ≡ true
held_kind_lem es j m k f h = backing_held k m (at es j) (ap (λ s. backing s (at es j)) (sym h) ∙ backed_at es j f)

held_live : (k : Kind) (e : Entry) → held_kind k e ≡ true → clean e ≡ true → live e ≡ true
held_live k e h c = go (live e) refl c
  where
    none : (k : Kind) → held_kind k e ≡ true → (no_exclusive e && no_shared e) ≡ true → false ≡ true
    none exclusive_lock h b = sym (ap not h) ∙ and_l (no_exclusive e) _ b
    none shared_lock h b = sym (ap not (and_r (no_exclusive e) _ b)) ∙ h

    go : (b : Bool) → live e ≡ b → (b || (no_exclusive e && no_shared e)) ≡ true → live e ≡ true
    go true q c = q
    go false q c = absurd (false≢true (none k h c))

module _ (l : Locks) (v : Inv l) (j m : ℕ) (k : Kind) (h : (at l.entries j).standing ≡ release_of k m) where
  alive : live (at l.entries j) ≡ true
  alive = held_live k (at l.entries j) (held_kind_lem l.entries j m k v.sound.firm h) (all_at clean l.entries j refl v.sound.firm.clean_all)

  abbrev Kept : List Entry → Type 0
  Kept es = ((at es j).number ≡ (at l.entries j).number) × ((at es j).standing ≡ release_of k m)

  store : (i : ℕ) (y : Entry) → (j ≡ i → (y.number ≡ (at l.entries i).number) × (y.standing ≡ (at l.entries i).standing)) → Kept (set l.entries i y)
  store i y f = go (at_set l.entries i y j)
    where
      go : ((j ≡ i) × (at (set l.entries i y) j ≡ y)) ⊎ (at (set l.entries i y) j ≡ at l.entries j) → Kept (set l.entries i y)
      go (inl q) = (
        ap (λ (x : Entry). x.number) q.1 ∙ (f q.0).0
            ∙ ap (λ z. (at l.entries z).number) (sym q.0),
        ap (λ (x : Entry). x.standing) q.1 ∙ (f q.0).1
            ∙ ap (λ z. (at l.entries z).standing) (sym q.0) ∙ h,
      )
      go (inr q) = (ap (λ (x : Entry). x.number) q, ap (λ (x : Entry). x.standing) q ∙ h)

  stood : (i : ℕ) → j ≡ i → (at l.entries i).standing ≡ release_of k m
  stood i q = ap (λ z. (at l.entries z).standing) (sym q) ∙ h

  -- a request of the session itself is answered 3
  asked_kept : (a : Locks.Ruling) (i t : ℕ) (s : List ℕ) → (j ≡ i → a ≡ Locks.invalid) → Kept (Locks.respond a l i t s).locks.entries
  asked_kept Locks.invalid i t s f = (refl, h)
  asked_kept Locks.granted i t s f = store i (give_at l.clock s (at l.entries i)) (λ q. (give_num s (at l.entries i), give_standing s (at l.entries i)))
  asked_kept Locks.denied i t s f = (refl, h)
  asked_kept Locks.queued i t s f = (refl, h)

  invalid_3 : (a b c d : Bool) → Locks.ruling a b true c d ≡ Locks.invalid
  invalid_3 true b c d = refl
  invalid_3 false false c d = refl
  invalid_3 false true c d = refl

  own_invalid : (i : ℕ) (s : List ℕ) → j ≡ i → Locks.invalid_by s (at l.entries i) ≡ true
  own_invalid i s q = or_r (ltb string_limit (length s)) _ (ap Locks.stands (stood i q))

  -- and so is a release
  freed_kept : (u : Locks.Releasing) (i n : ℕ) → (j ≡ i → u ≡ Locks.r_invalid) → Kept (Locks.released u l i n).locks.entries
  freed_kept Locks.r_invalid i n f = (refl, h)
  freed_kept (Locks.r_now x) i n f = store i _ (λ q. absurd (let z : ◌≡◌ {A = ℕ} 0 1 = now_not (f q) in omega arith))
    where
      now_not : Locks.r_now x ≡ Locks.r_invalid → ◌≡◌ {A = ℕ} 0 1
      now_not q = cc
  freed_kept (Locks.r_stands x) i n f = store i _ (λ q. absurd (let z : ◌≡◌ {A = ℕ} 0 1 = stands_not (f q) in omega arith))
    where
      stands_not : Locks.r_stands x ≡ Locks.r_invalid → ◌≡◌ {A = ℕ} 0 1
      stands_not q = cc

  own_releasing : (i n : ℕ) → j ≡ i → Locks.releasing_of (at l.entries i) n ≡ Locks.r_invalid
  own_releasing i n q = ap (λ s. Locks.releasing (Locks.stands s) (at l.entries i).exclusive (no_shared (at l.entries i)) (eqb (at l.entries i).last n)) (stood i q)

  completed_kept : (u : Locks.Due) (ws : List Waiting) (i n : ℕ) → (j ≡ i → u ≡ Locks.not_due) → Kept (Locks.completed u (Locks.with_waiting l ws) i n).locks.entries
  completed_kept Locks.not_due ws i n f = store i _ (λ q. (refl, refl))
  completed_kept (Locks.due_now x) ws i n f = store i _ (λ q. absurd (let z : ◌≡◌ {A = ℕ} 0 1 = due_not (f q) in omega arith))
    where
      due_not : Locks.due_now x ≡ Locks.not_due → ◌≡◌ {A = ℕ} 0 1
      due_not q = cc

  own_due : (i n : ℕ) → eqb m n ≡ false → j ≡ i → Locks.due_at n (at l.entries i).standing ≡ Locks.not_due
  own_due i n e q = ap (Locks.due_at n) (stood i q) ∙ ap (λ b. cond b (Locks.due_now k) Locks.not_due) e

  -- the events that leave it standing
  abbrev Leaves : LockEvent → Type 0
  Leaves Locks.nothing = Unit {0}
  Leaves (Locks.enter i n c) = Unit {0}
  Leaves (Locks.join i c) = Unit {0}
  Leaves (Locks.request i t s) = Unit {0}
  Leaves (Locks.release i n) = Unit {0}
  Leaves (Locks.command i n) = (j ≡ i → ⊥) ⊎ (eqb m n ≡ false)
  Leaves (Locks.clear i) = j ≡ i → ⊥
  Leaves (Locks.close i) = j ≡ i → ⊥
  Leaves (Locks.reading t) = Unit {0}

  change_kept : (e : LockEvent) → Fit l.entries e → Leaves e → Kept (change l e).locks.entries
  unfolding change
  change_kept Locks.nothing f n = (refl, h)
  change_kept (Locks.enter i x c) f n = store i (Locks.opened x c) (λ q. absurd (true≢false (sym alive ∙ ap (λ z. live (at l.entries z)) q ∙ f.vacant)))
  change_kept (Locks.join i c) f n = store i (Locks.joined c (at l.entries i)) (λ q. (refl, refl))
  change_kept (Locks.request i t s) f n =
      asked_kept _ i t s
      (λ q. ap (λ b. Locks.ruling (holds s (at l.entries i)) (all (elsewhere i) l.waiting) b (may_grant l.entries i s) (eqb t 0 || no_place l.waiting)) (own_invalid i s q)
      ∙ invalid_3 (holds s (at l.entries i)) (all (elsewhere i) l.waiting) (may_grant l.entries i s) (eqb t 0 || no_place l.waiting))
  change_kept (Locks.release i x) f n = freed_kept (Locks.releasing_of (at l.entries i) x) i x (own_releasing i x)
  change_kept (Locks.command i x) f (inl n) = completed_kept (Locks.due_at x (at l.entries i).standing) l.waiting i x (λ q. absurd (n q))
  change_kept (Locks.command i x) f (inr n) = completed_kept (Locks.due_at x (at l.entries i).standing) l.waiting i x (own_due i x n)
  change_kept (Locks.clear i) f n = completed_kept (Locks.due_any (at l.entries i).standing) (keep (elsewhere i) l.waiting) i before_first (λ q. absurd (n q))
  change_kept (Locks.close i) f n = store i blank (λ q. absurd (n q))
  change_kept (Locks.reading t) f n = (refl, h)

  event_kept : (e : LockEvent) → Fit l.entries e → Leaves e → Kept (settle (frees l e) (change l e).locks).locks.entries
  unfolding grant_pass
  event_kept e f n = go (frees l e)
    where
      go : (b : Bool) → Kept (settle b (change l e).locks).locks.entries
      go false = change_kept e f n
      go true =
          let x = change_kept e f n in
          let w = (change l e).locks in
          (pass_num w.clock w.waiting w.entries j ∙ x.0, pass_standing w.clock w.waiting w.entries j ∙ x.1)

  -- what answers it: with a message of its number, with a clear
  due_answers : (ws : List Waiting) (n i : ℕ) → j ≡ i → (u : Locks.Due) → u ≡ Locks.due_now k →
      (Locks.completed u (Locks.with_waiting l ws) i n).answers ≡ Locks.tell l.entries i (release_code k) false ∷ []
  due_answers ws n i q u e = ap (λ u. (Locks.completed u (Locks.with_waiting l ws) i n).answers) e

module _ (d : Server) (v : Inv d.locks) (j m : ℕ) (k : Kind) (h : (at d.locks.entries j).standing ≡ release_of k m) where
  abbrev Or : Event → LockEvent → Type 0
  Or e x = Leaves d.locks v j m k h x ⊎ Completes d j k m e

  mild_or : (e : Event) (x : LockEvent) → Mild x → Or e x
  mild_or e Locks.nothing a = inl tt
  mild_or e (Locks.enter i n c) a = inl tt
  mild_or e (Locks.join i c) a = inl tt
  mild_or e (Locks.request i t s) a = inl tt
  mild_or e (Locks.release i n) a = absurd a
  mild_or e (Locks.command i n) a = absurd a
  mild_or e (Locks.clear i) a = absurd a
  mild_or e (Locks.close i) a = absurd a
  mild_or e (Locks.reading t) a = inl tt

  release_or : (c : ℕ) (bs : List ℕ) (room : ℕ) (x : Header) → header bs ≡ x → x.kind ≡ AsyncLock → eqb x.code 0 ≡ true →
      Acted d c bs room (LockEvent.release (slot_of d c) x.param) → Or (delivery c bs room) (LockEvent.release (slot_of d c) x.param)
  release_or c bs room x eh t b a = inl tt

  told_to : (i : ℕ) → j ≡ i → (at d.locks.entries i).asynchronous ≡ (at d.locks.entries j).asynchronous
  told_to i q = ap (λ z. (at d.locks.entries z).asynchronous) (sym q)

  command_or : (c : ℕ) (bs : List ℕ) (room : ℕ) (x : Header) → header bs ≡ x → one_of commands x.kind ≡ true →
      Acted d c bs room (LockEvent.command (slot_of d c) x.param) → Or (delivery c bs room) (LockEvent.command (slot_of d c) x.param)
  unfolding change
  command_or c bs room x eh t a = go (same? j (slot_of d c)) (eqb m x.param) refl
    where
      i : ℕ
      i = slot_of d c

      go : (j ≡ slot_of d c) ⊎ (j ≡ slot_of d c → ⊥) → (b : Bool) → eqb m x.param ≡ b → Or (delivery c bs room) (LockEvent.command (slot_of d c) x.param)
      go (inr n) b e = inl (inl n)
      go (inl q) false e = inl (inr e)
      go (inl q) true e =
          let u : Locks.due_at x.param (at d.locks.entries (slot_of d c)).standing ≡ Locks.due_now k =
          ap (Locks.due_at x.param) (stood d.locks v j m k h (slot_of d c) q) ∙ ap (λ b. cond b (Locks.due_now k) Locks.not_due) e in
          inr (by_message c bs room a.taken a.number (sym q) (acted_reply a) (ap (λ (y : Header). one_of commands y.kind) eh ∙ t)
          (ap (λ (y : Header). y.param) eh ∙ sym (eqb-true m x.param e))
          (acted_sends a (release_code k) (at d.locks.entries j).asynchronous [] (Locks.tell d.locks.entries (slot_of d c) (release_code k) false)
          (due_answers d.locks v j m k h d.locks.waiting x.param (slot_of d c) q _ u) (told_to (slot_of d c) q) refl))

  clear_or : (c : ℕ) (bs : List ℕ) (room : ℕ) (x : Header) → header bs ≡ x → eqb x.kind AsyncDeviceClear ≡ true →
      Acted d c bs room (LockEvent.clear (slot_of d c)) → Or (delivery c bs room) (LockEvent.clear (slot_of d c))
  unfolding change
  clear_or c bs room x eh t a = go (same? j (slot_of d c))
    where
      go : (j ≡ slot_of d c) ⊎ (j ≡ slot_of d c → ⊥) → Or (delivery c bs room) (LockEvent.clear (slot_of d c))
      go (inr n) = inl n
      go (inl q) =
          let u : Locks.due_any (at d.locks.entries (slot_of d c)).standing ≡ Locks.due_now k = ap Locks.due_any (stood d.locks v j m k h (slot_of d c) q) in
          let zs = Locks.refuse d.locks.entries (elsewhere (slot_of d c)) d.locks.waiting in
          inr (by_clear c bs room a.taken a.number (sym q) (acted_reply a) (ap (λ (y : Header). y.kind) eh ∙ eqb-true x.kind AsyncDeviceClear t)
          (acted_sends a (release_code k) (at d.locks.entries j).asynchronous zs (Locks.tell d.locks.entries (slot_of d c) (release_code k) false)
          (ap (λ ys. zs ++ ys) (due_answers d.locks v j m k h (keep (elsewhere (slot_of d c)) d.locks.waiting) before_first (slot_of d c) q _ u))
          (told_to (slot_of d c) q) refl))

  closing_or : (e : Event) (c : ℕ) → Closes d e c → Or e (LockEvent.close (slot_of d c))
  closing_or e c x = go (same? j (slot_of d c))
    where
      go : (j ≡ slot_of d c) ⊎ (j ≡ slot_of d c → ⊥) → Or e (LockEvent.close (slot_of d c))
      go (inl q) = inr (by_closing c (sym q) x)
      go (inr n) = inl n

  plan_or : (e : Event) → refusal d e ≡ 0 → Or e (plan d e).event
  plan_or = plan_cause d Or mild_or release_or command_or clear_or closing_or

pub until : (d : Server) → Inv d.locks → (n j : ℕ) (k : Kind) (m : ℕ) (e : Event) → Stands n j k m d → Completes d j k m e ⊎ Stands n j k m (step d e).server
unfolding step answered finish
until d v n j k m e s = go (refusal d e) refl
  where
    kept : {d' : Server} → Inv d'.locks → (at d'.locks.entries j).number ≡ (at d.locks.entries j).number → (at d'.locks.entries j).standing ≡ release_of k m → Stands n j k m d'
    kept {d' = d'} w a b = record { number = a ∙ s.number; release = b; held = held_kind_lem d'.locks.entries j m k w.sound.firm b }

    done : (z : refusal d e ≡ 0) → Leaves d.locks v j m k s.release (plan d e).event ⊎ Completes d j k m e → Completes d j k m e ⊎ Stands n j k m (step d e).server
    done z (inr c) = inl c
    done z (inl x) =
        let r = event_kept d.locks v j m k s.release (plan d e).event (plan_fit d e v z) x in
        let q : (step d e).server.locks.entries ≡ (settle (frees d.locks (plan d e).event) (change d.locks (plan d e).event).locks).locks.entries = ap (λ n. (answered n d e).server.locks.entries) z in
        inr (kept (inv_call d e v) (ap (λ es. (at es j).number) q ∙ r.0) (ap (λ es. (at es j).standing) q ∙ r.1))

    same : (x : ℕ) → refusal d e ≡ suc x → Stands n j k m (step d e).server
    same x z = subst (λ (w : Server). Stands n j k m w) (sym (ap (λ n. (answered n d e).server) z)) s

    go : (x : ℕ) → refusal d e ≡ x → Completes d j k m e ⊎ Stands n j k m (step d e).server
    go zero z = done z (plan_or d v j m k s.release e z)
    go (suc x) z = inr (same x z)

-- an AsyncLock of the session that acts, a request or a release
module _ (d : Server) (c : ℕ) (bs : List ℕ) (room : ℕ) (r : Request d c bs room) (t : (header bs).kind ≡ AsyncLock) where
  lock_step : step d (delivery c bs room) ≡ finish d (record {
    reply = took acted (16 + r.head.len) (at d.locks.entries (slot_of d c)).number;
    rest = d.rest;
    first = [];
    said = [];
    event = Acts.lock_event (eqb r.head.code 0) (slot_of d c) r.head r.string;
  })
  unfolding step answered plan received verdict effect Acts.acts Acts.asynchronous_rest Acts.asynchronous_said Acts.asynchronous_event
  lock_step =
      let h = r.head in
      let s = Scan.whole h r.string in
      let i = slot_of d c in
      let t4 : h.kind ≡ AsyncLock = ap (λ (x : Header). x.kind) (sym r.reads) ∙ t in
      ap (λ n. answered n d (delivery c bs room)) r.accepted
      ∙ ap (λ x. finish d (received d c x)) r.shows
      ∙ ap (λ x. finish d (effect (verdict x d i s) s x d i c)) r.role
      ∙ ap (λ v. finish d (effect v s r_asynchronous d i c)) r.passes
      ∙ rw t4

module _ (d : Server) (v : Inv d.locks) (j m : ℕ) (k : Kind) (h : (at d.locks.entries j).standing ≡ release_of k m) where
  answered_3 : (b : Bool) (i : ℕ) → j ≡ i → (x : Header) (p : List ℕ) → (change d.locks (Acts.lock_event b i x p)).answers ≡ Locks.tell d.locks.entries i 3 (not b) ∷ []
  unfolding change
  answered_3 true i q x p = ap (λ u. (Locks.released u d.locks i x.param).answers) (own_releasing d.locks v j m k h i x.param q)
  answered_3 false i q x p =
      let es = d.locks.entries in
      ap (λ b. (Locks.respond (Locks.ruling (holds p (at es i)) (all (elsewhere i) d.locks.waiting) b (may_grant es i p)
      (eqb x.param 0 || no_place d.locks.waiting)) d.locks i x.param p).answers) (own_invalid d.locks v j m k h i p q)
      ∙ ap (λ u. (Locks.respond u d.locks i x.param p).answers)
      (invalid_3 d.locks v j m k h (holds p (at es i)) (all (elsewhere i) d.locks.waiting) (may_grant es i p)
      (eqb x.param 0 || no_place d.locks.waiting))

  gets_3 : (c : ℕ) (bs : List ℕ) (room a b : ℕ) → slot_of d c ≡ j → (step d (delivery c bs room)).reply ≡ took acted a b → (header bs).kind ≡ AsyncLock → Answers d j 3 (delivery c bs room)
  gets_3 c bs room a b q e t =
      let r = step_request d c bs room a b e t in
      acted_sends {d = d} {c = c} {bs = bs} {room = room} (record { rest = _; first = _; said = _; taken = _; number = _; does = lock_step d c bs room r t }) 3
      (at d.locks.entries j).asynchronous [] (Locks.tell d.locks.entries (slot_of d c) 3 (not (eqb r.head.code 0)))
      (answered_3 (eqb r.head.code 0) (slot_of d c) (sym q) r.head r.string) (ap (λ z. (at d.locks.entries z).asynchronous) q) refl

-- a release that sends nothing stands
pub begins : (d : Server) → Inv d.locks → (j : ℕ) (k : Kind) (m c : ℕ) (bs : List ℕ) (room a b : ℕ) → slot_of d c ≡ j →
    (step d (delivery c bs room)).reply ≡ took acted a b → (header bs).kind ≡ AsyncLock → (header bs).code ≡ 0
    → (step d (delivery c bs room)).frames ≡ [] → (header bs).param ≡ m → frees_first (at d.locks.entries j) ≡ k →
    Stands (at d.locks.entries j).number j k m (step d (delivery c bs room)).server
begins d v j k m c bs room a b q r t o f p w =
    let es = d.locks.entries in
    let e = delivery c bs room in
    let local = (locality d e).local in
    let x : Action = record { connection = c; message = message_of (header bs) bs; session = b; told = silence } in
    let seen : at_call d e ≡ message_acted x = ap₂ (happened e) r f in
    let alive : live (at es j) ≡ true = ap (λ i. live (at es i)) (sym q) ∙ async_live es c (step_request d c bs room a b r t).role in
    let within = inside live es j refl alive in
    let here : eqb j (slot_of d c) ≡ true = eq-eqb j (slot_of d c) (sym q) in
    let stays : (at (step d e).server.locks.entries j).number ≡ (at es j).number =
    local.number j within ∙ ap (λ h. in_slot number_row es j h (at es j).number) seen ∙ rw (t, here) in
    let stood : (at (step d e).server.locks.entries j).standing ≡ release_of k m =
    local.standing j within ∙ ap (λ h. in_slot (standing_row (at es j)) es j h (at es j).standing) seen ∙ rw (t, o, here, w, p) in
    record { number = stays; release = stood; held = held_kind_lem (step d e).server.locks.entries j m k (inv_call d e v).sound.firm stood }

-- after any list from the fresh server
pub stands_on : (v : Making) (es : List Event) (j : ℕ) (k : Kind) (m : ℕ) → StandsOn (final (fresh v) es) j k m
stands_on v es j k m =
    record {
      begins = λ c bs room a b q r t o f p w. begins (final (fresh v) es) (inv_run v es) j k m c bs room a b q r t o f p w;
      held = held_kind_lem (final (fresh v) es).locks.entries j m k (inv_run v es).sound.firm;
      until = λ n e s. until (final (fresh v) es) (inv_run v es) n j k m e s;
      gets_3 = λ n c bs room a b s q r t. gets_3 (final (fresh v) es) (inv_run v es) j m k s.release c bs room a b q r t;
    }

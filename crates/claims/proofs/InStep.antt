-- Numbers in step: what the reader of model/specs/InStep.antt knows, and that a client that counts is never out of step.
use mathlib.Core.Path.{◌≡◌, refl, sym, ap, ap₂, subst, ◌∙◌}
use mathlib.Core.Bool.{Bool, true, false, not, ◌&&◌, cond, true≢false}
use mathlib.Core.List.{List, [], ◌∷◌}
use Prim.Native.Nat.{ℕ, zero, suc, ◌+◌, ◌<◌}
use native.Mathlib.Omega.{arith}
use lib.Dec.{eqb, ltb}
use lib.ListN.{get_or, set, length}
use borrow.Author.Tests.{eq-eqb, ne_eqb, ltb-true}
use Rattle.wire.specs.declared.Header.{Header}
use Rattle.wire.specs.Message.{header, payload_of}
use Rattle.wire.specs.MessageId.{next, nth, nth_first, nth_next}
use Rattle.wire.specs.Class.{one_of, class_of}
use Rattle.model.specs.Sizes.{no_connection}
use Rattle.model.specs.MessageTypes.{Trigger, commands}
use Rattle.model.specs.Lists.{all}
use Rattle.model.specs.State.{Server, Exchange, Connection, exchange_at, connection_at, fresh_exchange, closed_connection, fresh, Making}
use Rattle.model.specs.Interface.{Event, Event.delivery, Outcome.error_sent, Reply, Reply.took}
use Rattle.model.specs.Scan.{Scan, Scan.empty, Scan.few, Scan.wrong, Scan.skipping, Scan.long, Scan.part, Scan.whole, scan}
use Rattle.model.specs.Place.{slot_of, entry_of, Role, Role.r_none, Role.r_half_open, Role.r_synchronous, Role.r_asynchronous, role_of}
use Rattle.model.specs.Allowing.{admits, admits_is}
use Rattle.model.specs.Locks.{access, change}
use Rattle.model.specs.Exchange.{with_number}
use Rattle.model.specs.Checks
use Rattle.model.specs.Checks.{Verdict, Verdict.v_more, Verdict.v_skipped, Verdict.v_held, Verdict.v_ignored, Verdict.v_closed, Verdict.v_acts}
use Rattle.model.specs.Checks.{Verdict.v_error, Verdict.v_fatal, Rule, first, verdict, either}
use Rattle.model.specs.Acts
use Rattle.model.specs.Refusals.{causes, refusal}
use Rattle.model.specs.Step.{Result, counted, effect, finish, step, final, log}
use Rattle.model.specs.Access.{Command, access_of}
use Rattle.model.specs.Happening.{Heard.with_code, heard}
use Rattle.model.specs.InStep.{Numbering, first_numbering, took_one, expected, noted_line, numbering, count_up, error_0, Counts, OnlyPayload, NeverOut, OutOfStep, InStep}
use Rattle.model.proofs.Basics.{and_l, and_r, not_of, not_off}
use Rattle.claims.proofs.Fits.{uncaused, real_delivery}
use Rattle.claims.proofs.ReadOff.{each_of}
use Rattle.claims.proofs.Scanning.{whole_scan}
use Rattle.claims.proofs.Replies.{accepted, erring}
use Rattle.claims.proofs.Access.{accessed, sync_role, role_sync}
use Rattle.claims.proofs.Forms.{◌also◌, typed, command_passes}
use Rattle.claims.proofs.Permitted.{whole_step, whole_does}
use Rattle.claims.proofs.Numbering.{Reads, carries_it, call_reads, fresh_reads, run_reads}
use Rattle.claims.proofs.LocalityLists.{with_remainder, kept_open}

-- the rules of the synchronous channel at a command outside a clear
in_order : (a k : Bool) → cond (not a) v_held (cond k (v_error 2) v_acts) ≡ v_error 0 → ⊥
in_order false k e = let z : ◌≡◌ {A = ℕ} 0 1 = cc in omega arith
in_order true true e = let z : ◌≡◌ {A = ℕ} 2 0 = cc in omega arith
in_order true false e = let z : ◌≡◌ {A = ℕ} 0 1 = cc in omega arith

not_listed : (a k l : Bool) → cond (not a) v_held (cond k (v_error 2) (cond l (v_error 128) v_acts)) ≡ v_error 0 → ⊥
not_listed false k l e = let z : ◌≡◌ {A = ℕ} 0 1 = cc in omega arith
not_listed true true l e = let z : ◌≡◌ {A = ℕ} 2 0 = cc in omega arith
not_listed true false true e = let z : ◌≡◌ {A = ℕ} 128 0 = cc in omega arith
not_listed true false false e = let z : ◌≡◌ {A = ℕ} 0 1 = cc in omega arith

with_payload : (a k l : Bool) → cond (not a) v_held (cond k (v_error 2) (cond l (v_error 0) v_acts)) ≡ v_error 0 → l ≡ true
with_payload false k l e = absurd (let z : ◌≡◌ {A = ℕ} 0 1 = cc in omega arith)
with_payload true true l e = absurd (let z : ◌≡◌ {A = ℕ} 2 0 = cc in omega arith)
with_payload true false true e = refl
with_payload true false false e = absurd (let z : ◌≡◌ {A = ℕ} 0 1 = cc in omega arith)

module _ (d : Server) (i : ℕ) (p : List ℕ) (h : Header) where
  abbrev x₀ : Exchange
  x₀ = exchange_at d.rest i

  abbrev Judged : ℕ → Verdict
  Judged t = first (Checks.synchronous_rules d i (typed t h) p)

  out_of_step : x₀.in_clear ≡ false → access d.locks.entries i ≡ true → eqb h.param x₀.number_expected ≡ false → (t : ℕ) → one_of commands t ≡ true → Judged t ≡ v_error 0
  unfolding class_of
  out_of_step n a m = each_of (λ t. Judged t ≡ v_error 0) commands ((rw (n, a, m)) also (rw (n, a, m)) also (rw (n, a, m)) also tt)

  in_step : x₀.in_clear ≡ false → eqb h.param x₀.number_expected ≡ true → (t : ℕ) → one_of commands t ≡ true → Judged t ≡ v_error 0 → (t ≡ Trigger) × (0 < h.len)
  unfolding class_of
  in_step n m =
      let a = access d.locks.entries i in
      let k = ltb 1 h.code in
      each_of (λ t. Judged t ≡ v_error 0 → (t ≡ Trigger) × (0 < h.len)) commands
      ((λ e. absurd (in_order a k (rw (n, m) at e)))
      also (λ e. absurd (not_listed a k (not (admits d.rest.allowed p)) (rw (n, m) at e)))
      also (λ e. (refl, ltb-true 0 h.len (with_payload a k (ltb 0 h.len) (rw (n, m) at e))))
      also tt)

-- on the asynchronous channel a command is unrecognised
not_there : (p : List ℕ) (h : Header) (t : ℕ) → one_of commands t ≡ true → first (Checks.asynchronous_rules (typed t h) p) ≡ v_error 0 → ⊥
unfolding class_of
not_there p h = each_of (λ t. first (Checks.asynchronous_rules (typed t h) p) ≡ v_error 0 → ⊥) commands
    ((λ e. let z : ◌≡◌ {A = ℕ} 1 0 = cc in omega arith)
    also (λ e. let z : ◌≡◌ {A = ℕ} 1 0 = cc in omega arith)
    also (λ e. let z : ◌≡◌ {A = ℕ} 1 0 = cc in omega arith)
    also tt)

-- without a role nothing is answered Error
is_error : Verdict → Bool
is_error v_held = false
is_error v_more = false
is_error v_skipped = false
is_error v_ignored = false
is_error v_closed = false
is_error v_acts = false
is_error (v_error n) = true
is_error (v_fatal n) = false

none_errs : (rs : List Rule) (x : ℕ) → all (λ r. not (is_error r.then)) rs ≡ true → first rs ≡ v_error x → ⊥
unfolding is_error
none_errs [] x a e = let z : ◌≡◌ {A = ℕ} 0 1 = cc in omega arith
none_errs (r ∷ rs) x a e = go r.test e (λ f. none_errs rs x (and_r (not (is_error r.then)) _ a) f)
  where
    go : (b : Bool) → cond b r.then (first rs) ≡ v_error x → (first rs ≡ v_error x → ⊥) → ⊥
    go true e n = true≢false (sym (ap is_error e) ∙ not_of _ (and_l (not (is_error r.then)) _ a))
    go false e n = n e

-- Error 0 to a command in step
module _ (d : Server) (c : ℕ) (bs : List ℕ) (room : ℕ) (o : one_of commands (header bs).kind ≡ true) where
  abbrev h₀ : Header
  h₀ = header bs

  abbrev Told : Type 0
  Told = (h₀.kind ≡ Trigger) × (0 < h₀.len)

  -- what a session on its synchronous connection must have
  abbrev Fits : Role → Type 0
  Fits r = r ≡ r_synchronous → ((exchange_at d.rest (slot_of d c)).in_clear ≡ false) × (h₀.param ≡ (exchange_at d.rest (slot_of d c)).number_expected)

  told : (r : Role) (s : Scan) → scan (connection_at d.rest c).remainder bs ≡ s → verdict r d (slot_of d c) s ≡ v_error 0 → Fits r → Told
  unfolding verdict is_error
  told r empty es ev f = absurd (let z : ◌≡◌ {A = ℕ} 0 1 = cc in omega arith)
  told r few es ev f = absurd (let z : ◌≡◌ {A = ℕ} 0 1 = cc in omega arith)
  told r wrong es ev f = absurd (let z : ◌≡◌ {A = ℕ} 0 1 = cc in omega arith)
  told r (skipping k) es ev f = absurd (let z : ◌≡◌ {A = ℕ} 0 1 = cc in omega arith)
  told r_none (long h) es ev f = absurd (let z : ◌≡◌ {A = ℕ} 0 1 = cc in omega arith)
  told r_half_open (long h) es ev f = absurd (let z : ◌≡◌ {A = ℕ} 0 1 = cc in omega arith)
  told r_synchronous (long h) es ev f = absurd (let z : ◌≡◌ {A = ℕ} 4 0 = cc in omega arith)
  told r_asynchronous (long h) es ev f = absurd (let z : ◌≡◌ {A = ℕ} 4 0 = cc in omega arith)
  told r_none (part h) es ev f = absurd (go (either 0 17 h.kind) ev)
    where
      go : (b : Bool) → cond b v_more (v_fatal 3) ≡ v_error 0 → ⊥
      go true e = let y : ◌≡◌ {A = ℕ} 0 1 = cc in omega arith
      go false e = let y : ◌≡◌ {A = ℕ} 0 1 = cc in omega arith
  told r_half_open (part h) es ev f = absurd (let z : ◌≡◌ {A = ℕ} 0 1 = cc in omega arith)
  told r_synchronous (part h) es ev f = absurd (let z : ◌≡◌ {A = ℕ} 0 1 = cc in omega arith)
  told r_asynchronous (part h) es ev f = absurd (let z : ◌≡◌ {A = ℕ} 0 1 = cc in omega arith)
  told r_none (whole h p) es ev f = absurd (none_errs (Checks.opening_rules d h p) 0 refl ev)
  told r_half_open (whole h p) es ev f = absurd (let z : ◌≡◌ {A = ℕ} 0 1 = cc in omega arith)
  told r_synchronous (whole h p) es ev f =
      let w = (whole_scan _ bs h p es).0 in
      let g = f refl in
      in_step d (slot_of d c) p h₀ g.0 (eq-eqb _ _ g.1) h₀.kind o (ap (λ (k : Header). first (Checks.synchronous_rules d (slot_of d c) k p)) w ∙ ev)
  told r_asynchronous (whole h p) es ev f =
      let w = (whole_scan _ bs h p es).0 in
      absurd (not_there p h₀ h₀.kind o (ap (λ (k : Header). first (Checks.asynchronous_rules k p)) w ∙ ev))

  pub error_told : (k m : ℕ) → (step d (delivery c bs room)).reply ≡ took error_sent k m → (step d (delivery c bs room)).frames ≡ error_0 c → Fits (role_of d.locks.entries c) → Told
  error_told k m e fs f =
      let x = erring d c bs room k m e in
      let same : with_code x.code ≡ with_code 0 = ap (heard 3) (sym x.sends ∙ fs) in
      let zero : x.code ≡ 0 = cc in
      told (role_of d.locks.entries c) _ refl (x.verdict_is ∙ ap v_error zero) f

-- storing what stands there
pub set_same : {A : Type 0} (xs : List A) (i : ℕ) (z : A) → set xs i (get_or xs i z) ≡ xs
set_same [] i z = refl
set_same (x ∷ xs) zero z = refl
set_same (x ∷ xs) (suc i) z = ap (λ ys. x ∷ ys) (set_same xs i z)

module _ (d : Server) (c : ℕ) (bs : List ℕ) (room : ℕ) where
  abbrev i₀ : ℕ
  i₀ = slot_of d c

  abbrev p₀ : List ℕ
  p₀ = payload_of (header bs) bs

  abbrev x₁ : Exchange
  x₁ = exchange_at d.rest i₀

  abbrev y₁ : Connection
  y₁ = connection_at d.rest c

  pub open_now : refusal d (delivery c bs room) ≡ 0 → y₁.is_open ≡ true
  unfolding refusal causes
  open_now z = not_off _ (uncaused (causes d (delivery c bs room)) refl z).1.1.0

  -- an Error to a message that is taken whole leaves the connections
  pub connections_kept : (n : ℕ) → refusal d (delivery c bs room) ≡ 0 → y₁.remainder ≡ 0 →
      (effect (v_error n) (Scan.whole (header bs) p₀) r_synchronous d i₀ c).rest.connections ≡ d.rest.connections
  unfolding effect
  connections_kept n z e = ap (set d.rest.connections c) (kept_open 0 y₁ (open_now z) ∙ ap (λ (r : ℕ). with_remainder r y₁) (sym e)) ∙ set_same d.rest.connections c closed_connection

  abbrev told_so : Server → Result
  told_so s = record { server = s; reply = took error_sent (16 + (header bs).len) 0; frames = error_0 c }

  abbrev left : List Exchange → List Connection → Result
  left ns ks = told_so record {
    locks = d.locks;
    rest = record {
      exchanges = ns;
      sensings = d.rest.sensings;
      connections = ks;
      last_issued = d.rest.last_issued;
      made = d.rest.made;
      status = d.rest.status;
      remote_local = d.rest.remote_local;
      allowed = d.rest.allowed;
    };
  }

  errs : finish d (effect (v_error 0) (Scan.whole (header bs) p₀) r_synchronous d i₀ c) ≡ left
      (set d.rest.exchanges i₀ (counted r_synchronous (Scan.whole (header bs) p₀) x₁))
      (effect (v_error 0) (Scan.whole (header bs) p₀) r_synchronous d i₀ c).rest.connections
  unfolding finish effect change
  errs = refl

  unmoved : eqb (header bs).param x₁.number_expected ≡ false → (a b : Bool) →
      with_number (cond (not a && (b && eqb (header bs).param x₁.number_expected)) (next x₁.number_expected) x₁.number_expected) x₁ ≡ x₁
  unmoved m true b = refl
  unmoved m false true = rw m
  unmoved m false false = refl

  answered : refusal d (delivery c bs room) ≡ 0 → Command d c bs → access_of d c ≡ true → ((header bs).param ≡ x₁.number_expected → ⊥) → step d (delivery c bs room) ≡ told_so d
  answered z w a n =
      let m : eqb (header bs).param x₁.number_expected ≡ false = ne_eqb _ _ n in
      whole_step d c bs room z w.message r_synchronous (role_sync d c w.on_synchronous)
      ∙ ap (λ v. finish d (effect v (Scan.whole (header bs) p₀) r_synchronous d i₀ c)) (out_of_step d i₀ p₀ (header bs) w.not_in_clear a m (header bs).kind w.of_type_lem)
      ∙ errs
      ∙ ap₂ left (ap (set d.rest.exchanges i₀) (unmoved m x₁.in_clear (one_of commands (header bs).kind))
      ∙ set_same d.rest.exchanges i₀ fresh_exchange) (connections_kept 0 z w.message.no_remainder)

  pub out : OutOfStep d c bs room
  out = record { answered = answered }

-- 003's count
pub counts_on : (k : ℕ) → expected (count_up k) ≡ nth k
counts_on zero = sym nth_first
counts_on (suc k) =
    let e = counts_on k in
    ap (λ (b : Bool). cond b (next (expected (count_up k))) (expected (count_up k))) (eq-eqb (nth k) (expected (count_up k)) (sym e)) ∙ ap next e ∙ nth_next k ∙ ap nth (omega arith)

apart : (x y : ℕ) (xs ys : List ℕ) → x ∷ xs ≡ y ∷ ys → (x ≡ y) × (xs ≡ ys)
apart x y xs ys e = (cc, cc)

module _ (d : Server) (f : ℕ → Numbering) (g : Reads d f) where
  -- a line of session n
  line : (n : ℕ) (e : Event) → (noted_line record { event = e; reply = (step d e).reply; frames = (step d e).frames } n (f n)).taken ≡ count_up
      (length (noted_line record { event = e; reply = (step d e).reply; frames = (step d e).frames } n (f n)).taken)
      → OnlyPayload record { event = e; reply = (step d e).reply; frames = (step d e).frames } (f n)
  line n e counts bs room k m ee er nc o ef =
      error_told d c bs room o k m (subst (λ (e : Event). (step d e).reply ≡ took error_sent k m) ee er) (subst (λ (e : Event). (step d e).frames ≡ error_0 c) ee ef) fits
    where
      c : ℕ
      c = (f n).connection

      p : Numbering
      p = f n

      real : c ≡ no_connection → ⊥
      real = real_delivery d c bs room (accepted d (delivery c bs room) error_sent k m (subst (λ (e : Event). (step d e).reply ≡ took error_sent k m) ee er))

      -- what it took
      took_it : noted_line record { event = e; reply = (step d e).reply; frames = (step d e).frames } n p ≡ took_one (header bs).param p
      took_it = ap₂ (λ (e : Event) (r : Reply). noted_line record { event = e; reply = r; frames = (step d e).frames } n p) ee er ∙ rw (eq-eqb c c refl, nc, o)

      up : (header bs).param ∷ p.taken ≡ count_up (suc (length p.taken))
      up = subst (λ (q : Numbering). q.taken ≡ count_up (length q.taken)) took_it counts

      is_next : (header bs).param ≡ expected p.taken
      is_next =
          let j = length p.taken in
          let u = apart (header bs).param (nth j) p.taken (count_up j) up in
          u.0 ∙ sym (counts_on j) ∙ ap expected (sym u.1)

      fits : role_of d.locks.entries c ≡ r_synchronous → ((exchange_at d.rest (slot_of d c)).in_clear ≡ false) × ((header bs).param ≡ (exchange_at d.rest (slot_of d c)).number_expected)
      fits r =
          let s = sync_role d c r in
          let w : n ≡ (entry_of d c).number = g.sole n (slot_of d c) s.alive real (sym s.synchronous_one) in
          let k = g.knows (slot_of d c) s.alive in
          (sym k.in_clear_lem ∙ ap (λ (m : ℕ). (f m).in_clear) (sym w) ∙ nc, is_next ∙ ap (λ (m : ℕ). expected (f m).taken) w ∙ k.number)

never_out : (es : List Event) (d : Server) (f : ℕ → Numbering) → Reads d f → (n : ℕ) → Counts (log d es) n (f n) → NeverOut (log d es) n (f n)
unfolding log
never_out [] d f g n c = tt
never_out (e ∷ es) d f g n c = (line d f g n e c.0, never_out es (step d e).server _ (call_reads d f e g) n c.1)

pub in_steps : (v : Making) (es : List Event) → InStep v es
unfolding finish Acts.acts
in_steps v es =
    record {
      reads = g.knows;
      acts = λ c bs room k n e o.
          let a = (accessed d c bs room).acts_with k n e o in
          let s = a.0.on_synchronous in
          let w = g.knows (slot_of d c) s.alive in
          let own : (entry_of d c).number ≡ n = sym a.2 in (
            ap (λ (m : ℕ). (numbering v es m).connection) (sym own) ∙ w.connection ∙ s.synchronous_one,
            ap (λ (m : ℕ). (numbering v es m).in_clear) (sym own) ∙ w.in_clear_lem ∙ a.0.not_in_clear,
            carries_it d c bs room k n e o ∙ sym w.number ∙ ap (λ (m : ℕ). expected (numbering v es m).taken) own,
          );
      goes_on = λ c bs room k z w a f l t m.
          let s = w.on_synchronous in
          let e = m ∙ sym (counts_on k) ∙ ap expected (sym t) ∙ (g.knows (slot_of d c) s.alive).number in
          ap (λ (x : Result). x.reply) (whole_does d c bs room z w.message r_synchronous (role_sync d c s)
          (command_passes d (slot_of d c) (payload_of (header bs) bs) w.not_in_clear a (header bs) e f
          (λ t. (admits_is d.rest.allowed (payload_of (header bs) bs)).1 (l t))));
      never = λ n c. never_out es (fresh v) (λ n. first_numbering no_connection) (fresh_reads v) n c;
    }
  where
    d : Server
    d = final (fresh v) es

    g : Reads d (λ n. numbering v es n)
    g = run_reads v es

-- The reader of model/specs/InStep.antt knows every live session's synchronous connection, whether it is in a clear, and the number expected: kept from
-- call to call, by the table of locality.
use mathlib.Core.Path.{◌≡◌, refl, sym, ap, subst, ◌∙◌}
use mathlib.Core.Bool.{Bool, true, false, not, ◌&&◌, cond, false≢true}
use mathlib.Core.List.{List, [], ◌∷◌}
use mathlib.Core.Logic.{◌⊎◌, inl, inr}
use Prim.Native.Nat.{ℕ, ◌+◌, ◌%◌, ◌^◌, ◌<◌}
use native.Mathlib.Omega.{arith}
use lib.Dec.{eqb}
use lib.ListN.{length}
use borrow.Author.Tests.{eqb-true, eqb-false, eq-eqb, ne_eqb}
use Rattle.wire.specs.declared.Header.{Header}
use Rattle.wire.specs.Message.{header, payload_of}
use Rattle.wire.specs.Class.{one_of}
use Rattle.model.specs.Sizes.{no_connection, session_limit}
use Rattle.model.specs.MessageTypes.{commands}
use Rattle.model.specs.State.{Server, Entry, Exchange, at, live, slot_of_number, exchange_at, fresh, Making}
use Rattle.model.specs.Interface.{Event, Event.opening, Event.delivery, Event.cut, Event.clock, Event.answer, Event.status, Event.setting, Outcome}
use Rattle.model.specs.Interface.{Outcome.more_needed, Outcome.skipped, Outcome.held, Outcome.ignored, Outcome.error_sent, Outcome.closed, Outcome.acted}
use Rattle.model.specs.Interface.{Reply, Reply.refused, Reply.done, Reply.withheld, Reply.took}
use Rattle.model.specs.Place.{is_on_connection, slot_in, slot_of}
use Rattle.model.specs.Checks.{judged}
use Rattle.model.specs.Step.{Result, step, final, log}
use Rattle.model.specs.Happening.{Heard, Action, Happening, Happening.unmoved, Happening.connected, Happening.disconnected, Happening.skipped_over}
use Rattle.model.specs.Happening.{Happening.errored, Happening.message_acted, Happening.clock_read, Happening.status_set, Happening.setting_made}
use Rattle.model.specs.Happening.{Happening.answer_sent, Happening.answer_withheld, happened}
use Rattle.model.specs.LocalityRows.{kind_of, slot_acted, in_slot, clear_row, step_row, number_row, synchronous_row}
use Rattle.model.specs.LocalityReplies.{session_said}
use Rattle.model.specs.Locality.{at_call, Local}
use Rattle.model.specs.InStep.{Numbering, first_numbering, took_one, expected, acted_for, acted_for_another, refused_one, numbering_after, numbering_of, numbering, Knows}
use Rattle.model.proofs.Basics.{both, not_off, inside, same?}
use Rattle.claims.proofs.Invariant.{Inv}
use Rattle.claims.proofs.Events.{Enters, inv_fresh, blank_at}
use Rattle.model.proofs.Place.{place_unique}
use Rattle.claims.proofs.Fits.{sync_passed, real_delivery, inv_call}
use Rattle.claims.proofs.ReadOff.{each_of}
use Rattle.claims.proofs.Replies.{accepted}
use Rattle.claims.proofs.Access.{accessed, role_sync}
use Rattle.claims.proofs.Permitted.{shows}
use Rattle.claims.proofs.Opening.{entering}
use Rattle.claims.proofs.Locality.{local_call}
use Rattle.claims.proofs.LocalityLists.{same_both}

-- of each live slot
pub record Reads (d : Server) (f : ℕ → Numbering) : Type 0 where
  pub inv : Inv d.locks
  pub sized : length d.rest.exchanges ≡ session_limit
  pub knows : (i : ℕ) → live (at d.locks.entries i) ≡ true → Knows (f (at d.locks.entries i).number) (at d.locks.entries i) (exchange_at d.rest i)
  -- no other session is noted with its connection
  pub sole : (n i : ℕ) → live (at d.locks.entries i) ≡ true → ((f n).connection ≡ no_connection → ⊥) →
      (f n).connection ≡ (at d.locks.entries i).synchronous → n ≡ (at d.locks.entries i).number

-- a command that acts carries the number expected
pub carries_it : (d : Server) (c : ℕ) (bs : List ℕ) (room k n : ℕ) → (step d (delivery c bs room)).reply ≡ took acted k n → one_of commands (header bs).kind ≡ true
    → (header bs).param ≡ (exchange_at d.rest (slot_of d c)).number_expected
carries_it d c bs room k n e o =
    let a = (accessed d c bs room).acts_with k n e o in
    let s = shows d c bs room k n e in
    let p = payload_of (header bs) bs in
    let g = sync_passed d (slot_of d c) (header bs) p (ap (λ r. judged r d (slot_of d c) (header bs) p) (sym (role_sync d c a.0.on_synchronous)) ∙ s.passes) in
    eqb-true _ _ (not_off _ (rw o at g.1.1.1.1.1.1.1.0))

-- what is known of a call, beside the table
pub record ActedFacts (d : Server) (a : Action) : Type 0 where
  pub enters : kind_of a ≡ 0 → Enters d.locks.entries (slot_of_number d.locks.entries 0) a.session a.connection
  pub own_number : eqb (kind_of a) 0 ≡ false → a.session ≡ (at d.locks.entries (slot_acted d.locks.entries a)).number
  pub carries : one_of commands (kind_of a) ≡ true → a.message.param ≡ (exchange_at d.rest (slot_acted d.locks.entries a)).number_expected

abbrev pub Facts : Server → Happening → Type 0
Facts d unmoved = Unit {0}
Facts d (connected c) = Unit {0}
Facts d (disconnected c k) = Unit {0}
Facts d (skipped_over c k) = Unit {0}
Facts d (errored c h k) = c ≡ no_connection → ⊥
Facts d (message_acted a) = ActedFacts d a
Facts d (clock_read t) = Unit {0}
Facts d (status_set b) = Unit {0}
Facts d (setting_made s) = Unit {0}
Facts d (answer_sent n p end) = Unit {0}
Facts d (answer_withheld n m) = Unit {0}

command_slot : (t : ℕ) → one_of commands t ≡ true → (a b c : ℕ) → cond (eqb t 0) a (cond (eqb t 17) b c) ≡ c
command_slot t o a b c = each_of (λ t. cond (eqb t 0) a (cond (eqb t 17) b c) ≡ c) commands (refl, (refl, (refl, tt))) t o

delivered : (d : Server) → Inv d.locks → length d.rest.exchanges ≡ length d.locks.entries → (c : ℕ) (bs : List ℕ) (room : ℕ) (o : Outcome) (k n : ℕ)
    → (step d (delivery c bs room)).reply ≡ took o k n → Facts d (happened (delivery c bs room) (took o k n) (step d (delivery c bs room)).frames)
delivered d i z c bs room more_needed k n e = tt
delivered d i z c bs room skipped k n e = tt
delivered d i z c bs room held k n e = tt
delivered d i z c bs room ignored k n e = tt
delivered d i z c bs room error_sent k n e = real_delivery d c bs room (accepted d (delivery c bs room) error_sent k n e)
delivered d i z c bs room closed k n e = tt
delivered d i z c bs room acted k n e =
    record {
      enters = entering d i d.rest.made refl z c bs room k n e;
      own_number = λ t. said ∙ ap (λ (b : Bool). cond b n (at es slot).number) t;
      carries = λ o. carries_it d c bs room k n e o ∙ ap (λ (j : ℕ). (exchange_at d.rest j).number_expected)
          (sym (command_slot (header bs).kind o (slot_of_number es 0) (slot_of_number es (header bs).param) (slot_of d c)));
    }
  where
    es : List Entry
    es = d.locks.entries

    slot : ℕ
    slot = cond (eqb (header bs).kind 0) (slot_of_number es 0) (cond (eqb (header bs).kind 17) (slot_of_number es (header bs).param) (slot_of d c))

    said : n ≡ cond (eqb (header bs).kind 0) n (at es slot).number
    said = subst (λ (r : Reply). n ≡ session_said d (happened (delivery c bs room) r (step d (delivery c bs room)).frames) n) e ((local_call d (delivery c bs room)).session acted k n e)

pub facts : (d : Server) → Inv d.locks → length d.rest.exchanges ≡ length d.locks.entries → (e : Event) (r : Reply) → (step d e).reply ≡ r → Facts d (happened e r (step d e).frames)
facts d i z (delivery c bs room) (refused n) q = tt
facts d i z (delivery c bs room) done q = tt
facts d i z (delivery c bs room) withheld q = tt
facts d i z (delivery c bs room) (took o k n) q = delivered d i z c bs room o k n q
facts d i z (opening c) (refused n) q = tt
facts d i z (opening c) done q = tt
facts d i z (opening c) withheld q = tt
facts d i z (opening c) (took o k n) q = tt
facts d i z (cut c room) (refused n) q = tt
facts d i z (cut c room) done q = tt
facts d i z (cut c room) withheld q = tt
facts d i z (cut c room) (took o k n) q = tt
facts d i z (clock t room) (refused n) q = tt
facts d i z (clock t room) done q = tt
facts d i z (clock t room) withheld q = tt
facts d i z (clock t room) (took o k n) q = tt
facts d i z (answer m x end sh room) (refused n) q = tt
facts d i z (answer m x end sh room) done q = tt
facts d i z (answer m x end sh room) withheld q = tt
facts d i z (answer m x end sh room) (took o k n) q = tt
facts d i z (status b) (refused n) q = tt
facts d i z (setting s) (refused n) q = tt
facts d i z (status b) done q = tt
facts d i z (setting s) done q = tt
facts d i z (status b) withheld q = tt
facts d i z (setting s) withheld q = tt
facts d i z (status b) (took o k n) q = tt
facts d i z (setting s) (took o k n) q = tt

-- what a message of type t, not Initialize, makes of the three, by the table and by the reader
abbrev clear_by : ℕ → Bool → Bool
clear_by t b = cond (eqb t 19) true (cond (one_of (0 ∷ 8 ∷ []) t) false b)

abbrev step_by : ℕ → ℕ → ℕ
step_by t n = cond (one_of (6 ∷ 7 ∷ 12 ∷ []) t) ((n + 2) % 2 ^ 32) (cond (one_of (0 ∷ 19 ∷ []) t) 0xffffff00 n)

abbrev Same : Numbering → ℕ → Bool → ℕ → Type 0
Same q c b n = (q.connection ≡ c) × (q.in_clear ≡ b) × (expected q.taken ≡ n)

module _ (c m : ℕ) (p : Numbering) where
  moved_on : m ≡ expected p.taken → expected (m ∷ p.taken) ≡ (expected p.taken + 2) % 2 ^ 32
  moved_on e = ap (λ (b : Bool). cond b ((expected p.taken + 2) % 2 ^ 32) (expected p.taken)) (eq-eqb m (expected p.taken) e)

  abbrev Own : ℕ → Type 0
  Own t = Same (acted_for c t m p) p.connection (clear_by t p.in_clear) (step_by t (expected p.taken))

  own_other : (t : ℕ) → eqb t 0 ≡ false → one_of commands t ≡ false → Own t
  own_other t q o = go (eqb t 19) (eqb t 8) refl refl
    where
      go : (a b : Bool) → eqb t 19 ≡ a → eqb t 8 ≡ b → Own t
      go true b ea eb = rw (o, q, ea) (refl, refl, refl)
      go false true ea eb = rw (o, q, ea, eb) (refl, refl, refl)
      go false false ea eb = rw (o, q, ea, eb) (refl, refl, refl)

  own : (t : ℕ) → eqb t 0 ≡ false → (one_of commands t ≡ true → m ≡ expected p.taken) → Own t
  own t q carries = go (one_of commands t) refl
    where
      go : (b : Bool) → one_of commands t ≡ b → Own t
      go true o = each_of Own commands ((refl, refl, moved_on (carries o)), ((refl, refl, moved_on (carries o)), ((refl, refl, moved_on (carries o)), tt))) t o
      go false o = own_other t q o

  kept_connection : (t : ℕ) → eqb t 0 ≡ false → (acted_for c t m p).connection ≡ p.connection
  kept_connection t q = go (one_of commands t) (eqb t 19) (eqb t 8)
    where
      go : (x a b : Bool) →
          (cond x (took_one m p) (cond (eqb t 0) (first_numbering c)
          (cond a (record { connection = p.connection; in_clear = true; taken = [] })
          (cond b (record { connection = p.connection; in_clear = false; taken = p.taken }) p)))).connection ≡ p.connection
      go true a b = refl
      go false true b = rw q
      go false false true = rw q
      go false false false = rw q

-- an Error to one of its messages
module _ (h : Header) (p : Numbering) where
  abbrev err_by : Bool → ℕ → ℕ
  err_by b n = cond (not b && (one_of (6 ∷ 7 ∷ 12 ∷ []) h.kind && eqb h.param n)) ((n + 2) % 2 ^ 32) n

  refused_one_lem : Same (refused_one h p) p.connection p.in_clear (err_by p.in_clear (expected p.taken))
  refused_one_lem = go p.in_clear refl (one_of commands h.kind) refl
    where
      go : (a : Bool) → p.in_clear ≡ a → (b : Bool) → one_of commands h.kind ≡ b → Same (refused_one h p) p.connection p.in_clear (err_by p.in_clear (expected p.taken))
      go true ea b eb = rw ea (refl, refl, refl)
      go false ea true eb = rw (ea, eb) (refl, refl, refl)
      go false ea false eb = rw (ea, eb) (refl, refl, refl)

-- one call, by what happened
module _ (d : Server) (f : ℕ → Numbering) (g : Reads d f) (r : Result) where
  abbrev es : List Entry
  es = d.locks.entries

  abbrev es' : List Entry
  es' = r.server.locks.entries

  abbrev x : ℕ → Exchange
  x i = exchange_at d.rest i

  abbrev x' : ℕ → Exchange
  x' i = exchange_at r.server.rest i

  -- of slot i: who it is, its connection, clear and number, as the call leaves them
  abbrev Leaves : ℕ → ℕ → ℕ → Bool → ℕ → Type 0
  Leaves i n c b m = ((at es' i).number ≡ n) × ((at es' i).synchronous ≡ c) × ((x' i).in_clear ≡ b) × ((x' i).number_expected ≡ m)

  abbrev ByTable : Happening → ℕ → Type 0
  ByTable h i = Leaves i (in_slot number_row es i h (at es i).number) (in_slot synchronous_row es i h (at es i).synchronous)
      (in_slot clear_row es i h (x i).in_clear) (in_slot (step_row (x i)) es i h (x i).number_expected)

  table : (h : Happening) → Local d h r → (i : ℕ) → live (at es' i) ≡ true → ByTable h i
  table h l i v =
      let q : i < length es = rw (← l.slots) (inside live es' i refl v) in
      let q' : i < length d.rest.exchanges = omega (arith, q, g.inv.sound.firm.slots, g.sized) in
      (l.number i q, l.synchronous i q, l.in_clear_lem i q', l.number_expected_lem i q')

  -- the reader's side
  abbrev Known : ℕ → Numbering → Type 0
  Known i p = Knows p (at es' i) (x' i)

  abbrev Goal : Happening → ℕ → Type 0
  Goal h i = Known i (numbering_after h (at es' i).number (f (at es' i).number))
      × ((n : ℕ) → ((numbering_after h n (f n)).connection ≡ no_connection → ⊥) → (numbering_after h n (f n)).connection ≡ (at es' i).synchronous →
      n ≡ (at es' i).number)

  was_live : (i : ℕ) → live (at es' i) ≡ true → (at es' i).number ≡ (at es i).number → live (at es i) ≡ true
  was_live i v e = ap (λ n. not (eqb n 0)) (sym e) ∙ v

  -- a slot that stays who it is
  stays : (h : Happening) (i : ℕ) → live (at es' i) ≡ true → (b : Bool) (m : ℕ) → Leaves i (at es i).number (at es i).synchronous b m
      → Same (numbering_after h (at es i).number (f (at es i).number)) (f (at es i).number).connection b m
      → ((n : ℕ) → ((numbering_after h n (f n)).connection ≡ no_connection → ⊥) → (numbering_after h n (f n)).connection ≡ (at es i).synchronous →
      (f n).connection ≡ (at es i).synchronous) → Goal h i
  stays h i v b m t s o =
      let alive = was_live i v t.0 in (
        subst (λ (n : ℕ). Known i (numbering_after h n (f n))) (sym t.0) record {
          connection = s.0 ∙ (g.knows i alive).connection ∙ sym t.1;
          in_clear_lem = s.1 ∙ sym t.2;
          number = s.2 ∙ sym t.3;
        },
        λ n w e. let y = o n w (e ∙ t.1) in g.sole n i alive (λ z. w (e ∙ t.1 ∙ sym y ∙ z)) y ∙ sym t.0,
      )

  -- nothing of the session is touched
  untouched : (h : Happening) (i : ℕ) → live (at es' i) ≡ true → Leaves i (at es i).number (at es i).synchronous (x i).in_clear (x i).number_expected
      → ((n : ℕ) → numbering_after h n (f n) ≡ f n) → Goal h i
  untouched h i v t e =
      let n = (at es i).number in
      let k = g.knows i (was_live i v t.0) in
      stays h i v (x i).in_clear (x i).number_expected t (rw (e n) (refl, k.in_clear_lem, k.number)) (λ m w q. ap (λ (p : Numbering). p.connection) (sym (e m)) ∙ q)

  closed_not : (h : Happening) (i : ℕ) → live (at es' i) ≡ true → (b : Bool) →
      Leaves i (cond b 0 (at es i).number) (cond b no_connection (at es i).synchronous) (cond b false (x i).in_clear)
      (cond b 0xffffff00 (x i).number_expected)
      → ((n : ℕ) → numbering_after h n (f n) ≡ f n) → Goal h i
  closed_not h i v true t e = absurd (false≢true (ap (λ n. not (eqb n 0)) (sym t.0) ∙ v))
  closed_not h i v false t e = untouched h i v t e

  -- an answer
  answered_not : (h : Happening) (i : ℕ) → live (at es' i) ≡ true → (b : Bool) →
      Leaves i (cond b (at es i).number (at es i).number) (cond b (at es i).synchronous (at es i).synchronous)
      (cond b (x i).in_clear (x i).in_clear) (cond b (x i).number_expected (x i).number_expected)
      → ((n : ℕ) → numbering_after h n (f n) ≡ f n) → Goal h i
  answered_not h i v true t e = untouched h i v t e
  answered_not h i v false t e = untouched h i v t e

  -- an Error
  module _ (c : ℕ) (h : Header) (k : Heard) (real : c ≡ no_connection → ⊥) where
    abbrev hap : Happening
    hap = errored c h k

    same_place : (n : ℕ) → (numbering_after hap n (f n)).connection ≡ (f n).connection
    same_place n = go (eqb (f n).connection c)
      where
        go : (b : Bool) → (cond b (refused_one h (f n)) (f n)).connection ≡ (f n).connection
        go true = (refused_one_lem h (f n)).0
        go false = refl

    errored_at : (i : ℕ) → live (at es' i) ≡ true → ByTable hap i → Goal hap i
    errored_at i v t = go (eqb (at es i).synchronous c) refl
      where
        n : ℕ
        n = (at es i).number

        p : Numbering
        p = f n

        u : Leaves i n (at es i).synchronous (x i).in_clear
            (cond (eqb i (slot_in es c) && eqb (at es i).synchronous c) (err_by h p (x i).in_clear (x i).number_expected) (x i).number_expected)
        u =
            let b = eqb i (slot_in es c) && eqb (at es i).synchronous c in
            (t.0 ∙ same_both b n n refl, t.1 ∙ same_both b (at es i).synchronous (at es i).synchronous refl, t.2 ∙ same_both b (x i).in_clear (x i).in_clear refl, t.3)

        alive : live (at es i) ≡ true
        alive = was_live i v u.0

        k₁ : Knows p (at es i) (x i)
        k₁ = g.knows i alive

        here : (b : Bool) → eqb p.connection c ≡ b → Leaves i n (at es i).synchronous (x i).in_clear
            (cond b (err_by h p (x i).in_clear (x i).number_expected) (x i).number_expected) → Goal hap i
        here true q w =
            stays hap i v _ _ w (rw q (let s = refused_one_lem h p in (s.0, s.1 ∙ k₁.in_clear_lem, s.2 ∙ rw (k₁.in_clear_lem, k₁.number)))) (λ m w e. sym (same_place m) ∙ e)
        here false q w = stays hap i v _ _ w (rw q (refl, k₁.in_clear_lem, k₁.number)) (λ m w e. sym (same_place m) ∙ e)

        go : (b : Bool) → eqb (at es i).synchronous c ≡ b → Goal hap i
        go true q =
            let on : is_on_connection c (at es i) ≡ true = rw (alive, q) in
            let s : eqb i (slot_in es c) ≡ true = eq-eqb i _ (place_unique es c i (g.inv.sound.firm.connections c real) on) in
            here true (ap (λ (m : ℕ). eqb m c) k₁.connection ∙ q) (rw (s, q) at u)
        go false q =
            let none : (eqb i (slot_in es c) && false) ≡ false = no (eqb i (slot_in es c)) in
            here false (ap (λ (m : ℕ). eqb m c) k₁.connection ∙ q) (rw (q, none) at u)
          where
            no : (b : Bool) → (b && false) ≡ false
            no true = refl
            no false = refl

  -- a message that acted
  module _ (a : Action) (fact : ActedFacts d a) where
    abbrev did : Happening
    did = message_acted a

    abbrev s₀ : ℕ
    s₀ = slot_acted es a

    abbrev t₀ : ℕ
    t₀ = kind_of a

    abbrev m₀ : ℕ
    m₀ = a.message.param

    -- not Initialize: no connection changes
    module _ (q : eqb t₀ 0 ≡ false) where
      same_connection : (n : ℕ) → (numbering_after did n (f n)).connection ≡ (f n).connection
      same_connection n = go (eqb a.session n)
        where
          go : (b : Bool) → (cond b (acted_for a.connection t₀ m₀ (f n)) (acted_for_another a.connection t₀ (f n))).connection ≡ (f n).connection
          go true = kept_connection a.connection m₀ (f n) t₀ q
          go false = rw q

      abbrev LeavesIf : ℕ → Bool → Type 0
      LeavesIf i b = Leaves i (at es i).number (at es i).synchronous (cond b (clear_by t₀ (x i).in_clear) (x i).in_clear) (cond b (step_by t₀ (x i).number_expected) (x i).number_expected)

      told : (i : ℕ) → ByTable did i → LeavesIf i (eqb i s₀)
      told i t =
          (t.0 ∙ kept (eqb i s₀) (eqb t₀ 0) a.session (at es i).number q, t.1 ∙ kept (eqb i s₀) (eqb t₀ 0) a.connection (at es i).synchronous q, t.2, t.3)
        where
          kept : (b z : Bool) (w n : ℕ) → z ≡ false → cond b (cond z w n) n ≡ n
          kept true z w n e = ap (λ (z : Bool). cond z w n) e
          kept false z w n e = refl

      session_acted : (i : ℕ) → live (at es' i) ≡ true → ByTable did i → Goal did i
      session_acted i v t = go (same? i s₀)
        where
          n : ℕ
          n = (at es i).number

          u : LeavesIf i (eqb i s₀)
          u = told i t

          alive : live (at es i) ≡ true
          alive = was_live i v u.0

          k₁ : Knows (f n) (at es i) (x i)
          k₁ = g.knows i alive

          own_now : i ≡ s₀ → Same (acted_for a.connection t₀ m₀ (f n)) (f n).connection (clear_by t₀ (x i).in_clear) (step_by t₀ (x i).number_expected)
          own_now e =
              let w = own a.connection m₀ (f n) t₀ q (λ o. fact.carries o ∙ ap (λ (j : ℕ). (x j).number_expected) (sym e) ∙ sym k₁.number) in
              (w.0, w.1 ∙ ap (clear_by t₀) k₁.in_clear_lem, w.2 ∙ ap (step_by t₀) k₁.number)

          go : (i ≡ s₀) ⊎ (i ≡ s₀ → ⊥) → Goal did i
          go (inl e) =
              let mine : eqb a.session n ≡ true = eq-eqb a.session n (fact.own_number q ∙ ap (λ (j : ℕ). (at es j).number) (sym e)) in
              stays did i v _ _ (rw (eq-eqb i s₀ e) at u) (rw mine (own_now e)) (λ m w z. sym (same_connection m) ∙ z)
          go (inr e) =
              let not-mine : eqb a.session n ≡ false =
              ne_eqb a.session n (λ z.
              let w : (at es s₀).number ≡ n = sym (fact.own_number q) ∙ z in
              let l : live (at es s₀) ≡ true = ap (λ k. not (eqb k 0)) w ∙ alive in
              e (g.inv.sound.firm.numbers n i s₀ (both _ _ alive (eq-eqb n n refl)) (both _ _ l (eq-eqb _ _ w)))) in
              stays did i v _ _ (rw (ne_eqb i s₀ e) at u) (rw (not-mine, q) (refl, k₁.in_clear_lem, k₁.number)) (λ m w z. sym (same_connection m) ∙ z)

    -- Initialize
    module _ (q : t₀ ≡ 0) where
      abbrev z₀ : ℕ
      z₀ = slot_of_number es 0

      n₀ : Enters es z₀ a.session a.connection
      n₀ = fact.enters q

      abbrev Begins : ℕ → Bool → Type 0
      Begins i b = Leaves i (cond b a.session (at es i).number) (cond b a.connection (at es i).synchronous) (cond b false (x i).in_clear) (cond b 0xffffff00 (x i).number_expected)

      begun : (i : ℕ) → ByTable did i → Begins i (eqb i z₀)
      begun i t = rw q at t

      -- the connection is no other session's
      other_place : (i : ℕ) → live (at es i) ≡ true → (at es i).synchronous ≡ a.connection → ⊥
      other_place i alive e = n₀.unused i (rw (alive, eq-eqb _ _ e))

      session_begun : (i : ℕ) → live (at es' i) ≡ true → ByTable did i → Goal did i
      session_begun i v t = go (same? i z₀)
        where
          go : (i ≡ z₀) ⊎ (i ≡ z₀ → ⊥) → Goal did i
          go (inl e) =
              let u : Begins i true = rw (eq-eqb i z₀ e) at (begun i t) in
              let opens : numbering_after did a.session (f a.session) ≡ first_numbering a.connection = rw (eq-eqb a.session a.session refl, q) in (
                subst (λ (n : ℕ). Known i (numbering_after did n (f n))) (sym u.0) (subst (Known i) (sym opens) record { connection = sym u.1; in_clear_lem = sym u.2; number = sym u.3 }),
                λ n w c. mine n (eqb a.session n) refl (c ∙ u.1) ∙ sym u.0,
              )
            where
              another : (n : ℕ) (b : Bool) → eqb (f n).connection a.connection ≡ b → (cond b (first_numbering no_connection) (f n)).connection ≡ a.connection → ⊥
              another n true w c = n₀.real (sym c)
              another n false w c = eqb-false _ _ w c

              mine : (n : ℕ) (b : Bool) → eqb a.session n ≡ b → (numbering_after did n (f n)).connection ≡ a.connection → n ≡ a.session
              mine n true w c = sym (eqb-true _ _ w)
              mine n false w c = absurd (another n (eqb (f n).connection a.connection) refl (rw (w, q) at c))
          go (inr e) =
              let u : Begins i false = rw (ne_eqb i z₀ e) at (begun i t) in
              let n = (at es i).number in
              let alive = was_live i v u.0 in
              let k₁ = g.knows i alive in
              let not-mine : eqb a.session n ≡ false = ne_eqb a.session n (λ z. n₀.fresh i (both _ _ alive (eq-eqb _ _ (sym z)))) in
              let apart : eqb (f n).connection a.connection ≡ false = ne_eqb _ _ (λ z. other_place i alive (sym k₁.connection ∙ z)) in
              stays did i v _ _ u (rw (not-mine, q, apart) (refl, k₁.in_clear_lem, k₁.number)) (λ m w z. others m w z alive (eqb a.session m) refl)
            where
              others : (m : ℕ) → ((numbering_after did m (f m)).connection ≡ no_connection → ⊥) →
                  (numbering_after did m (f m)).connection ≡ (at es i).synchronous → live (at es i) ≡ true → (b : Bool) → eqb a.session m ≡ b →
                  (f m).connection ≡ (at es i).synchronous
              others m w z alive true y = absurd (other_place i alive (sym (rw (y, q) at z)))
              others m w z alive false y = by (eqb (f m).connection a.connection) refl (rw (y, q) at w) (rw (y, q) at z)
                where
                  by : (b : Bool) → eqb (f m).connection a.connection ≡ b → ((cond b (first_numbering no_connection) (f m)).connection ≡ no_connection → ⊥)
                      → (cond b (first_numbering no_connection) (f m)).connection ≡ (at es i).synchronous → (f m).connection ≡ (at es i).synchronous
                  by true y w c = absurd (w refl)
                  by false y w c = c

    message_at : (i : ℕ) → live (at es' i) ≡ true → ByTable did i → Goal did i
    message_at i v t = go (eqb t₀ 0) refl
      where
        go : (b : Bool) → eqb t₀ 0 ≡ b → Goal did i
        go true q = session_begun (eqb-true _ _ q) i v t
        go false q = session_acted q i v t

  -- any call
  call_at : (h : Happening) → Local d h r → Facts d h → (i : ℕ) → live (at es' i) ≡ true → Goal h i
  call_at unmoved l k i v = untouched unmoved i v (table unmoved l i v) (λ n. refl)
  call_at (connected c) l k i v = untouched (connected c) i v (table (connected c) l i v) (λ n. refl)
  call_at (disconnected c j) l k i v = closed_not (disconnected c j) i v (eqb i (slot_in es c)) (table (disconnected c j) l i v) (λ n. refl)
  call_at (skipped_over c j) l k i v = untouched (skipped_over c j) i v (table (skipped_over c j) l i v) (λ n. refl)
  call_at (errored c h j) l k i v = errored_at c h j k i v (table (errored c h j) l i v)
  call_at (message_acted a) l k i v = message_at a k i v (table (message_acted a) l i v)
  call_at (clock_read t) l k i v = untouched (clock_read t) i v (table (clock_read t) l i v) (λ n. refl)
  call_at (status_set b) l k i v = untouched (status_set b) i v (table (status_set b) l i v) (λ n. refl)
  call_at (setting_made s) l k i v = untouched (setting_made s) i v (table (setting_made s) l i v) (λ n. refl)
  call_at (answer_sent m p end) l k i v = answered_not (answer_sent m p end) i v (eqb i (slot_of_number es m)) (table (answer_sent m p end) l i v) (λ n. refl)
  call_at (answer_withheld m j) l k i v = answered_not (answer_withheld m j) i v (eqb i (slot_of_number es m)) (table (answer_withheld m j) l i v) (λ n. refl)

pub call_reads : (d : Server) (f : ℕ → Numbering) (e : Event) → Reads d f → Reads (step d e).server (λ n. numbering_after (at_call d e) n (f n))
call_reads d f e g =
    let l = local_call d e in
    let k = facts d g.inv (g.sized ∙ sym g.inv.sound.firm.slots) e (step d e).reply refl in
    record {
      inv = inv_call d e g.inv;
      sized = l.exchange_slots ∙ g.sized;
      knows = λ i v. (call_at d f g (step d e) (at_call d e) l k i v).0;
      sole = λ n i v w c. (call_at d f g (step d e) (at_call d e) l k i v).1 n w c;
    }

-- a list, from the fresh server
pub list_reads : (es : List Event) (d : Server) (f : ℕ → Numbering) → Reads d f → Reads (final d es) (λ n. numbering_of (log d es) n (f n))
unfolding final log numbering_of
list_reads [] d f g = record { inv = g.inv; sized = g.sized; knows = g.knows; sole = g.sole }
list_reads (e ∷ es) d f g = list_reads es (step d e).server (λ n. numbering_after (at_call d e) n (f n)) (call_reads d f e g)

pub fresh_reads : (v : Making) → Reads (fresh v) (λ n. first_numbering no_connection)
fresh_reads v =
    record {
      inv = inv_fresh;
      sized = refl;
      knows = λ i u. absurd (false≢true (rw (blank_at session_limit i) at u));
      sole = λ n i u w c. absurd (false≢true (rw (blank_at session_limit i) at u));
    }

pub run_reads : (v : Making) (es : List Event) → Reads (final (fresh v) es) (λ n. numbering v es n)
run_reads v es = list_reads es (fresh v) (λ n. first_numbering no_connection) (fresh_reads v)

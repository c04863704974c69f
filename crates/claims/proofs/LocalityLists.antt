-- Lists that a call changes at one place, and the rows of a record read off the rows of its fields.
use mathlib.Core.Path.{◌≡◌, refl, sym, ap, ◌∙◌}
use mathlib.Core.Bool.{Bool, true, false, ◌&&◌, ◌||◌, cond}
use mathlib.Core.List.{List, [], ◌∷◌}
use mathlib.Core.Logic.{◌⊎◌, inl, inr}
use Prim.Native.Nat.{ℕ, ◌<◌}
use lib.Dec.{eqb}
use lib.ListN.{get_or, set, length, length-set}
use lib.Seq.{get_or-set_same, get_or-set_other}
use borrow.Author.Tests.{eqb-true, eq-eqb, ne_eqb}
use Rattle.wire.specs.declared.Header.{Header}
use Rattle.model.specs.State.{Entry, Waiting, Exchange, Connection, at, blank, fresh_exchange, closed_connection, open_connection, slot_of_number}
use Rattle.model.specs.Place.{slot_in}
use Rattle.model.specs.Locks.{with_locks, with_granted, give_at}
use Rattle.model.specs.Exchange
use Rattle.model.specs.Closing.{OldestFirst, OldestFirst.pass_end, OldestFirst.pass_grant, OldestFirst.pass_wait}
use Rattle.model.specs.Happening.{Action, Happening, Happening.unmoved, Happening.connected, Happening.disconnected, Happening.skipped_over, Happening.errored}
use Rattle.model.specs.Happening.{Happening.message_acted, Happening.clock_read, Happening.status_set, Happening.setting_made, Happening.answer_sent}
use Rattle.model.specs.Happening.{Happening.answer_withheld}
use Rattle.model.specs.LocalityRows.{Row, in_slot, slot_acted, concerns, Way, in_place, remainder_row, clear_row, asked_row, available_row, size_row, mode_row}
use Rattle.model.specs.LocalityRows.{count_row, sent_row, expected_row, step_row, number_row, synchronous_row, asynchronous_row, exclusive_row, shared_row}
use Rattle.model.specs.LocalityRows.{last_row, standing_row, more_granted, granted_row}
use Rattle.model.specs.Locality.{entry_due, given_exclusive, given_shared, given_grants, Look}
use Rattle.model.proofs.Basics.{same?}

module _ {A : Type 0} where
  pub set_at : (xs : List A) (s : ℕ) (y z : A) (i : ℕ) → i < length xs → get_or (set xs s y) i z ≡ cond (eqb i s) y (get_or xs i z)
  set_at xs s y z i l = go (same? i s)
    where
      go : (i ≡ s) ⊎ (i ≡ s → ⊥) → get_or (set xs s y) i z ≡ cond (eqb i s) y (get_or xs i z)
      go (inl e) = ap (λ k. get_or (set xs s y) k z) e ∙ get_or-set_same xs s y z (rw e at l) ∙ sym (ap (λ b. cond b y (get_or xs i z)) (eq-eqb i s e))
      go (inr n) = get_or-set_other xs s i y z n ∙ sym (ap (λ b. cond b y (get_or xs i z)) (ne_eqb i s n))

  -- what is stored is made of what stood there
  pub touch : (xs : List A) (s : ℕ) (f : A → A) (y z : A) (i : ℕ) → i < length xs → y ≡ f (get_or xs s z) → get_or (set xs s y) i z ≡ cond (eqb i s) (f (get_or xs i z)) (get_or xs i z)
  touch xs s f y z i l e = set_at xs s y z i l ∙ go (eqb i s) refl
    where
      go : (b : Bool) → eqb i s ≡ b → cond b y (get_or xs i z) ≡ cond b (f (get_or xs i z)) (get_or xs i z)
      go true q = e ∙ ap (λ k. f (get_or xs k z)) (sym (eqb-true i s q))
      go false q = refl

  pub same_both : (b : Bool) (x y : A) → y ≡ x → cond b y x ≡ x
  same_both true x y e = e
  same_both false x y e = refl

-- a row of a list: each of its elements goes by a row of fields
pub record Rowed {A : Type 0} (z : A) (r : Row A) (es : List Entry) (h : Happening) (xs xs' : List A) : Type 0 where
  pub size : length xs' ≡ length xs
  pub each : (i : ℕ) → i < length xs → get_or xs' i z ≡ in_slot r es i h (get_or xs i z)

module _ {A : Type 0} (z : A) (r : Row A) (es : List Entry) (xs : List A) where
  pub row_message : (a : Action) (s : ℕ) (y : A) → s ≡ slot_acted es a → y ≡ r.by_message a (get_or xs s z) → Rowed z r es (message_acted a) xs (set xs s y)
  row_message a s y e q =
      record {
        size = length-set xs s y;
        each = λ i l. touch xs s (r.by_message a) y z i l q ∙ ap (λ (k : ℕ). cond (eqb i k) (r.by_message a (get_or xs i z)) (get_or xs i z)) e;
      }

  pub row_kept : (a : Action) → ((x : A) → r.by_message a x ≡ x) → Rowed z r es (message_acted a) xs xs
  row_kept a f = record { size = refl; each = λ i l. sym (same_both (eqb i (slot_acted es a)) (get_or xs i z) (r.by_message a (get_or xs i z)) (f (get_or xs i z))) }

-- a field of a row
pub project : {X A : Type 0} (g : X → A) (r : Row X) (s : X → Row A) → ((a : Action) (x : X) → g (r.by_message a x) ≡ (s x).by_message a (g x)) →
    ((b : Bool) (x : X) → g (r.by_answer b x) ≡ (s x).by_answer b (g x))
    → ((x : X) → g (r.when_withheld x) ≡ (s x).when_withheld (g x)) → ((h : Header) (x : X) → g (r.by_error h x) ≡ (s x).by_error h (g x)) →
    ((x : X) → g r.once_closed ≡ (s x).once_closed) → (es : List Entry) (i : ℕ) (h : Happening) (x : X) →
    g (in_slot r es i h x) ≡ in_slot (s x) es i h (g x)
project g r s m n w v q es i unmoved x = refl
project g r s m n w v q es i (connected c) x = refl
project g r s m n w v q es i (disconnected c k) x = push (eqb i _)
  where
    push : (b : Bool) → g (cond b r.once_closed x) ≡ cond b (s x).once_closed (g x)
    push true = q x
    push false = refl
project g r s m n w v q es i (skipped_over c k) x = refl
project g r s m n w v q es i (errored c h k) x = push (eqb i (slot_in es c) && eqb (at es i).synchronous c)
  where
    push : (b : Bool) → g (cond b (r.by_error h x) x) ≡ cond b ((s x).by_error h (g x)) (g x)
    push true = v h x
    push false = refl
project g r s m n w v q es i (message_acted a) x = push (eqb i (slot_acted es a))
  where
    push : (b : Bool) → g (cond b (r.by_message a x) x) ≡ cond b ((s x).by_message a (g x)) (g x)
    push true = m a x
    push false = refl
project g r s m n w v q es i (clock_read t) x = refl
project g r s m n w v q es i (status_set b) x = refl
project g r s m n w v q es i (setting_made u) x = refl
project g r s m n w v q es i (answer_sent k p end) x = push (eqb i _)
  where
    push : (b : Bool) → g (cond b (r.by_answer end x) x) ≡ cond b ((s x).by_answer end (g x)) (g x)
    push true = n end x
    push false = refl
project g r s m n w v q es i (answer_withheld k p) x = push (eqb i _)
  where
    push : (b : Bool) → g (cond b (r.when_withheld x) x) ≡ cond b ((s x).when_withheld (g x)) (g x)
    push true = w x
    push false = refl

-- the rows of an exchange and of an entry
abbrev pub exchange_row : Bool → Row Exchange
exchange_row preferred =
    record {
      by_message = λ a x. record {
        in_clear = clear_row.by_message a x.in_clear;
        asked = (asked_row x).by_message a x.asked;
        message_available = (available_row x).by_message a x.message_available;
        client_size = size_row.by_message a x.client_size;
        overlap = (mode_row preferred).by_message a x.overlap;
        count = count_row.by_message a x.count;
        any_sent = sent_row.by_message a x.any_sent;
        rmt_expected = expected_row.by_message a x.rmt_expected;
        number_expected = (step_row x).by_message a x.number_expected;
      };
      by_answer = λ b x. Exchange.with_expectation (expected_row.by_answer b x.rmt_expected)
          (Exchange.with_count (count_row.by_answer b x.count) (sent_row.by_answer b x.any_sent)
          (Exchange.with_answering ((asked_row x).by_answer b x.asked) ((available_row x).by_answer b x.message_available) x));
      when_withheld = λ x. Exchange.with_answering ((asked_row x).when_withheld x.asked) ((available_row x).when_withheld x.message_available) x;
      by_error = λ h x. Exchange.with_number ((step_row x).by_error h x.number_expected) x;
      once_closed = fresh_exchange;
    }

abbrev pub entry_row : ℕ → Row Entry
entry_row now =
    record {
      by_message = λ a x. record {
        number = number_row.by_message a x.number;
        synchronous = synchronous_row.by_message a x.synchronous;
        asynchronous = asynchronous_row.by_message a x.asynchronous;
        exclusive = (exclusive_row x).by_message a x.exclusive;
        shared = (shared_row x).by_message a x.shared;
        last = last_row.by_message a x.last;
        standing = (standing_row x).by_message a x.standing;
        locks_granted = (granted_row now).by_message a x.locks_granted;
      };
      by_answer = λ b x. x;
      when_withheld = λ x. x;
      by_error = λ h x. x;
      once_closed = blank;
    }

split_entry : (b : Bool) (u x : Entry)
    → cond b u x
    ≡ record {
      number = cond b u.number x.number;
      synchronous = cond b u.synchronous x.synchronous;
      asynchronous = cond b u.asynchronous x.asynchronous;
      exclusive = cond b u.exclusive x.exclusive;
      shared = cond b u.shared x.shared;
      last = cond b u.last x.last;
      standing = cond b u.standing x.standing;
      locks_granted = cond b u.locks_granted x.locks_granted;
    }
split_entry true u x = refl
split_entry false u x = refl

pub due_entry : (now : ℕ) (es : List Entry) (i : ℕ) (h : Happening) (x : Entry) → in_slot (entry_row now) es i h x ≡ entry_due now es h i x
due_entry now es i unmoved x = refl
due_entry now es i (connected c) x = refl
due_entry now es i (disconnected c k) x = split_entry (eqb i (slot_in es c)) blank x
due_entry now es i (skipped_over c k) x = refl
due_entry now es i (errored c h k) x = split_entry (eqb i (slot_in es c) && eqb (at es i).synchronous c) x x
due_entry now es i (message_acted a) x = split_entry (eqb i (slot_acted es a)) ((entry_row now).by_message a x) x
due_entry now es i (clock_read t) x = refl
due_entry now es i (status_set b) x = refl
due_entry now es i (setting_made s) x = refl
due_entry now es i (answer_sent k p end) x = split_entry (eqb i (slot_of_number es k)) x x
due_entry now es i (answer_withheld k p) x = split_entry (eqb i (slot_of_number es k)) x x

-- the ways of a connection, and a field of them
abbrev pub with_remainder : ℕ → Connection → Connection
with_remainder n y = record { is_open = y.is_open; remainder = n }

abbrev pub connection_way : Way Connection
connection_way =
    record {
      once_open = open_connection 0;
      once_closed = closed_connection;
      by_skip = λ k y. with_remainder (remainder_row.by_skip k y.remainder) y;
      by_error = λ h y. with_remainder (remainder_row.by_error h y.remainder) y;
    }

pub kept_open : (n : ℕ) (y : Connection) → y.is_open ≡ true → open_connection n ≡ with_remainder n y
kept_open n y o = λ j. record { is_open = sym o j; remainder = n }

pub project_way : {X A : Type 0} (g : X → A) (r : Way X) (s : Way A) → g r.once_open ≡ s.once_open → g r.once_closed ≡ s.once_closed →
    ((k : ℕ) (y : X) → g (r.by_skip k y) ≡ s.by_skip k (g y)) → ((h : Header) (y : X) → g (r.by_error h y) ≡ s.by_error h (g y))
    → (es : List Entry) (x : ℕ) (h : Happening) (y : X) → g (in_place r es x h y) ≡ in_place s es x h (g y)
project_way {X = X} {A = A} g r s o q m v es x h y = by h
  where
    push : (b : Bool) (z : X) (w : A) → g z ≡ w → g (cond b z y) ≡ cond b w (g y)
    push true z w e = e
    push false z w e = refl

    by : (h : Happening) → g (in_place r es x h y) ≡ in_place s es x h (g y)
    by unmoved = refl
    by (connected c) = push (eqb x c) _ _ o
    by (disconnected c k) = push (concerns es c x) _ _ q
    by (skipped_over c k) = push (eqb x c) _ _ (m k y)
    by (errored c f k) = push (eqb x c) _ _ (v f y)
    by (message_acted a) = refl
    by (clock_read t) = refl
    by (status_set b) = refl
    by (setting_made u) = refl
    by (answer_sent n p end) = refl
    by (answer_withheld n p) = refl

-- what a look leaves of an entry
abbrev pub looked_at : ℕ → List Waiting → ℕ → Entry → Entry
looked_at now gs i x = with_granted (given_grants now gs i x.locks_granted) (with_locks (given_exclusive gs i || x.exclusive) (given_shared gs i x.shared) x)

or_true : (a : Bool) → (a || true) ≡ true
or_true true = refl
or_true false = refl

grant_look : (now : ℕ) (w : Waiting) (gs : List Waiting) (i : ℕ) (x : Entry) (b : Bool) (k : List ℕ) → eqb w.slot i ≡ b → w.string ≡ k →
    looked_at now gs i (cond b (give_at now k x) x) ≡ looked_at now (w ∷ gs) i x
grant_look now w gs i x true [] e q =
    rw (e, q) (ap (λ b. with_granted (given_grants now gs i (more_granted now x.locks_granted)) (with_locks b (given_shared gs i x.shared) x))
    (or_true (given_exclusive gs i)))
grant_look now w gs i x true (y ∷ k) e q = rw (e, q)
grant_look now w gs i x false k e q = rw e

pub pass_sized : {now : ℕ} {es es' : List Entry} {ws vs gs : List Waiting} → OldestFirst now es ws es' vs gs → length es' ≡ length es
pass_sized pass_end = refl
pass_sized (pass_grant {es = es} w m l) = pass_sized l ∙ length-set es w.slot _
pass_sized (pass_wait w m l) = pass_sized l

flip : (a b : ℕ) → eqb a b ≡ eqb b a
flip a b = go (same? a b)
  where
    go : (a ≡ b) ⊎ (a ≡ b → ⊥) → eqb a b ≡ eqb b a
    go (inl e) = eq-eqb a b e ∙ sym (eq-eqb b a (sym e))
    go (inr n) = ne_eqb a b n ∙ sym (ne_eqb b a (λ e. n (sym e)))

pub pass_each : (now : ℕ) {es es' : List Entry} {ws vs gs : List Waiting} → OldestFirst now es ws es' vs gs → (i : ℕ) → i < length es → at es' i ≡ looked_at now gs i (at es i)
pass_each now pass_end i l = refl
pass_each now (pass_grant {es = es} {gs = gs} w m p) i l =
    pass_each now p i (rw (length-set es w.slot (give_at now w.string (at es w.slot))) l)
    ∙ ap (looked_at now gs i) (touch es w.slot (give_at now w.string) (give_at now w.string (at es w.slot)) blank i l refl)
    ∙ ap (λ b. looked_at now gs i (cond b (give_at now w.string (at es i)) (at es i))) (flip i w.slot)
    ∙ grant_look now w gs i (at es i) (eqb w.slot i) w.string refl refl
pass_each now (pass_wait w m p) i l = pass_each now p i l

module _ (now : ℕ) (es es' : List Entry) (ws vs gs : List Waiting) where
  pub look_sized : (b : Bool) → Look now b es ws es' vs gs → length es' ≡ length es
  look_sized true p = pass_sized p
  look_sized false p = ap length p.0

  pub look_each : (b : Bool) → Look now b es ws es' vs gs → (i : ℕ) → i < length es → at es' i ≡ looked_at now gs i (at es i)
  look_each true p i l = pass_each now p i l
  look_each false p i l = ap (λ (x : List Entry). at x i) p.0 ∙ ap (λ (gs : List Waiting). looked_at now gs i (at es i)) (sym p.2)

-- No answer after the next question: of every call, by what it sends (the table of locality) and by the tie.
use mathlib.Core.Path.{◌≡◌, refl, sym, ap, ap₂, ◌∙◌}
use mathlib.Core.Bool.{Bool, true, false, not, ◌&&◌, ◌||◌, cond, false≢true}
use mathlib.Core.List.{List, [], ◌∷◌, ◌++◌}
use Prim.Native.Nat.{ℕ, zero, suc}
use lib.Dec.{eqb}
use lib.ListN.{get_or, set}
use borrow.Author.Tests.{eqb-true, eq-eqb}
use Rattle.wire.specs.Message.{header}
use Rattle.wire.specs.Frame.{Frame, frame_of}
use Rattle.wire.specs.Class.{one_of}
use Rattle.model.specs.Sizes.{no_connection}
use Rattle.model.specs.Lists.{all, any}
use Rattle.model.specs.State.{Server, Entry, Connection, at, live, slot_of_number, exchange_at, connection_at, closed_connection, fresh, Making}
use Rattle.model.specs.Interface.{Event, Event.opening, Event.delivery, Event.cut, Event.clock, Event.answer, Event.status, Event.setting, Outcome.more_needed}
use Rattle.model.specs.Interface.{Outcome.skipped, Outcome.held, Outcome.ignored, Outcome.error_sent, Outcome.closed, Outcome.acted, Reply, Reply.refused}
use Rattle.model.specs.Interface.{Reply.done, Reply.withheld, Reply.took}
use Rattle.model.specs.Scan.{Scan, Scan.empty, Scan.few, Scan.wrong, Scan.skipping, Scan.long, Scan.part, Scan.whole}
use Rattle.model.specs.Place.{Role}
use Rattle.model.specs.Locks.{change}
use Rattle.model.specs.Checks.{Verdict, Verdict.v_more, Verdict.v_skipped, Verdict.v_held, Verdict.v_ignored, Verdict.v_closed, Verdict.v_acts, Verdict.v_error, Verdict.v_fatal}
use Rattle.model.specs.Exchange.{answer_number}
use Rattle.model.specs.Acts
use Rattle.model.specs.Refusals.{causes, refusal}
use Rattle.model.specs.Step.{answer_type, withholds, channels, shut_all, effect, received, plan, answered, finish, step, final, log}
use Rattle.model.specs.Canonical.{kept}
use Rattle.model.specs.Possible.{AllPossible}
use Rattle.model.specs.Outcomes.{owed_in}
use Rattle.model.specs.LockModel.{Session, own, second_connection}
use Rattle.model.specs.Agreement.{as_session}
use Rattle.model.specs.Deciding.{model_after}
use Rattle.model.specs.Tie.{Track, said}
use Rattle.model.specs.Happening.{seen_delivery, happened}
use Rattle.model.specs.Locality.{at_call}
use Rattle.model.specs.NextQuestion.{is_answer, question_unread, first_connection, synchronous_of, asynchronous_of, owes, Answered, NextQuestion}
use Rattle.model.specs.Sensing.{service_after}
use Rattle.model.specs.MessageTypes.{Data, DataEND}
use Rattle.model.proofs.Basics.{and_l, and_r, not_of, not_off, not_not, all_set}
use Rattle.claims.proofs.Fits.{uncaused, inv_run}
use Rattle.claims.proofs.Numbers.{live_found}
use Rattle.claims.proofs.Seen.{own_seen, channel_seen}
use Rattle.claims.proofs.Agreement.{agreement}
use Rattle.claims.proofs.Owed.{acts_connections}
use Rattle.claims.proofs.OnlyWhole.{owed_run}
use Rattle.claims.proofs.Tied.{tie, track_run}
use Rattle.claims.proofs.Locality.{local_call}
use Rattle.claims.proofs.SentTypes.{Mute, none_sent}

-- session n, and the remainder to skip on its synchronous connection
abbrev session_of : Server → ℕ → Entry
session_of d n = at d.locks.entries (slot_of_number d.locks.entries n)

abbrev to_skip : Server → ℕ → ℕ
to_skip d n = (connection_at d.rest (session_of d n).synchronous).remainder

-- a connection that is not open has nothing to skip
abbrev shut : Connection → Bool
shut y = y.is_open || eqb y.remainder 0

shut_all_lem : (cs : List Connection) (xs : List ℕ) → all shut cs ≡ true → all shut (shut_all cs xs) ≡ true
shut_all_lem cs [] a = a
shut_all_lem cs (x ∷ xs) a = shut_all_lem (set cs x closed_connection) xs (all_set shut cs x closed_connection refl a)

shut_at : (cs : List Connection) (j : ℕ) → all shut cs ≡ true → shut (get_or cs j closed_connection) ≡ true
shut_at [] j a = refl
shut_at (y ∷ cs) zero a = and_l (shut y) _ a
shut_at (y ∷ cs) (suc j) a = shut_at cs j (and_r (shut y) _ a)

effect_shut : (v : Verdict) (s : Scan) (r : Role) (d : Server) (i c : ℕ) → all shut d.rest.connections ≡ true → all shut (effect v s r d i c).rest.connections ≡ true
unfolding effect
effect_shut v_more s r d i c a = a
effect_shut v_held s r d i c a = a
effect_shut v_skipped s r d i c a = all_set shut d.rest.connections c _ refl a
effect_shut v_ignored s r d i c a = a
effect_shut (v_error n) s r d i c a = all_set shut d.rest.connections c _ refl a
effect_shut (v_fatal n) s r d i c a = shut_all_lem d.rest.connections (channels d c) a
effect_shut v_closed s r d i c a = shut_all_lem d.rest.connections (channels d c) a
effect_shut v_acts empty r d i c a = a
effect_shut v_acts few r d i c a = a
effect_shut v_acts wrong r d i c a = a
effect_shut v_acts (skipping k) r d i c a = a
effect_shut v_acts (long h) r d i c a = a
effect_shut v_acts (part h) r d i c a = a
effect_shut v_acts (whole h p) r d i c a = ap (all shut) (acts_connections r d i c h p) ∙ a

plan_shut : (d : Server) (e : Event) → all shut d.rest.connections ≡ true → all shut (plan d e).rest.connections ≡ true
unfolding plan received
plan_shut d (opening c) a = all_set shut d.rest.connections c _ refl a
plan_shut d (delivery c bs room) a = effect_shut _ _ _ d _ c a
plan_shut d (cut c room) a = shut_all_lem d.rest.connections (channels d c) a
plan_shut d (clock t room) a = a
plan_shut d (answer n p end sh room) a = a
plan_shut d (status b) a = a
plan_shut d (setting s) a = a

step_shut : (d : Server) (e : Event) → all shut d.rest.connections ≡ true → all shut (step d e).server.rest.connections ≡ true
unfolding step answered finish
step_shut d e a = go (refusal d e)
  where
    go : (k : ℕ) → all shut (answered k d e).server.rest.connections ≡ true
    go zero = plan_shut d e a
    go (suc k) = a

run_shut : (es : List Event) (d : Server) → all shut d.rest.connections ≡ true → all shut (final d es).rest.connections ≡ true
unfolding final
run_shut [] d a = a
run_shut (e ∷ es) d a = run_shut es (step d e).server (step_shut d e a)

-- what the calls say that a connection owes bounds what it skips
skips_none : (v : Making) (es : List Event) (c : ℕ) → AllPossible es → owed_in (λ c. 0) (kept (log (fresh v) es)) c ≡ 0 → (connection_at (final (fresh v) es).rest c).remainder ≡ 0
skips_none v es c p z = go (connection_at (final (fresh v) es).rest c).is_open refl
  where
    go : (b : Bool) → (connection_at (final (fresh v) es).rest c).is_open ≡ b → (connection_at (final (fresh v) es).rest c).remainder ≡ 0
    go true o = owed_run v es p c o ∙ z
    go false o = eqb-true _ 0 (rw o at (shut_at (final (fresh v) es).rest.connections c (run_shut es (fresh v) refl)))

-- the connections that the calls tell are the session's
first_found : (ss : List Session) (n a : ℕ) → all (λ x. not (eqb x.number n && not (eqb (get_or x.connections 0 no_connection) a))) ss ≡ true →
    all (λ x. not (eqb x.number n && true)) ss ≡ false → first_connection n ss ≡ a
first_found [] n a h k = absurd (false≢true (sym k))
first_found (x ∷ ss) n a h k = go (eqb x.number n) h k (λ h k. first_found ss n a h k)
  where
    go : (b : Bool) → (not (b && not (eqb (get_or x.connections 0 no_connection) a)) && all (λ x. not (eqb x.number n && not (eqb (get_or x.connections 0 no_connection) a))) ss) ≡ true
        → (not (b && true) && all (λ x. not (eqb x.number n && true)) ss) ≡ false
        → (all (λ x. not (eqb x.number n && not (eqb (get_or x.connections 0 no_connection) a))) ss ≡ true → all (λ x. not (eqb x.number n && true)) ss ≡ false → first_connection n ss ≡ a)
        → cond b (get_or x.connections 0 no_connection) (first_connection n ss) ≡ a
    go true h k r = eqb-true _ _ (sym (not_not _) ∙ and_l (not (not (eqb (get_or x.connections 0 no_connection) a))) _ h)
    go false h k r = r h k

module _ (v : Making) (es : List Event) (n : ℕ) (alive : live (session_of (final (fresh v) es) n) ≡ true) where
  abbrev e₁ : Entry
  e₁ = session_of (final (fresh v) es) n

  own_is : (p : Session → Bool) → own e₁.number p (model_after v es).sessions ≡ p (as_session e₁)
  own_is p = own_seen (model_after v es).sessions (final (fresh v) es).locks.entries (agreement v es).locks.sessions (inv_run v es).sound.firm
      (slot_of_number (final (fresh v) es).locks.entries n) alive p

  pub first_is : synchronous_of v es n ≡ e₁.synchronous
  first_is =
      ap (λ (m : ℕ). first_connection m (model_after v es).sessions) (sym (live_found (final (fresh v) es).locks.entries n alive))
      ∙ first_found (model_after v es).sessions e₁.number e₁.synchronous
      (not_off _ (own_is (λ x. not (eqb (get_or x.connections 0 no_connection) e₁.synchronous)) ∙ ap not (eq-eqb e₁.synchronous e₁.synchronous refl)))
      (not_of _ (own_is (λ x. true)))

  pub second_is : asynchronous_of v es n ≡ e₁.asynchronous
  second_is =
      ap (λ (m : ℕ). second_connection m (model_after v es).sessions) (sym (live_found (final (fresh v) es).locks.entries n alive))
      ∙ channel_seen (model_after v es).sessions (final (fresh v) es).locks.entries (agreement v es).locks.sessions (inv_run v es).sound.firm
      (slot_of_number (final (fresh v) es).locks.entries n) alive

  nothing_to_skip : AllPossible es → owes v es n ≡ 0 → to_skip (final (fresh v) es) n ≡ 0
  nothing_to_skip p z = skips_none v es e₁.synchronous p (ap (owed_in (λ c. 0) (kept (log (fresh v) es))) (sym first_is) ∙ z)

module _ (d : Server) where
  -- a call by which no answer was sent sends none
  mute : (e : Event) → Mute (at_call d e) → any is_answer (step d e).frames ≡ true → ⊥
  mute e q a =
      let n = none_sent (one_of (Data ∷ DataEND ∷ [])) refl d (at_call d e) (step d e) (local_call d e) q in
      false≢true (sym (ap not n) ∙ a)

  -- an answer that was sent was not withheld
  sends : (n : ℕ) (x : List ℕ) (end : Bool) (sh : List ℕ) (room : ℕ) → any is_answer (step d (answer n x end sh room)).frames ≡ true
      → (refusal d (answer n x end sh room) ≡ 0) × ((step d (answer n x end sh room)).reply ≡ done) × (withholds d n end sh ≡ false)
  unfolding step answered plan finish change
  sends n x end sh room a = go (refusal d (answer n x end sh room)) a
    where
      by : (w : Bool) → any is_answer (cond w (Acts.interruptions (session_of d n) (header sh).param)
          (frame_of (session_of d n).synchronous (answer_type end) 0 (answer_number (exchange_at d.rest (slot_of_number d.locks.entries n))) x
          ∷ service_after d n x) ++ []) ≡ true
          → (cond w withheld done ≡ done) × (w ≡ false)
      by true a = absurd (false≢true a)
      by false a = (refl, refl)

      go : (k : ℕ) → any is_answer (answered k d (answer n x end sh room)).frames ≡ true → (k ≡ 0) × ((answered k d (answer n x end sh room)).reply ≡ done) × (withholds d n end sh ≡ false)
      go (suc k) a = absurd (false≢true a)
      go zero a = let r = by (withholds d n end sh) a in (refl, r.0, r.1)

-- any other call than an answer
delivered : (o : _) (c : ℕ) (bs : List ℕ) (k n : ℕ) (fs : List Frame) → Mute (seen_delivery o c bs k n fs)
delivered more_needed c bs k n fs = tt
delivered skipped c bs k n fs = tt
delivered held c bs k n fs = tt
delivered ignored c bs k n fs = tt
delivered error_sent c bs k n fs = tt
delivered closed c bs k n fs = tt
delivered acted c bs k n fs = tt

abbrev NoAnswer : Event → Type 0
NoAnswer (opening c) = Unit {0}
NoAnswer (delivery c bs room) = Unit {0}
NoAnswer (cut c room) = Unit {0}
NoAnswer (clock t room) = Unit {0}
NoAnswer (answer n p end sh room) = ⊥
NoAnswer (status b) = Unit {0}
NoAnswer (setting s) = Unit {0}

other : (e : Event) (r : Reply) (fs : List Frame) → NoAnswer e → Mute (happened e r fs)
other (answer n p end sh room) r fs q = absurd q
other (opening c) (refused n) fs q = tt
other (opening c) done fs q = tt
other (opening c) withheld fs q = tt
other (opening c) (took o k n) fs q = tt
other (delivery c bs room) (refused n) fs q = tt
other (delivery c bs room) done fs q = tt
other (delivery c bs room) withheld fs q = tt
other (delivery c bs room) (took o k n) fs q = delivered o c bs k n fs
other (cut c room) (refused n) fs q = tt
other (cut c room) done fs q = tt
other (cut c room) withheld fs q = tt
other (cut c room) (took o k n) fs q = tt
other (clock t room) (refused n) fs q = tt
other (clock t room) done fs q = tt
other (clock t room) withheld fs q = tt
other (clock t room) (took o k n) fs q = tt
other (status b) (refused n) fs q = tt
other (setting s) (refused n) fs q = tt
other (status b) done fs q = tt
other (setting s) done fs q = tt
other (status b) withheld fs q = tt
other (setting s) withheld fs q = tt
other (status b) (took o k n) fs q = tt
other (setting s) (took o k n) fs q = tt

module _ (v : Making) (es : List Event) where
  abbrev d : Server
  d = final (fresh v) es

  not_answer : (e : Event) → NoAnswer e → any is_answer (step d e).frames ≡ true → Answered v es e
  not_answer e q a = absurd (mute d e (other e (step d e).reply (step d e).frames q) a)

  -- it is live; the mode that the log tells is its
  alive_is : (n : ℕ) (x : List ℕ) (end : Bool) (sh : List ℕ) (room : ℕ) → refusal d (answer n x end sh room) ≡ 0 → live (session_of d n) ≡ true
  unfolding refusal causes
  alive_is n x end sh room q = not_off _ (uncaused (causes d (answer n x end sh room)) refl q).1.0

  mode_is : (n : ℕ) (x : List ℕ) (end : Bool) (sh : List ℕ) (room : ℕ) → refusal d (answer n x end sh room) ≡ 0 →
      (exchange_at d.rest (slot_of_number d.locks.entries n)).overlap ≡ (said v es n).overlap
  mode_is n x end sh room q = ap (λ (t : Track). t.overlap) (track_run v es n (alive_is n x end sh room q))

  -- what withholds it, in synchronized mode with nothing to skip
  tests : (n : ℕ) (sh : List ℕ) → (exchange_at d.rest (slot_of_number d.locks.entries n)).overlap ≡ false → to_skip d n ≡ 0 → withholds d n true sh ≡ question_unread sh
  tests n sh m r = rw (m, eq-eqb (to_skip d n) 0 r)

  answers_in : (e : Event) → any is_answer (step d e).frames ≡ true → Answered v es e
  answers_in (opening c) a = not_answer (opening c) tt a
  answers_in (delivery c bs room) a = not_answer (delivery c bs room) tt a
  answers_in (cut c room) a = not_answer (cut c room) tt a
  answers_in (clock t room) a = not_answer (clock t room) tt a
  answers_in (status b) a = not_answer (status b) tt a
  answers_in (setting s) a = not_answer (setting s) tt a
  answers_in (answer n x end sh room) a =
      let s = sends d n x end sh room a in
      record {
        session = n;
        payload = x;
        end = end;
        unread = sh;
        room = room;
        given = refl;
        reply = s.1;
        tied = tie v es n x end sh room s.1;
        in_time = λ p f o r. sym (tests n sh (mode_is n x end sh room s.0 ∙ o) (nothing_to_skip v es n (alive_is n x end sh room s.0) p r)) ∙ ap (λ b. withholds d n b sh) (sym f) ∙ s.2;
      }

  withheld_so : (n : ℕ) (x sh : List ℕ) (room : ℕ) → refusal d (answer n x true sh room) ≡ 0 → withholds d n true sh ≡ true
      → ((step d (answer n x true sh room)).reply ≡ withheld) × ((step d (answer n x true sh room)).frames ≡ Acts.interruptions (session_of d n) (header sh).param)
  unfolding step answered plan finish change
  withheld_so n x sh room q w = (
    ap (λ k. (answered k d (answer n x true sh room)).reply) q ∙ ap (λ b. cond b withheld done) w,
    ap (λ k. (answered k d (answer n x true sh room)).frames) q
        ∙ ap (λ b. cond b (Acts.interruptions (session_of d n) (header sh).param)
        (frame_of (session_of d n).synchronous (answer_type true) 0 (answer_number (exchange_at d.rest (slot_of_number d.locks.entries n))) x
        ∷ service_after d n x) ++ []) w,
  )

  pub next_question : NextQuestion v es
  next_question =
      record {
        answers = answers_in;
        withholds = λ n x sh room p q o r u.
            let i = alive_is n x true sh room q in
            let w = withheld_so n x sh room q (tests n sh (mode_is n x true sh room q ∙ o) (nothing_to_skip v es n i p r) ∙ u) in (
              w.0,
              w.1 ∙ ap₂ (λ (a b : ℕ). frame_of a 14 0 (header sh).param [] ∷ frame_of b 13 0 (header sh).param [] ∷ []) (sym (second_is v es n i)) (sym (first_is v es n i)),
            );
      }

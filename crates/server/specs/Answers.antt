-- An instrument's answer: its refusals in 01's order, from the words that were read, and its frame. Assumes nothing.
use Rattle.std.specs.Prelude.{◌≡◌, refl, Bool, true, false, not, ◌||◌, cond, List, [], ◌∷◌, ◌++◌, ℕ, ◌≤◌, ◌<◌, ltb, length}
use Rattle.std.proofs.Common.{sym, subst, ◌∙◌, append-nil}
use Rattle.std.proofs.Math.Path.{ap}
use borrow.Author.Tests.{lt-ltb, le-ltb}
use Rattle.wire.specs.Frame.{Frame, bytes_of, written}
use Rattle.wire.specs.Message.{header}
use Rattle.readings.specs.Watch.{Limits, refused}
use Rattle.model.specs.Sizes.{output_minimum, payload_limit}
use Rattle.model.specs.State.{Server, at, live, slot_of_number, exchange_at}
use Rattle.model.specs.Interface.{Event.answer, Reply.done, Reply.withheld, answered_answer, Event.setting, Setting.watch}
use Rattle.model.specs.Exchange.{may_answer, interrupted}
use Rattle.model.specs.Acts.{interruptions}
use Rattle.model.specs.Canonical.{omits}
use Rattle.model.specs.Refusals.{causes, refusal, first_cause, Cause, small_room}
use Rattle.model.specs.Sensing.{service_at}
use Rattle.state.specs.Tidy.{Tidy}
use Rattle.state.specs.View.{Memory, view}
use Rattle.exchanges.specs.Events.{Sends, answer_frame, answered_as, answer_finishes}
use Rattle.exchanges.specs.Interrupted.{Noted, withheld_at}
use Rattle.server.specs.declared.Answered.{Answered}
use Rattle.server.specs.Causes.{short_room, enough_room}
use Rattle.server.specs.Events.{Replied, answered_numbers, taken_answer}

-- the causes at slot i of an answer of n bytes, behind the buffer's
unfoldable pub answer_row : Server → ℕ → ℕ → List Cause
answer_row d i n =
    record { test = not (live (at d.locks.entries i)); number = 8 }
    ∷ record { test = not (may_answer (at d.locks.entries i) (exchange_at d.rest i)); number = 5 }
    ∷ record { test = ltb payload_limit n || ltb (exchange_at d.rest i).client_size n; number = 6 }
    ∷ []

-- the first of them; 0: the answer is taken
unfoldable pub refused_at : Server → ℕ → ℕ → ℕ
refused_at d i n = first_cause (answer_row d i n)

module _ (d : Server) (i n : ℕ) where
  pub refused_nobody : live (at d.locks.entries i) ≡ false → refused_at d i n ≡ 8
  unfolding refused_at answer_row
  refused_nobody l = rw l

  pub refused_unasked : live (at d.locks.entries i) ≡ true → may_answer (at d.locks.entries i) (exchange_at d.rest i) ≡ false → refused_at d i n ≡ 5
  unfolding refused_at answer_row
  refused_unasked l a = rw (l, a)

  pub refused_long : live (at d.locks.entries i) ≡ true → may_answer (at d.locks.entries i) (exchange_at d.rest i) ≡ true → payload_limit < n → refused_at d i n ≡ 6
  unfolding refused_at answer_row
  refused_long l a q = rw (l, a, lt-ltb payload_limit n q)

  pub refused_over : live (at d.locks.entries i) ≡ true → may_answer (at d.locks.entries i) (exchange_at d.rest i) ≡ true → n ≤ payload_limit →
      (exchange_at d.rest i).client_size < n → refused_at d i n ≡ 6
  unfolding refused_at answer_row
  refused_over l a q r = rw (l, a, le-ltb payload_limit n q, lt-ltb (exchange_at d.rest i).client_size n r)

  pub not_refused : live (at d.locks.entries i) ≡ true → may_answer (at d.locks.entries i) (exchange_at d.rest i) ≡ true → n ≤ payload_limit →
      n ≤ (exchange_at d.rest i).client_size → refused_at d i n ≡ 0
  unfolding refused_at answer_row
  not_refused l a q r = rw (l, a, le-ltb payload_limit n q, le-ltb (exchange_at d.rest i).client_size n r)

module _ (d : Server) (n i : ℕ) (p : List ℕ) (end : Bool) (sh : List ℕ) (room : ℕ) (found : slot_of_number d.locks.entries n ≡ i) where
  at_row : causes d (answer n p end sh room) ≡ small_room room ∷ answer_row d i (length p)
  unfolding causes answer_row
  at_row = ap (λ (j : ℕ). small_room room ∷ answer_row d j (length p)) found

  pub answer_short_room : room < output_minimum → refusal d (answer n p end sh room) ≡ 7
  answer_short_room = short_room d (answer n p end sh room) room (answer_row d i (length p)) at_row

  -- with room enough the slot's row decides
  pub answer_refused : output_minimum ≤ room → refusal d (answer n p end sh room) ≡ refused_at d i (length p)
  unfolding refused_at
  answer_refused = enough_room d (answer n p end sh room) room (answer_row d i (length p)) at_row

-- 02, Q-5: an answer that is not refused, withheld or sent: the exchange, the frames, the numbers
pub record Gives (d : Server) (i : ℕ) (end : Bool) (p sh : List ℕ) (r : Answered) (d' : Server) (out out' : List ℕ) : Type 0 where
  pub server : d' ≡ (answered_as d i p end sh (withheld_at d i end sh)).server
  pub buffer : out' ≡ written out (answered_as d i p end sh (withheld_at d i end sh)).frames
  pub numbers : r ≡ record { refusal = 0; withheld = cond (withheld_at d i end sh) 1 0; output = length (bytes_of (answered_as d i p end sh (withheld_at d i end sh)).frames) }

module _ (d : Server) (i : ℕ) (end : Bool) (p sh : List ℕ) (r : Answered) (d' : Server) (out out' : List ℕ) (k : ℕ) where
  gives : (b : Bool) → withheld_at d i end sh ≡ b → d' ≡ (answered_as d i p end sh b).server → out' ≡ written out (answered_as d i p end sh b).frames
      → r ≡ record { refusal = 0; withheld = cond b 1 0; output = length (bytes_of (answered_as d i p end sh b).frames) } → Gives d i end p sh r d' out out'
  gives b e v o f =
      record {
        server = v ∙ ap (λ (x : Bool). (answered_as d i p end sh x).server) (sym e);
        buffer = o ∙ ap (λ (x : Bool). written out (answered_as d i p end sh x).frames) (sym e);
        numbers = f ∙ ap (λ (x : Bool). record { refusal = 0; withheld = cond x 1 0; output = length (bytes_of (answered_as d i p end sh x).frames) }) (sym e);
      }

  pub gives_withheld : withheld_at d i end sh ≡ true → Noted d i interrupted (interruptions (at d.locks.entries i) (header sh).param) d' out out' k
      → r ≡ record { refusal = 0; withheld = 1; output = k } → Gives d i end p sh r d' out out'
  gives_withheld e n f = gives true e n.server n.buffer (f ∙ ap (λ (x : ℕ). record { refusal = 0; withheld = 1; output = x }) n.place)

  pub gives_sent : withheld_at d i end sh ≡ false → Sends d i end p d' out out' k → r ≡ record { refusal = 0; withheld = 0; output = k } → Gives d i end p sh r d' out out'
  gives_sent e a f =
      let z : answer_frame d i end p ∷ service_at d i p ≡ (answer_frame d i end p ∷ service_at d i p) ++ [] = sym (append-nil (answer_frame d i end p ∷ service_at d i p)) in
      gives false e a.server (a.buffer ∙ ap (written out) z) (f ∙ ap (λ (x : ℕ). record { refusal = 0; withheld = 0; output = x }) (a.place ∙ ap (λ (fs : List Frame). length (bytes_of fs)) z))

pub answer_call : (n i : ℕ) (p : List ℕ) (end : Bool) (sh : List ℕ) (room : ℕ) (r : Answered) (m m' : Memory) (out out' : List ℕ) →
    slot_of_number (view m).locks.entries n ≡ i → refusal (view m) (answer n p end sh room) ≡ 0
    → Gives (view m) i end p sh r (view m') out out' → (Tidy m → Tidy m') → Replied (answer n p end sh room) r m m' out out'
answer_call n i p end sh room r m m' out out' e q a t =
    let b : Bool = withheld_at (view m) i end sh in
    taken_answer (answer n p end sh room) (answered_as (view m) i p end sh b) r m m' out out' q (answer_finishes (view m) n i p end sh room e b refl) (kept b) a.server a.buffer
    (ap answered_numbers a.numbers ∙ told b (length (bytes_of (answered_as (view m) i p end sh b).frames))) t
  where
    kept : (b : Bool) → omits (cond b withheld done) ≡ false
    kept true = refl
    kept false = refl

    told : (b : Bool) (k : ℕ) → record { refusal = 0; withheld = cond b 1 0; output = k } ≡ answered_answer (cond b withheld done) k
    told true k = refl
    told false k = refl

-- the same END bit, however it was computed
pub same_end : (d d' : Server) (i : ℕ) (end end' : Bool) (p sh : List ℕ) (r : Answered) (out out' : List ℕ) → end ≡ end' → Gives d i end' p sh r d' out out' → Gives d i end p sh r d' out out'
same_end d d' i end end' p sh r out out' h a = subst (λ (x : Bool). Gives d i x p sh r d' out out') (sym h) a

-- 02, Q-11: a watch: 8, then 10, by what was found
module _ (d : Server) (n i : ℕ) (l : Limits) (found : slot_of_number d.locks.entries n ≡ i) where
  watch_row : (j : ℕ) → List Cause
  watch_row j = record { test = not (live (at d.locks.entries j)); number = 8 } ∷ record { test = refused l; number = 10 } ∷ []

  pub watch_nobody : live (at d.locks.entries i) ≡ false → refusal d (setting (watch n l)) ≡ 8
  unfolding refusal causes watch_row
  watch_nobody v = ap (λ (j : ℕ). first_cause (watch_row j)) found ∙ rw v

  pub watch_bad : live (at d.locks.entries i) ≡ true → refused l ≡ true → refusal d (setting (watch n l)) ≡ 10
  unfolding refusal causes watch_row
  watch_bad v e = ap (λ (j : ℕ). first_cause (watch_row j)) found ∙ rw (v, e)

  pub watch_taken : live (at d.locks.entries i) ≡ true → refused l ≡ false → refusal d (setting (watch n l)) ≡ 0
  unfolding refusal causes watch_row
  watch_taken v e = ap (λ (j : ℕ). first_cause (watch_row j)) found ∙ rw (v, e)

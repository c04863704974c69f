-- The events that are no deliveries, but for a cut and the clock: a connection opens, the status byte changes, the instrument answers. What
-- the code's stores do is the model's plan. Assumes nothing.
use Rattle.std.specs.Prelude.{◌≡◌, Bool, true, false, cond, ℕ, ◌+◌, ◌-◌, ◌%◌, ◌<◌, ◌≤◌, set}
use Rattle.std.proofs.Math.Path.{refl, sym, ap, subst}
use Rattle.std.proofs.Common.{◌∙◌, mod-eq_of_lt, zero-add, length-append, eq-eqb, ne_eqb}
use mathlib.Core.List.{List, [], ◌∷◌, ◌++◌}
use Rattle.std.proofs.Math.ListN.{length}
use Rattle.wire.specs.Frame.{Frame, frame_of, frame_bytes, bytes_of, written, length_frame, bytes_one}
use Rattle.wire.specs.Message.{header}
use Rattle.wire.specs.Splice.{splice, splice_then}
use Rattle.readings.specs.Request.{request_code}
use Rattle.readings.specs.Watch.{Limits}
use Rattle.model.specs.State.{Exchange, Rest, Server, at, slot_of_number, exchange_at, open_connection, with_connection, with_exchange, with_status, Entry, sensing_at, with_sensing, with_sensings}
use Rattle.model.specs.Exchange.{number_asked, answer_number, answered_with, interrupted}
use Rattle.model.specs.Interface.{Event.opening, Event.answer, Event.status, Reply.done, Reply.withheld, Event.setting, Setting.watch}
use Rattle.model.specs.Locks.{change}
use Rattle.model.specs.Acts.{interruptions}
use Rattle.model.specs.Step.{Result, finish, plan, answer_type}
use Rattle.model.specs.Sensing.{armed, sensed, trips_first, requested, service_at, setting_sensings}
use Rattle.model.specs.MessageTypes.{AsyncServiceRequest}
use Rattle.state.specs.Change.{on_rest, on_exchange, exchange_with, single_with}
use Rattle.state.specs.View.{asked_of}
use Rattle.sessions.specs.Synchronous.{with_slot, slot_twice, slot_then}
use Rattle.sessions.specs.Mode.{counted}
use Rattle.exchanges.specs.Interrupted.{withheld_at}

-- one store is the status byte
pub status_stored : (d d₁ : Server) (b : ℕ) → b < 256 → d₁ ≡ on_rest d (single_with 2 b) → d₁ ≡ on_rest d (λ (r : Rest). with_status r b)
status_stored d d₁ b h e = e ∙ ap (λ (x : ℕ). on_rest d (λ (r : Rest). with_status r x)) (mod-eq_of_lt h)

-- an answer's number: in synchronized mode what is asked, from the word that was read; in overlap mode the count
module _ (x : Exchange) where
  pub counted_number : x.overlap ≡ true → (n : ℕ) → x.count ≡ n → answer_number x ≡ n
  unfolding answer_number
  counted_number o n e = rw o e

  module _ (v : ℕ) (o : x.overlap ≡ false) (e : exchange_with 1 v x ≡ x) where
    asked_read : x.asked ≡ asked_of v
    asked_read = sym (ap (λ (y : Exchange). y.asked) e)

    pub nothing_number : v ≡ 0 → answer_number x ≡ 0
    unfolding answer_number
    nothing_number h = rw o (ap number_asked asked_read ∙ rw (eq-eqb v 0 h))

    pub asked_number_lem : (v ≡ 0 → ⊥) → answer_number x ≡ (v - 1) % 4294967296
    unfolding answer_number
    asked_number_lem h = rw o (ap number_asked asked_read ∙ rw (ne_eqb v 0 h))

-- an answer without END: message available goes on, and it is counted; with END nothing is asked any more, and an RMT
-- is expected
module _ (d d₁ d₂ : Server) (i : ℕ) (e₁ : d₁ ≡ on_exchange d i (exchange_with 2 1)) (e₂ : d₂ ≡ on_rest d₁ (with_slot i counted)) where
  answered : d₂ ≡ on_rest d (with_slot i (answered_with false))
  answered = slot_twice d d₁ d₂ i (exchange_with 2 1) counted e₁ e₂

  pub answered_part : (end : Bool) → end ≡ false → d₂ ≡ on_rest d (λ (r : Rest). with_exchange r i (answered_with end (exchange_at r i)))
  answered_part end q = rw q answered

  pub answered_whole : (end : Bool) → end ≡ true → (d₃ d₄ : Server) → d₃ ≡ on_exchange d₂ i (exchange_with 1 0) → d₄ ≡ on_exchange d₃ i (exchange_with 7 1)
      → d₄ ≡ on_rest d (λ (r : Rest). with_exchange r i (answered_with end (exchange_at r i)))
  answered_whole end q d₃ d₄ e₃ e₄ =
      rw q (slot_then d d₃ d₄ i (λ (x : Exchange). exchange_with 1 0 (answered_with false x)) (exchange_with 7 1) (slot_then d d₂ d₃ i (answered_with false) (exchange_with 1 0) answered e₃) e₄)

-- the frame of an answer of slot i
abbrev pub answer_frame : Server → ℕ → Bool → List ℕ → Frame
answer_frame d i end p = frame_of (at d.locks.entries i).synchronous (answer_type end) 0 (answer_number (exchange_at d.rest i)) p

-- 02, Q-11: a request for service
abbrev pub request_frame : Entry → ℕ → Frame
request_frame e b = frame_of e.asynchronous AsyncServiceRequest (request_code b) 0 []

-- what sending an answer does; r is the place behind the frame
pub record Answers (d : Server) (i : ℕ) (end : Bool) (p : List ℕ) (d' : Server) (out out' : List ℕ) (r : ℕ) : Type 0 where
  pub server : d' ≡ on_rest d (λ (q : Rest). with_exchange q i (answered_with end (exchange_at q i)))
  pub buffer : out' ≡ written out (answer_frame d i end p ∷ [])
  pub place : r ≡ length (bytes_of (answer_frame d i end p ∷ []))

pub answers : (d : Server) (i : ℕ) (end : Bool) (p : List ℕ) (d' : Server) (out out' : List ℕ) (r c t n : ℕ)
    → d' ≡ on_rest d (λ (q : Rest). with_exchange q i (answered_with end (exchange_at q i)))
    → (at d.locks.entries i).synchronous ≡ c → answer_type end ≡ t → answer_number (exchange_at d.rest i) ≡ n
    → out' ≡ splice out 0 (frame_bytes (frame_of c t 0 n p)) → r ≡ 17 + length p
    → Answers d i end p d' out out' r
answers d i end p d' out out' r c t n v ec et en b q =
    let f : Frame = frame_of c t 0 n p in
    let z : f ≡ answer_frame d i end p = (λ k. frame_of (sym ec k) (sym et k) 0 (sym en k) p) in
    record {
      server = v;
      buffer = b ∙ ap (splice out 0) (sym (bytes_one f)) ∙ ap (λ (x : Frame). written out (x ∷ [])) z;
      place = q ∙ sym (length_frame f) ∙ ap length (sym (bytes_one f)) ∙ ap (λ (x : Frame). length (bytes_of (x ∷ []))) z;
    }

-- 02, Q-11: what an answer that is sent does with its readings: behind its frame stands the request for service, if it is the first to trip the watch
pub record Sends (d : Server) (i : ℕ) (end : Bool) (p : List ℕ) (d' : Server) (out out' : List ℕ) (r : ℕ) : Type 0 where
  pub server : d' ≡ on_rest d (λ (q : Rest). with_sensing (with_exchange q i (answered_with end (exchange_at q i))) i (sensed p (sensing_at q i)))
  pub buffer : out' ≡ written out (answer_frame d i end p ∷ service_at d i p)
  pub place : r ≡ length (bytes_of (answer_frame d i end p ∷ service_at d i p))

pub answer_long : (d d₁ : Server) (i : ℕ) (end : Bool) (p out out₁ : List ℕ) (n : ℕ) → Answers d i end p d₁ out out₁ n → n ≡ 17 + length p
answer_long d d₁ i end p out out₁ n a = a.place ∙ ap length (bytes_one (answer_frame d i end p)) ∙ length_frame (answer_frame d i end p)

module _ (d d₁ d₂ : Server) (i : ℕ) (end : Bool) (p out out₁ : List ℕ) (n : ℕ) (a : Answers d i end p d₁ out out₁ n)
    (v : d₂ ≡ on_rest d₁ (λ (q : Rest). with_sensing q i (sensed p (sensing_at q i)))) where
  left : d₂ ≡ on_rest d (λ (q : Rest). with_sensing (with_exchange q i (answered_with end (exchange_at q i))) i (sensed p (sensing_at q i)))
  left = v ∙ ap (λ (x : Server). on_rest x (λ (q : Rest). with_sensing q i (sensed p (sensing_at q i)))) a.server

  -- what was read behind the answer is as it was before it
  read_before : trips_first p (sensing_at d₁.rest i) ≡ trips_first p (sensing_at d.rest i)
  read_before = ap (λ (x : Server). trips_first p (sensing_at x.rest i)) a.server

  pub sends_answer : trips_first p (sensing_at d₁.rest i) ≡ false → Sends d i end p d₂ out out₁ n
  unfolding requested
  sends_answer t =
      let e : service_at d i p ≡ [] = ap (λ (b : Bool). requested b (at d.locks.entries i) d.rest.status) (sym read_before ∙ t) in
      record {
        server = left;
        buffer = a.buffer ∙ ap (λ (fs : List Frame). written out (answer_frame d i end p ∷ fs)) (sym e);
        place = a.place ∙ ap (λ (fs : List Frame). length (bytes_of (answer_frame d i end p ∷ fs))) (sym e);
      }

  pub sends_request : trips_first p (sensing_at d₁.rest i) ≡ true → (out₂ : List ℕ) → 17 + length p ≤ length out
      → out₂ ≡ splice out₁ n (frame_bytes (request_frame (at d₂.locks.entries i) d₂.rest.status)) → Sends d i end p d₂ out out₂ (n + 17)
  unfolding requested bytes_of
  sends_request t out₂ h b =
      let f : Frame = answer_frame d i end p in
      let g : Frame = request_frame (at d.locks.entries i) d.rest.status in
      let e : service_at d i p ≡ g ∷ [] = ap (λ (b : Bool). requested b (at d.locks.entries i) d.rest.status) (sym read_before ∙ t) in
      let z : n ≡ length (frame_bytes f) = a.place ∙ ap length (bytes_one f) in
      let l : length (frame_bytes f) ≤ length out = subst (λ (x : ℕ). x ≤ length out) (sym (length_frame f)) h in
      let same : request_frame (at d₂.locks.entries i) d₂.rest.status ≡ g = ap (λ (x : Server). request_frame (at x.locks.entries i) x.rest.status) left in
      record {
        server = left;
        buffer =
            b ∙ (λ k. splice (a.buffer k) (z k) (frame_bytes (same k))) ∙ ap (λ (x : List ℕ). splice (splice out 0 x) (length (frame_bytes f)) (frame_bytes g)) (bytes_one f)
            ∙ ap (λ (x : ℕ). splice (splice out 0 (frame_bytes f)) x (frame_bytes g)) (sym (zero-add (length (frame_bytes f))))
            ∙ splice_then out 0 (frame_bytes f) (length (frame_bytes f)) (frame_bytes g) refl (subst (λ (x : ℕ). x ≤ length out) (sym (zero-add (length (frame_bytes f)))) l)
            ∙ ap (λ (x : List ℕ). splice out 0 (frame_bytes f ++ x)) (sym (bytes_one g)) ∙ ap (λ (fs : List Frame). written out (f ∷ fs)) (sym e);
        place =
            ap (λ (x : ℕ). x + 17) z ∙ ap (λ (x : ℕ). length (frame_bytes f) + x) (sym (ap length (bytes_one g) ∙ length_frame g)) ∙ sym (length-append (frame_bytes f) (bytes_of (g ∷ [])))
            ∙ ap (λ (fs : List Frame). length (bytes_of (f ∷ fs))) (sym e);
      }

-- the model's results of the events; the answer is that of the slot of session n
pub opening_finishes : (d : Server) (c : ℕ) → finish d (plan d (opening c)) ≡ record { server = on_rest d (λ (r : Rest). with_connection r c (open_connection 0)); reply = done; frames = [] }
unfolding finish plan change
opening_finishes d c = refl

-- 02, Q-11: a watch that is set
pub watch_finishes : (d : Server) (n i : ℕ) (l : Limits) → slot_of_number d.locks.entries n ≡ i
    → finish d (plan d (setting (watch n l))) ≡ record { server = on_rest d (λ (r : Rest). with_sensing r i (armed l (sensing_at r i))); reply = done; frames = [] }
unfolding finish plan change setting_sensings
watch_finishes d n i l e = ap (λ (j : ℕ). record { server = on_rest d (λ (r : Rest). with_sensing r j (armed l (sensing_at r j))); reply = done; frames = [] }) e

pub status_finishes : (d : Server) (b : ℕ) → finish d (plan d (status b)) ≡ record { server = on_rest d (λ (r : Rest). with_status r b); reply = done; frames = [] }
unfolding finish plan change
status_finishes d b = refl

-- an answer that is withheld, or sent
abbrev pub answered_as : Server → ℕ → List ℕ → Bool → List ℕ → Bool → Result
answered_as d i p end sh b =
    record {
      server = on_rest d (λ (q : Rest). with_sensings (with_exchange q i (cond b (interrupted (exchange_at q i)) (answered_with end (exchange_at q i))))
          (cond b q.sensings (set q.sensings i (sensed p (sensing_at q i)))));
      reply = cond b withheld done;
      frames = cond b (interruptions (at d.locks.entries i) (header sh).param) (answer_frame d i end p ∷ service_at d i p) ++ [];
    }

module _ (d : Server) (n i : ℕ) (p : List ℕ) (end : Bool) (sh : List ℕ) (room : ℕ) (found : slot_of_number d.locks.entries n ≡ i) where
  pub answer_finishes : (b : Bool) → withheld_at d i end sh ≡ b → finish d (plan d (answer n p end sh room)) ≡ answered_as d i p end sh b
  unfolding finish plan change
  answer_finishes b e = ap (λ (j : ℕ). answered_as d j p end sh (withheld_at d j end sh)) found ∙ ap (answered_as d i p end sh) e

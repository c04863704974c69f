-- 01, check 10: "Code not allowed: Error 2", "Then payload where none belongs …, or not 8 bytes for type 15: Error 0", by the table of forms
-- in specs/Permitted.antt. Assumes nothing.
use Rattle.std.specs.Prelude.{◌≡◌, Bool, true, false, ◌&&◌, ◌||◌, cond, List, [], ◌∷◌, map, ℕ, ◌+◌, eqb}
use Rattle.wire.specs.declared.Header.{Header}
use Rattle.wire.specs.Message.{header}
use Rattle.wire.specs.Class.{one_of}
use Rattle.wire.specs.Frame.{frame_of}
use Rattle.model.specs.MessageTypes.{Error, DeviceClearComplete}
use Rattle.model.specs.State.{Server, exchange_at, connection_at}
use Rattle.model.specs.Interface.{Event.delivery, Outcome.error_sent, Reply.took}
use Rattle.model.specs.Place.{slot_of}
use Rattle.model.specs.Refusals.{refusal}
use Rattle.model.specs.Step.{step}
use Rattle.model.specs.Access.{OnSynchronous, WholeMessage}
use Rattle.model.specs.Permitted.{Form, within, permits, Takes}

-- some form is of the message's type; some form of its type has its code
abbrev pub of_type : List Form → Header → Bool
of_type fs h = one_of (map (λ f. f.kind) fs) h.kind

abbrev pub allows_code : List Form → Header → Bool
allows_code [] h = false
allows_code (f ∷ fs) h = (eqb h.kind f.kind && within f.codes h.code) || allows_code fs h

-- the code before the payload
abbrev pub fault : List Form → Header → ℕ
fault fs h = cond (allows_code fs h) 0 2

-- the message is taken whole and answered with one Error, on its own channel
pub record AnswersError (d : Server) (c : ℕ) (bs : List ℕ) (room code : ℕ) : Type 0 where
  pub replies : (step d (delivery c bs room)).reply ≡ took error_sent (16 + (header bs).len) 0
  pub sent : (step d (delivery c bs room)).frames ≡ frame_of c Error code 0 [] ∷ []
  pub locks_same : (step d (delivery c bs room)).server.locks ≡ d.locks

-- on any server at all
pub record Malformed (d : Server) (c : ℕ) (bs : List ℕ) (room : ℕ) : Type 0 where
  pub wrong_form : (fs : List Form) → refusal d (delivery c bs room) ≡ 0 → WholeMessage (connection_at d.rest c).remainder bs → Takes d c (header bs).param fs
      → of_type fs (header bs) ≡ true → permits fs (header bs) ≡ false → AnswersError d c bs room (fault fs (header bs))
  -- 01: "outside a clear it is Error 0"
  pub no_clear : refusal d (delivery c bs room) ≡ 0 → WholeMessage (connection_at d.rest c).remainder bs → OnSynchronous d c → (exchange_at d.rest (slot_of d c)).in_clear ≡ false
      → (header bs).kind ≡ DeviceClearComplete → AnswersError d c bs room 0

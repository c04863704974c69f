-- What each message that acted sends, the whole of it. Openings are in specs/Opening.antt, lock messages and AsyncLockInfo in
-- specs/Deciding.antt. Assumes nothing.
use Rattle.std.specs.Prelude.{◌≡◌, Bool, true, not, ◌&&◌, cond, List, [], ◌∷◌, ◌++◌, map, ℕ, ◌%◌, eqb}
use Rattle.wire.specs.declared.Header.{Header}
use Rattle.wire.specs.Message.{header}
use Rattle.wire.specs.MessageId.{next}
use Rattle.wire.specs.Class.{one_of}
use Rattle.wire.specs.Frame.{Frame, frame_of}
use Rattle.model.specs.MessageTypes.{Interrupted, AsyncInterrupted, DeviceClearComplete, DeviceClearAcknowledge, AsyncRemoteLocalControl}
use Rattle.model.specs.MessageTypes.{AsyncRemoteLocalResponse, AsyncMaximumMessageSize, AsyncMaximumMessageSizeResponse, AsyncDeviceClear}
use Rattle.model.specs.MessageTypes.{AsyncStatusQuery, AsyncStatusResponse, AsyncDeviceClearAcknowledge, commands}
use Rattle.model.specs.Lists.{any}
use Rattle.model.specs.State.{Server, Entry, Exchange, exchange_at, fresh, Making}
use Rattle.model.specs.Interface.{Event, Event.delivery, Outcome.acted, Reply.took}
use Rattle.model.specs.Place.{slot_of, entry_of}
use Rattle.model.specs.Exchange.{status_byte}
use Rattle.model.specs.Step.{step, final}
use Rattle.model.specs.LockModel
use Rattle.model.specs.LockModel.{Model, second_connection}
use Rattle.model.specs.Agreement.{told_frame}
use Rattle.model.specs.Deciding.{model_after, lock_answer, ended_codes, grants_after}

-- 02, Q-1: in overlap mode "message available is on exactly if some answer was sent since the last reset and the status query's number
-- differs from the last one sent"
abbrev pub available_told : Header → Exchange → Bool
available_told h x = cond x.overlap (x.any_sent && not (eqb (next h.param) x.count)) (not (eqb h.code 1) && x.message_available)

-- 02, Q-5: in synchronized mode, where RMT-delivered differs from whether one is expected: AsyncInterrupted, then Interrupted, with the
-- message's number
abbrev pub interrupted_told : Header → Entry → Exchange → List Frame
interrupted_told h e x =
    cond (not x.overlap && cond (eqb h.code 1) (not x.rmt_expected) x.rmt_expected)
    (frame_of e.asynchronous AsyncInterrupted 0 h.param [] ∷ frame_of e.synchronous Interrupted 0 h.param [] ∷ []) []

-- a delivery that acted as a message of session n, with lock model m before it
pub record Sends (d : Server) (m : Model) (c : ℕ) (bs : List ℕ) (room : ℕ) : Type 0 where
  -- Data, DataEND, Trigger: an interruption (02, Q-5), the answer of a release that its number ends (02, Q-3), then those to whoever is granted
  pub command : (k n : ℕ) → (step d (delivery c bs room)).reply ≡ took acted k n → one_of commands (header bs).kind ≡ true
      → (step d (delivery c bs room)).frames
      ≡ interrupted_told (header bs) (entry_of d c) (exchange_at d.rest (slot_of d c))
      ++ (map (lock_answer (second_connection n m.sessions)) (ended_codes m n (λ p. eqb p (header bs).param)) ++ map told_frame (grants_after (LockModel.message m n (header bs).param)))
  -- with no such release, the interruption alone, if there is one
  pub command_alone : (k n : ℕ) → (step d (delivery c bs room)).reply ≡ took acted k n → one_of commands (header bs).kind ≡ true → ended_codes m n (λ p. eqb p (header bs).param) ≡ []
      → (step d (delivery c bs room)).frames ≡ interrupted_told (header bs) (entry_of d c) (exchange_at d.rest (slot_of d c))
  -- 01: "DeviceClearComplete ends it with type 9, code 0"; 02, Q-1: its bit 0 is granted as asked, and type 9 carries it
  pub clear_complete : (k n : ℕ) → (step d (delivery c bs room)).reply ≡ took acted k n → (header bs).kind ≡ DeviceClearComplete
      → (step d (delivery c bs room)).frames ≡ frame_of c DeviceClearAcknowledge ((header bs).code % 2) 0 [] ∷ []
  pub remote_local_lem : (k n : ℕ) → (step d (delivery c bs room)).reply ≡ took acted k n → (header bs).kind ≡ AsyncRemoteLocalControl
      → (step d (delivery c bs room)).frames ≡ frame_of c AsyncRemoteLocalResponse 0 0 [] ∷ []
  -- 01: "the reply says 1,024", as eight bytes
  pub maximum_size : (k n : ℕ) → (step d (delivery c bs room)).reply ≡ took acted k n → (header bs).kind ≡ AsyncMaximumMessageSize
      → (step d (delivery c bs room)).frames ≡ frame_of c AsyncMaximumMessageSizeResponse 0 0 (0 ∷ 0 ∷ 0 ∷ 0 ∷ 0 ∷ 0 ∷ 4 ∷ 0 ∷ []) ∷ []
  -- 01: "AsyncDeviceClear: a waiting request is answered 0, then type 23 with code 0"; 02, Q-1: with the preference in bit 0; 02, Q-3: "the release then takes effect, answered
  -- after a waiting request's 0 and before the acknowledgement"; then those to whoever is granted
  pub device_clear : (k n : ℕ) → (step d (delivery c bs room)).reply ≡ took acted k n → (header bs).kind ≡ AsyncDeviceClear
      → (step d (delivery c bs room)).frames ≡ cond (any (λ w. eqb w.number n) m.waiting) (lock_answer c 0 ∷ []) []
      ++ (map (lock_answer c) (ended_codes m n (λ p. true)) ++
      (frame_of c AsyncDeviceClearAcknowledge (cond d.rest.made.prefers_overlap 1 0) 0 [] ∷ map told_frame (grants_after (LockModel.clearing n m))))
  -- 01: "The status response is the meter's byte with value 16 replaced by" message available, off at RMT-delivered 1 "before its response is formed"; 02, Q-1
  pub status_query : (k n : ℕ) → (step d (delivery c bs room)).reply ≡ took acted k n → (header bs).kind ≡ AsyncStatusQuery
      → (step d (delivery c bs room)).frames
      ≡ frame_of c AsyncStatusResponse (status_byte d.rest.status (available_told (header bs) (exchange_at d.rest (slot_of d c)))) 0 [] ∷ []

-- after any list from the fresh server, whatever is delivered next
pub record Sending (v : Making) (es : List Event) : Type 0 where
  pub sends_next : (c : ℕ) (bs : List ℕ) (room : ℕ) → Sends (final (fresh v) es) (model_after v es) c bs room

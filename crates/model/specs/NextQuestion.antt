-- 02, Q-5, what it is for: in synchronized mode a client never gets the end of an answer to a question after its next question has arrived at
-- the server. Over what the host showed and saw, after any list: whatever call sends an answer, the answer has the number of the session's last
-- question that acted, and where it ends, no next question of the session was unread; where one was, the answer is withheld. Assumes nothing.
use Rattle.std.specs.Prelude.{◌≡◌, Bool, true, false, ◌&&◌, cond, List, [], ◌∷◌, ℕ, eqb, leb, get_or, length}
use Rattle.wire.specs.Message.{header, prologue}
use Rattle.wire.specs.Class.{one_of}
use Rattle.wire.specs.Frame.{Frame, frame_of}
use Rattle.model.specs.Sizes.{no_connection}
use Rattle.model.specs.Lists.{any}
use Rattle.model.specs.MessageTypes.{Data, DataEND, Interrupted, AsyncInterrupted}
use Rattle.model.specs.State.{fresh, Making}
use Rattle.model.specs.Interface.{Event, Event.answer, Reply.done, Reply.withheld}
use Rattle.model.specs.Refusals.{refusal}
use Rattle.model.specs.Step.{step, final, log}
use Rattle.model.specs.Canonical.{kept}
use Rattle.model.specs.Possible.{AllPossible}
use Rattle.model.specs.Outcomes.{owed_in}
use Rattle.model.specs.LockModel.{Session, second_connection}
use Rattle.model.specs.Deciding.{model_after}
use Rattle.model.specs.Tie.{said, Tie}

-- Data and DataEND are the answers that a server sends
abbrev pub is_answer : Frame → Bool
is_answer f = one_of (Data ∷ DataEND ∷ []) f.message.kind

-- unread bytes that begin with a whole header, "HS", type 6, 7 or 12
abbrev pub question_unread : List ℕ → Bool
question_unread bs = leb 16 (length bs) && (prologue bs && one_of (6 ∷ 7 ∷ 12 ∷ []) (header bs).kind)

-- the first connection of session n, its synchronous one
abbrev pub first_connection : ℕ → List Session → ℕ
first_connection n [] = no_connection
first_connection n (s ∷ ss) = cond (eqb s.number n) (get_or s.connections 0 no_connection) (first_connection n ss)

-- both its connections, and the bytes that the synchronous one still owes, read off the calls alone: by the lock model and the canonical history
abbrev pub synchronous_of : Making → List Event → ℕ → ℕ
synchronous_of v es n = first_connection n (model_after v es).sessions

abbrev pub asynchronous_of : Making → List Event → ℕ → ℕ
asynchronous_of v es n = second_connection n (model_after v es).sessions

abbrev pub owes : Making → List Event → ℕ → ℕ
owes v es n = owed_in (λ c. 0) (kept (log (fresh v) es)) (synchronous_of v es n)

-- a call that sent an answer: the host gave it, and it is tied to the last question that acted. If it ends, in synchronized mode, the next
-- question had not arrived
pub record Answered (v : Making) (es : List Event) (e : Event) : Type 0 where
  pub session : ℕ
  pub payload : List ℕ
  pub end : Bool
  pub unread : List ℕ
  pub room : ℕ
  pub given : e ≡ answer session payload end unread room
  pub reply : (step (final (fresh v) es) e).reply ≡ done
  pub tied : Tie v es session payload end unread room
  pub in_time : AllPossible es → end ≡ true → (said v es session).overlap ≡ false → owes v es session ≡ 0 → question_unread unread ≡ false

pub record NextQuestion (v : Making) (es : List Event) : Type 0 where
  pub answers : (e : Event) → any is_answer (step (final (fresh v) es) e).frames ≡ true → Answered v es e
  -- an answer that ends is withheld if the next question is unread: AsyncInterrupted, then Interrupted, with the question's number
  pub withholds : (n : ℕ) (x unread : List ℕ) (room : ℕ) → AllPossible es → refusal (final (fresh v) es) (answer n x true unread room) ≡ 0
      → (said v es n).overlap ≡ false → owes v es n ≡ 0 → question_unread unread ≡ true
      → ((step (final (fresh v) es) (answer n x true unread room)).reply ≡ withheld)
      × ((step (final (fresh v) es) (answer n x true unread room)).frames
      ≡ frame_of (asynchronous_of v es n) AsyncInterrupted 0 (header unread).param []
      ∷ frame_of (synchronous_of v es n) Interrupted 0 (header unread).param [] ∷ [])

-- 01, Demand 3: "By exactly its holders, with their strings, the desk grants, gives access and answers AsyncLockInfo", said of what each
-- call does, by the lock model just before the call. Assumes nothing.
use Rattle.std.specs.Prelude.{◌≡◌, Bool, false, not, ◌&&◌, ◌||◌, cond, List, [], ◌∷◌, ◌++◌, map, ℕ, eqb, ltb, length, take, drop}
use Rattle.wire.specs.Message.{header}
use Rattle.wire.specs.Frame.{Frame, frame_of}
use Rattle.model.specs.Sizes.{string_limit}
use Rattle.model.specs.MessageTypes.{AsyncLock, AsyncLockResponse, AsyncLockInfo, AsyncLockInfoResponse}
use Rattle.model.specs.Lists.{all, any, tally}
use Rattle.model.specs.State.{Server, fresh, Making}
use Rattle.model.specs.Interface.{Event, Event.opening, Event.delivery, Event.cut, Event.clock, Event.answer, Event.status, Event.setting, Outcome.held, Outcome.acted, Reply.took}
use Rattle.model.specs.Refusals.{refusal}
use Rattle.model.specs.Step.{step, final, log}
use Rattle.model.specs.LockModel
use Rattle.model.specs.LockModel.{Session, Model, ModelResult, Told, own, has, on, allowed, not_shared, is_pending, ends_exclusive, ends_shared, look, model_step, model_run, fresh_model}
use Rattle.model.specs.Agreement.{feed, feeds, told_frame}
use Rattle.model.specs.Access.{Command}

-- the lock model after calls, fed what the host saw of them
abbrev pub model_after : Making → List Event → Model
model_after v es = (model_run fresh_model (feeds (log (fresh v) es))).model

-- 01: "AsyncLockInfo: code 1 if exclusive is held; parameter, sessions holding any lock, each once"
abbrev pub exclusive_held : Model → Bool
exclusive_held m = any (λ s. s.exclusive) m.sessions

abbrev pub lock_holders : Model → ℕ
lock_holders m = tally (λ s. s.exclusive || not (not_shared s)) m.sessions

-- 01: "Access: the exclusive holder alone; with none, the shared holders; with no locks, everyone", of a session
abbrev pub may_act : Model → Session → Bool
may_act m s = s.exclusive || (not (exclusive_held m) && (not (not_shared s) || all not_shared m.sessions))

-- the session of connection c may act
abbrev pub access_on : Model → ℕ → Bool
access_on m c = any (λ s. on c s && may_act m s) m.sessions

-- a release of session n was not answered yet
abbrev pub release_pends : Model → ℕ → Bool
release_pends m n = own n (λ s. is_pending s.pending) m.sessions

-- 01: "Request answers, in this order: 3 if S already holds that kind, has a request waiting, or the string exceeds 64 [Q-6: 256]; 1 if
-- it may be granted, and it is; 0 if timeout is 0; else it waits"; 02, Q-3: "A further AsyncLock while it stands gets 3". Of session n,
-- with timeout t and string k: the codes sent at once
abbrev pub request_codes : Model → ℕ → ℕ → List ℕ → List ℕ
request_codes m n t k =
    cond (own n (has k) m.sessions || (any (λ w. eqb w.number n) m.waiting || (ltb string_limit (length k) || release_pends m n))) (3 ∷ [])
    (cond (allowed m.sessions n k) (1 ∷ [])
    (cond (eqb t 0) (0 ∷ []) []))

-- 01: "Release frees exclusive first (1), then shared (2), with none held 3"; 02, Q-3: 3 too while one stands, and at once only if it names
-- number p of the session's last Data, DataEND or Trigger. The codes sent at once
abbrev pub release_codes : Model → ℕ → ℕ → List ℕ
release_codes m n p =
    let now = own n (λ s. eqb s.heard p) m.sessions in
    cond (release_pends m n) (3 ∷ [])
    (cond (own n (λ s. s.exclusive) m.sessions) (cond now (1 ∷ []) [])
    (cond (own n (λ s. not (not_shared s)) m.sessions) (cond now (2 ∷ []) []) (3 ∷ [])))

-- 02, Q-3: the code with which a pending release is answered, if there is one and its number passes a test
abbrev pub ended_codes : Model → ℕ → (ℕ → Bool) → List ℕ
ended_codes m n t =
    cond (own n (λ s. ends_exclusive t s.pending) m.sessions) (1 ∷ [])
    (cond (own n (λ s. ends_shared t s.pending) m.sessions) (2 ∷ []) [])

-- the answers to those whom the look after what a call itself does grants
abbrev pub grants_after : ModelResult → List Told
grants_after r = (look r.model.waiting r.model.sessions).told

-- AsyncLockResponse to connection c
abbrev pub lock_answer : ℕ → ℕ → Frame
lock_answer c code = frame_of c AsyncLockResponse code 0 []

-- a delivery on server d, with lock model m before it. Where it acted it took k bytes, as a message of session n
pub record Decides (d : Server) (m : Model) (c : ℕ) (bs : List ℕ) (room : ℕ) : Type 0 where
  -- AsyncLockInfo that acted: all that is sent
  pub lock_info : (k n : ℕ) → (step d (delivery c bs room)).reply ≡ took acted k n → (header bs).kind ≡ AsyncLockInfo
      → (step d (delivery c bs room)).frames ≡ frame_of c AsyncLockInfoResponse (cond (exclusive_held m) 1 0) (lock_holders m) [] ∷ []
  -- a Data, DataEND or Trigger that reaches check 9 is held where its session has no access, and nothing else is ever held
  pub held_without : refusal d (delivery c bs room) ≡ 0 → Command d c bs → access_on m c ≡ false → step d (delivery c bs room) ≡ record { server = d; reply = took held 0 0; frames = [] }
  pub held_only : (k n : ℕ) → (step d (delivery c bs room)).reply ≡ took held k n → Command d c bs × (access_on m c ≡ false)
  -- a request that acted: all that is sent
  pub requests : (k n : ℕ) → (step d (delivery c bs room)).reply ≡ took acted k n → (header bs).kind ≡ AsyncLock → (header bs).code ≡ 1
      → (step d (delivery c bs room)).frames ≡ map (lock_answer c) (request_codes m n (header bs).param (drop 16 (take k bs)))
  -- a release that acted: its answer first, if it does not stand, then those to whoever is granted
  pub releases : (k n : ℕ) → (step d (delivery c bs room)).reply ≡ took acted k n → (header bs).kind ≡ AsyncLock → (header bs).code ≡ 0
      → (step d (delivery c bs room)).frames ≡ map (lock_answer c) (release_codes m n (header bs).param) ++ map told_frame (grants_after (LockModel.release m n (header bs).param))

-- after any list from the fresh server, whatever is delivered next
pub record Deciding (v : Making) (es : List Event) : Type 0 where
  pub decides_next : (c : ℕ) (bs : List ℕ) (room : ℕ) → Decides (final (fresh v) es) (model_after v es) c bs room

-- the same, call by call over a list
abbrev pub Decided : Server → Model → Event → Type 0
Decided d m (opening c) = Unit {0}
Decided d m (delivery c bs room) = Decides d m c bs room
Decided d m (cut c room) = Unit {0}
Decided d m (clock t room) = Unit {0}
Decided d m (answer n p end sh room) = Unit {0}
Decided d m (status b) = Unit {0}
Decided d m (setting s) = Unit {0}

abbrev pub EachDecides : Server → Model → List Event → Type 0
EachDecides d m [] = Unit {0}
EachDecides d m (e ∷ es) = Decided d m e × EachDecides (step d e).server (model_step m (feed e (step d e).reply)).model es

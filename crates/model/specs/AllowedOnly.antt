-- 02, Q-12: "With a list set, a DataEND whose payload, up to its first space, newline or end, matches no pattern is answered Error 128 and not
-- acted on, after the code check." Of any delivery on any server; and no other call ever sends Error 128. Assumes nothing.
use Rattle.std.specs.Prelude.{◌≡◌, Bool, true, ◌&&◌, List, [], ◌∷◌, ℕ, ◌+◌, ◌≤◌, eqb}
use Rattle.wire.specs.Message.{header, payload_of}
use Rattle.wire.specs.Frame.{Frame, frame_of}
use Rattle.model.specs.MessageTypes.{Error, DataEND}
use Rattle.model.specs.Lists.{any}
use Rattle.commands.specs.Lists.{lines_of, Listed}
use Rattle.model.specs.State.{Server, Making, Allowed, Allowed.any_command, Allowed.only, fresh, exchange_at, with_exchange}
use Rattle.model.specs.Allowing.{Admits}
use Rattle.model.specs.Interface.{Event, Event.opening, Event.delivery, Event.cut, Event.clock, Event.answer, Event.status, Event.setting}
use Rattle.model.specs.Interface.{Outcome.error_sent, Outcome.acted, Reply, Reply.refused, Reply.done, Reply.withheld, Reply.took}
use Rattle.model.specs.Place.{slot_of, entry_of}
use Rattle.model.specs.Exchange.{stepped}
use Rattle.model.specs.Refusals.{refusal}
use Rattle.model.specs.Step.{Result, Line, step, final, log}
use Rattle.model.specs.LocalityRows.{list_by}
use Rattle.model.specs.Access.{Command, access_of}

-- a whole DataEND that passes every check before the list's
pub record PassesBefore (d : Server) (c : ℕ) (bs : List ℕ) : Type 0 where
  pub command : Command d c bs
  pub data_end : (header bs).kind ≡ DataEND
  pub has_access : access_of d c ≡ true
  pub in_step : (header bs).param ≡ (exchange_at d.rest (slot_of d c)).number_expected
  pub good_code : (header bs).code ≤ 1

abbrev pub AdmittedBy : Server → List ℕ → Type 0
AdmittedBy d bs = Admits d.rest.allowed (payload_of (header bs) bs)

-- Error 128 and nothing else, on its connection; it is taken whole, and of the server only the number expected moves (02, Q-10: "even one
-- refused .. by a later check")
abbrev pub answered_128 : Server → ℕ → List ℕ → Result
answered_128 d c bs =
    let i = slot_of d c in
    record {
      server = record { locks = d.locks; rest = with_exchange d.rest i (stepped (exchange_at d.rest i)) };
      reply = took error_sent (16 + (header bs).len) 0;
      frames = frame_of c Error 128 0 [] ∷ [];
    }

-- some frame is an Error 128
abbrev pub is_error128 : Frame → Bool
is_error128 f = eqb f.message.kind Error && eqb f.message.code 128

abbrev pub sends128 : List Frame → Bool
sends128 fs = any is_error128 fs

pub record AllowedOnly (d : Server) (c : ℕ) (bs : List ℕ) (room : ℕ) : Type 0 where
  -- one that is allowed acts
  pub acts : refusal d (delivery c bs room) ≡ 0 → PassesBefore d c bs → AdmittedBy d bs
      → (step d (delivery c bs room)).reply ≡ took acted (16 + (header bs).len) (entry_of d c).number
  -- one that is not gets exactly Error 128
  pub refuses : refusal d (delivery c bs room) ≡ 0 → PassesBefore d c bs → (AdmittedBy d bs → ⊥) → step d (delivery c bs room) ≡ answered_128 d c bs
  -- none acts that is not allowed
  pub only_allowed : (k n : ℕ) → (step d (delivery c bs room)).reply ≡ took acted k n → (header bs).kind ≡ DataEND → AdmittedBy d bs

-- what sends Error 128: a DataEND that is not allowed, of a list that is set
pub record Refused128 (d : Server) (e : Event) : Type 0 where
  pub connection : ℕ
  pub shown : List ℕ
  pub room : ℕ
  pub delivered : e ≡ delivery connection shown room
  pub passes_before : PassesBefore d connection shown
  pub not_allowed : AdmittedBy d shown → ⊥

pub record Only128 (d : Server) (e : Event) : Type 0 where
  pub only : sends128 (step d e).frames ≡ true → Refused128 d e

-- ---- after any list of calls: the list that is set is read off what the host saw

-- a call that was not refused and set a list
abbrev pub set_on : Event → Allowed → Allowed
set_on (setting s) a = list_by s a
set_on (opening c) a = a
set_on (delivery c bs room) a = a
set_on (cut c room) a = a
set_on (clock t room) a = a
set_on (answer n p end sh room) a = a
set_on (status b) a = a

abbrev pub list_after : Event → Reply → Allowed → Allowed
list_after e (refused n) a = a
list_after e done a = set_on e a
list_after e withheld a = a
list_after e (took o k n) a = a

unfoldable pub list_read : List Line → Allowed → Allowed
list_read [] a = a
list_read (l ∷ ls) a = list_read ls (list_after l.event l.reply a)

abbrev pub list_set : Making → List Event → Allowed
list_set v es = list_read (log (fresh v) es) any_command

-- what is set is a list of up to 32 good patterns
abbrev pub GoodList : Allowed → Type 0
GoodList any_command = Unit {0}
GoodList (only text) = Listed (lines_of text)

pub record AllowedRun (v : Making) (es : List Event) : Type 0 where
  pub reads : (final (fresh v) es).rest.allowed ≡ list_set v es
  pub good : GoodList (list_set v es)
  -- "With a list set, a DataEND .. not acted on": of the last list that was not refused
  pub acts : (c : ℕ) (bs : List ℕ) (room k n : ℕ) → (step (final (fresh v) es) (delivery c bs room)).reply ≡ took acted k n → (header bs).kind ≡ DataEND
      → Admits (list_set v es) (payload_of (header bs) bs)
  -- "is answered Error 128"
  pub refuses : (c : ℕ) (bs : List ℕ) (room : ℕ) → refusal (final (fresh v) es) (delivery c bs room) ≡ 0 → PassesBefore (final (fresh v) es) c bs
      → (Admits (list_set v es) (payload_of (header bs) bs) → ⊥) → step (final (fresh v) es) (delivery c bs room) ≡ answered_128 (final (fresh v) es) c bs
  -- and no other call of the list, or after it, sends Error 128
  pub only : (e : Event) → sends128 (step (final (fresh v) es) e).frames ≡ true → Refused128 (final (fresh v) es) e

-- What a call did, as the host sees it: read off the event, the reply and the frames alone. The rules of locality go by it.
use Rattle.std.specs.Prelude.{Bool, cond, List, [], ◌∷◌, ℕ, eqb}
use Rattle.wire.specs.declared.Header.{Header}
use Rattle.wire.specs.Message.{Message, header, message_of}
use Rattle.wire.specs.Frame.{Frame}
use Rattle.model.specs.Interface.{Event, Event.opening, Event.delivery, Event.cut, Event.clock, Event.answer, Event.status, Event.setting, Setting}
use Rattle.model.specs.Interface.{Outcome, Outcome.more_needed, Outcome.skipped, Outcome.held, Outcome.ignored, Outcome.error_sent, Outcome.closed}
use Rattle.model.specs.Interface.{Outcome.acted, Reply, Reply.refused, Reply.done, Reply.withheld, Reply.took}

-- the control code of the first frame of a call, if that frame has a given type
pub data Heard : Type 0 where
  silence : Heard
  with_code : ℕ → Heard

abbrev pub heard : ℕ → List Frame → Heard
heard t [] = silence
heard t (f ∷ fs) = cond (eqb f.message.kind t) (with_code f.message.code) silence

-- a message that acted: its connection, the message, the session's number in the reply, the code of the lock answer (type 5), if any
pub record Action : Type 0 where
  pub connection : ℕ
  pub message : Message
  pub session : ℕ
  pub told : Heard

pub data Happening : Type 0 where
  -- refused, more needed, held or ignored
  unmoved : Happening
  -- a connection opened
  connected : ℕ → Happening
  -- a connection was cut or closed by its delivery; with the code of the FatalError (type 2), if one was sent
  disconnected : ℕ → Heard → Happening
  -- of a connection so many bytes were skipped
  skipped_over : ℕ → ℕ → Happening
  -- on a connection a message with this header was answered by Error (type 3) with this code
  errored : ℕ → Header → Heard → Happening
  message_acted : Action → Happening
  -- the clock's reading; the instrument's status byte
  clock_read status_set : ℕ → Happening
  -- what the host set
  setting_made : Setting → Happening
  -- an answer was sent to a session: its payload, with END
  answer_sent : ℕ → List ℕ → Bool → Happening
  -- 02, Q-5: an answer to a session was withheld, interrupted by a message with this MessageID
  answer_withheld : ℕ → ℕ → Happening

-- a delivery on connection c that showed bytes bs
abbrev pub seen_delivery : Outcome → ℕ → List ℕ → ℕ → ℕ → List Frame → Happening
seen_delivery more_needed c bs k n fs = unmoved
seen_delivery skipped c bs k n fs = skipped_over c k
seen_delivery held c bs k n fs = unmoved
seen_delivery ignored c bs k n fs = unmoved
seen_delivery error_sent c bs k n fs = errored c (header bs) (heard 3 fs)
seen_delivery closed c bs k n fs = disconnected c (heard 2 fs)
seen_delivery acted c bs k n fs = message_acted record { connection = c; message = message_of (header bs) bs; session = n; told = heard 5 fs }

-- any other call that was not refused; a cut sends no FatalError
abbrev pub seen_call : Event → Happening
seen_call (opening c) = connected c
seen_call (delivery c bs room) = unmoved
seen_call (cut c room) = disconnected c silence
seen_call (clock t room) = clock_read t
seen_call (answer n p end sh room) = answer_sent n p end
seen_call (status b) = status_set b
seen_call (setting s) = setting_made s

-- 02, Q-5: an answer that was withheld, by the bytes that were shown with it
abbrev pub seen_withheld : Event → Happening
seen_withheld (opening c) = unmoved
seen_withheld (delivery c bs room) = unmoved
seen_withheld (cut c room) = unmoved
seen_withheld (clock t room) = unmoved
seen_withheld (answer n p end sh room) = answer_withheld n (header sh).param
seen_withheld (status b) = unmoved
seen_withheld (setting s) = unmoved

abbrev pub happened : Event → Reply → List Frame → Happening
happened e (refused n) fs = unmoved
happened e done fs = seen_call e
happened e withheld fs = seen_withheld e
happened (delivery c bs room) (took o k n) fs = seen_delivery o c bs k n fs
happened (opening c) (took o k n) fs = unmoved
happened (cut c room) (took o k n) fs = unmoved
happened (clock t room) (took o k n) fs = unmoved
happened (answer s p end sh room) (took o k n) fs = unmoved
happened (status b) (took o k n) fs = unmoved
happened (setting s) (took o k n) fs = unmoved

-- "Only the whole messages taken" (00, of the canonical history): what each delivery in it shows. One that acted, was ignored or was
-- answered Error shows one message as the wire writes it, or just the header of a message that is too long; one that was skipped shows
-- bytes of such a message's rest, no more than is owed; one that closed took nothing.
use Rattle.std.specs.Prelude.{◌≡◌, cond, List, [], ◌∷◌, ◌⊎◌, ℕ, ◌-◌, ◌≤◌, ◌<◌, eqb, ltb, length}
use Rattle.wire.specs.declared.Header.{Header}
use Rattle.wire.specs.Message.{Message, header, header_bytes, encode, Decoded, decode}
use Rattle.wire.specs.Frame.{Frame, frame_of}
use Rattle.model.specs.Sizes.{payload_limit}
use Rattle.model.specs.MessageTypes.{FatalError, Error}
use Rattle.model.specs.State.{fresh, Making}
use Rattle.model.specs.Interface.{Event, Event.opening, Event.delivery, Event.cut, Event.clock, Event.answer, Event.status, Event.setting, Outcome}
use Rattle.model.specs.Interface.{Outcome.more_needed, Outcome.skipped, Outcome.held, Outcome.ignored, Outcome.error_sent, Outcome.closed, Outcome.acted}
use Rattle.model.specs.Interface.{Reply, Reply.refused, Reply.done, Reply.withheld, Reply.took}
use Rattle.model.specs.Step.{Line, log}
use Rattle.model.specs.Canonical.{kept}
use Rattle.model.specs.Possible.{AllPossible}

-- the k bytes taken, all that is shown, are one message with a payload of at most 1,024 bytes
pub record ShowsMessage (bs : List ℕ) (k : ℕ) : Type 0 where
  pub message : Message
  pub reads : decode bs ≡ Decoded.whole message
  pub shows : bs ≡ encode message
  pub within : length message.payload ≤ payload_limit
  pub taken : k ≡ length bs

-- they are the sixteen bytes of a header with a length above 1,024, and Error 4 was sent
pub record ShowsLong (c : ℕ) (bs : List ℕ) (k : ℕ) (fs : List Frame) : Type 0 where
  pub head : Header
  pub reads : header bs ≡ head
  pub shows : bs ≡ header_bytes head
  pub above : payload_limit < head.len
  pub taken : k ≡ length bs
  pub sent : fs ≡ frame_of c Error 4 0 [] ∷ []

-- a whole message that is answered Error, 0 to 3, or 128 (02, Q-12); never 4
pub record AnsweredError (c : ℕ) (bs : List ℕ) (k : ℕ) (fs : List Frame) : Type 0 where
  pub shown : ShowsMessage bs k
  pub code : ℕ
  pub permitted : (code < 4) ⊎ (code ≡ 128)
  pub sent : fs ≡ frame_of c Error code 0 [] ∷ []

-- they are some bytes, no more than the connection owes
pub record ShowsRest (owed : ℕ) (bs : List ℕ) (k : ℕ) : Type 0 where
  pub some : 1 ≤ k
  pub owes : k ≤ owed
  pub taken : k ≡ length bs

-- the first frame sent is FatalError with a code
pub record FatalFirst (n : ℕ) (fs : List Frame) : Type 0 where
  pub to : ℕ
  pub others : List Frame
  pub is : fs ≡ frame_of to FatalError n 0 [] ∷ others

-- what closes a connection, of session n (0: none)
pub data ClosedBy (n : ℕ) (bs : List ℕ) (fs : List Frame) : Type 0 where
  -- check 2: the prologue is wrong
  by_prologue : decode bs ≡ Decoded.wrong → FatalFirst 1 fs → ClosedBy n bs fs
  -- check 3, by a header that begins right, alone: no session, or one without its second channel
  by_header : 16 ≤ length bs → (decode bs ≡ Decoded.wrong → ⊥) → ((n ≡ 0) × FatalFirst 3 fs) ⊎ FatalFirst 2 fs → ClosedBy n bs fs
  -- a whole message
  by_message : (m : Message) → decode bs ≡ Decoded.whole m → length m.payload ≤ payload_limit → ClosedBy n bs fs

-- by outcome, of connection c that owes r bytes: the bytes shown, the count taken, the session number, the frames. A message is looked at
-- only where nothing is owed. The canonical history has no delivery answered more needed or held
abbrev pub ShowsBy : Outcome → ℕ → ℕ → List ℕ → ℕ → ℕ → List Frame → Type 0
ShowsBy more_needed r c bs k n fs = ⊥
ShowsBy held r c bs k n fs = ⊥
ShowsBy skipped r c bs k n fs = ShowsRest r bs k
ShowsBy ignored r c bs k n fs = (r ≡ 0) × ShowsMessage bs k
ShowsBy error_sent r c bs k n fs = (r ≡ 0) × (AnsweredError c bs k fs ⊎ ShowsLong c bs k fs)
ShowsBy closed r c bs k n fs = (r ≡ 0) × (k ≡ 0) × ClosedBy n bs fs
ShowsBy acted r c bs k n fs = (r ≡ 0) × ShowsMessage bs k

abbrev pub ShowsReply : Reply → ℕ → ℕ → List ℕ → List Frame → Type 0
ShowsReply (refused n) r c bs fs = ⊥
ShowsReply done r c bs fs = ⊥
ShowsReply withheld r c bs fs = ⊥
ShowsReply (took o k n) r c bs fs = ShowsBy o r c bs k n fs

-- of what each connection owes
abbrev pub Shows : (ℕ → ℕ) → Event → Reply → List Frame → Type 0
Shows owed (opening c) r fs = Unit {0}
Shows owed (delivery c bs room) r fs = ShowsReply r (owed c) c bs fs
Shows owed (cut c room) r fs = Unit {0}
Shows owed (clock t room) r fs = Unit {0}
Shows owed (answer n p end sh room) r fs = Unit {0}
Shows owed (status b) r fs = Unit {0}
Shows owed (setting s) r fs = Unit {0}

-- what a connection owes, read off the calls alone: a header that is too long leaves its length, what is skipped is taken off
abbrev pub owes_by : Outcome → ℕ → List ℕ → ℕ → ℕ
owes_by more_needed k bs r = r
owes_by skipped k bs r = r - k
owes_by held k bs r = r
owes_by ignored k bs r = r
owes_by error_sent k bs r = let n = (header bs).len in cond (ltb payload_limit n) n 0
owes_by closed k bs r = r
owes_by acted k bs r = r

abbrev pub owes_after : Reply → List ℕ → ℕ → ℕ
owes_after (refused n) bs r = r
owes_after done bs r = r
owes_after withheld bs r = r
owes_after (took o k n) bs r = owes_by o k bs r

-- and a connection that opens owes nothing
abbrev pub owes_next : Event → Reply → (ℕ → ℕ) → ℕ → ℕ
owes_next (opening c) r owed x = cond (eqb c x) 0 (owed x)
owes_next (delivery c bs room) r owed x = cond (eqb c x) (owes_after r bs (owed x)) (owed x)
owes_next (cut c room) r owed x = owed x
owes_next (clock t room) r owed x = owed x
owes_next (answer n p end sh room) r owed x = owed x
owes_next (status b) r owed x = owed x
owes_next (setting s) r owed x = owed x

abbrev pub OnlyWhole : (ℕ → ℕ) → List Line → Type 0
OnlyWhole owed [] = Unit {0}
OnlyWhole owed (l ∷ ls) = Shows owed l.event l.reply l.frames × OnlyWhole (owes_next l.event l.reply owed) ls

-- every line of the canonical history of any list of possible calls
pub record TakenWhole : Type 0 where
  pub any_run : (v : Making) (es : List Event) → AllPossible es → OnlyWhole (λ c. 0) (kept (log (fresh v) es))

-- 02, Q-10: numbers in step, over what the host shows and sees. A reader of the taken messages alone knows which number each session must send
-- next; another one is answered Error 0 and changes nothing; and a client that counts as 003 says (3.1.2: ffffff00 hex first after opening or
-- clear, two more for each Data, DataEND and Trigger that it sends, wrapping) never meets this Error 0, whatever of it is held, cut, too large
-- or refused for another reason in between. Assumes nothing.
use Rattle.std.specs.Prelude.{◌≡◌, Bool, true, false, not, ◌&&◌, cond, List, [], ◌∷◌, ℕ, zero, suc, ◌+◌, ◌<◌, eqb, length}
use Rattle.wire.specs.declared.Header.{Header}
use Rattle.wire.specs.Message.{header}
use Rattle.wire.specs.MessageId.{start, next, nth}
use Rattle.wire.specs.Class.{one_of}
use Rattle.wire.specs.Frame.{Frame, frame_of}
use Rattle.model.specs.Sizes.{no_connection}
use Rattle.model.specs.MessageTypes.{Initialize, Error, DeviceClearComplete, Trigger, AsyncDeviceClear, commands}
use Rattle.model.specs.State.{Server, Entry, Exchange, at, live, exchange_at, fresh, Making}
use Rattle.model.specs.Interface.{Event, Event.delivery, Outcome.error_sent, Outcome.acted, Reply.took}
use Rattle.model.specs.Place.{slot_of, entry_of}
use Rattle.model.specs.Refusals.{refusal}
use Rattle.model.specs.Step.{Line, step, final, log}
use Rattle.model.specs.Access.{Command, access_of}
use Rattle.model.specs.Permitted.{command_forms, permits, ListAllows}
use Rattle.model.specs.Happening.{Happening, Happening.unmoved, Happening.connected, Happening.disconnected, Happening.skipped_over, Happening.errored}
use Rattle.model.specs.Happening.{Happening.message_acted, Happening.clock_read, Happening.status_set, Happening.answer_sent, Happening.answer_withheld}
use Rattle.model.specs.Happening.{happened, Happening.setting_made}

-- what the taken messages say of a session: its synchronous connection, whether it is in a device clear, and the numbers of its Data, DataEND
-- and Trigger messages since it opened or was last cleared, the last one first
pub record Numbering : Type 0 where
  pub connection : ℕ
  pub in_clear : Bool
  pub taken : List ℕ

abbrev pub first_numbering : ℕ → Numbering
first_numbering c = record { connection = c; in_clear = false; taken = [] }

abbrev pub took_one : ℕ → Numbering → Numbering
took_one n p = record { connection = p.connection; in_clear = p.in_clear; taken = n ∷ p.taken }

-- the number expected after some: it "moves with each .. that carries it", any other leaves it
abbrev pub expected : List ℕ → ℕ
expected [] = start
expected (n ∷ ns) = cond (eqb n (expected ns)) (next (expected ns)) (expected ns)

-- a message of type t with number n on connection c that acted as the session's; as another's, an Initialize on its connection says that it
-- has closed
abbrev pub acted_for : ℕ → ℕ → ℕ → Numbering → Numbering
acted_for c t n p =
    cond (one_of commands t) (took_one n p)
    (cond (eqb t Initialize) (first_numbering c)
    (cond (eqb t AsyncDeviceClear) (record { connection = p.connection; in_clear = true; taken = [] })
    (cond (eqb t DeviceClearComplete) (record { connection = p.connection; in_clear = false; taken = p.taken }) p)))

abbrev pub acted_for_another : ℕ → ℕ → Numbering → Numbering
acted_for_another c t p = cond (eqb t Initialize && eqb p.connection c) (first_numbering no_connection) p

-- a message on its synchronous connection that was answered Error, too large or refused by a check
abbrev pub refused_one : Header → Numbering → Numbering
refused_one h p = cond (not p.in_clear && one_of commands h.kind) (took_one h.param p) p

-- of session n, one call
abbrev pub numbering_after : Happening → ℕ → Numbering → Numbering
numbering_after unmoved n p = p
numbering_after (connected c) n p = p
numbering_after (disconnected c k) n p = p
numbering_after (skipped_over c k) n p = p
numbering_after (errored c h k) n p = cond (eqb p.connection c) (refused_one h p) p
numbering_after (message_acted a) n p =
    cond (eqb a.session n) (acted_for a.connection a.message.kind a.message.param p) (acted_for_another a.connection a.message.kind p)
numbering_after (clock_read t) n p = p
numbering_after (status_set b) n p = p
numbering_after (setting_made s) n p = p
numbering_after (answer_sent m x end) n p = p
numbering_after (answer_withheld m x) n p = p

abbrev pub noted_line : Line → ℕ → Numbering → Numbering
noted_line l n p = numbering_after (happened l.event l.reply l.frames) n p

-- of session n, read off the log alone
unfoldable pub numbering_of : List Line → ℕ → Numbering → Numbering
numbering_of [] n p = p
numbering_of (l ∷ ls) n p = numbering_of ls n (noted_line l n p)

-- of session n, after the list
abbrev pub numbering : Making → List Event → ℕ → Numbering
numbering v es n = numbering_of (log (fresh v) es) n (first_numbering no_connection)

-- the first k numbers of 003's count, the last one first
abbrev pub count_up : ℕ → List ℕ
count_up zero = []
count_up (suc k) = nth k ∷ count_up k

-- Error with code 0 and nothing else, on connection c
abbrev pub error_0 : ℕ → List Frame
error_0 c = frame_of c Error 0 0 [] ∷ []

-- each number that is taken of the session is the next of the count
abbrev pub Counts : List Line → ℕ → Numbering → Type 0
Counts [] n p = Unit {0}
Counts (l ∷ ls) n p = ((noted_line l n p).taken ≡ count_up (length (noted_line l n p).taken)) × Counts ls n (noted_line l n p)

-- of the session's Data, DataEND and Trigger messages outside a clear a line answers Error 0 only to a Trigger with payload, where none belongs
abbrev pub OnlyPayload : Line → Numbering → Type 0
OnlyPayload l p =
    (bs : List ℕ) (room k m : ℕ) → l.event ≡ delivery p.connection bs room → l.reply ≡ took error_sent k m → p.in_clear ≡ false → one_of commands (header bs).kind ≡ true
    → l.frames ≡ error_0 p.connection → ((header bs).kind ≡ Trigger) × (0 < (header bs).len)

abbrev pub NeverOut : List Line → ℕ → Numbering → Type 0
NeverOut [] n p = Unit {0}
NeverOut (l ∷ ls) n p = OnlyPayload l p × NeverOut ls n (noted_line l n p)

-- what the log tells is so
pub record Knows (p : Numbering) (e : Entry) (x : Exchange) : Type 0 where
  pub connection : p.connection ≡ e.synchronous
  pub in_clear_lem : p.in_clear ≡ x.in_clear
  pub number : expected p.taken ≡ x.number_expected

-- 02, Q-10: "Any other of permitted size is Error 0, expectation unchanged": nothing at all changes, on any server
pub record OutOfStep (d : Server) (c : ℕ) (bs : List ℕ) (room : ℕ) : Type 0 where
  pub answered : refusal d (delivery c bs room) ≡ 0 → Command d c bs → access_of d c ≡ true → ((header bs).param ≡ (exchange_at d.rest (slot_of d c)).number_expected → ⊥)
      → step d (delivery c bs room) ≡ record { server = d; reply = took error_sent (16 + (header bs).len) 0; frames = error_0 c }

-- after any list from the fresh server, and over the whole of it
pub record InStep (v : Making) (es : List Event) : Type 0 where
  -- of each live session the reader's number is the server's
  pub reads : (j : ℕ) → live (at (final (fresh v) es).locks.entries j) ≡ true
      → Knows (numbering v es (at (final (fresh v) es).locks.entries j).number) (at (final (fresh v) es).locks.entries j) (exchange_at (final (fresh v) es).rest j)
  -- "must carry the number expected": one that acts does
  pub acts : (c : ℕ) (bs : List ℕ) (room k n : ℕ) → (step (final (fresh v) es) (delivery c bs room)).reply ≡ took acted k n → one_of commands (header bs).kind ≡ true
      → ((numbering v es n).connection ≡ c) × ((numbering v es n).in_clear ≡ false) × ((header bs).param ≡ expected (numbering v es n).taken)
  -- a client that has counted expects what the server does; what it sends next in good form acts, if it has access (02, Q-12: and the list allows it)
  pub goes_on : (c : ℕ) (bs : List ℕ) (room k : ℕ) → refusal (final (fresh v) es) (delivery c bs room) ≡ 0 → Command (final (fresh v) es) c bs → access_of (final (fresh v) es) c ≡ true
      → permits command_forms (header bs) ≡ true → ListAllows (final (fresh v) es) bs → (numbering v es (entry_of (final (fresh v) es) c).number).taken ≡ count_up k → (header bs).param ≡ nth k
      → (step (final (fresh v) es) (delivery c bs room)).reply ≡ took acted (16 + (header bs).len) (entry_of (final (fresh v) es) c).number
  -- and it never meets this Error 0
  pub never : (n : ℕ) → Counts (log (fresh v) es) n (first_numbering no_connection) → NeverOut (log (fresh v) es) n (first_numbering no_connection)

-- 02, Q-4: "With "more needed" the answer tells how many bytes are missing". Nothing that is taken depends on it: it is read off the call
-- beside the reply. Assumes nothing.
use Rattle.std.specs.Prelude.{List, ◌++◌, ◌≡◌, ℕ, zero, suc, ◌+◌, ◌-◌, ◌<◌, ◌≤◌, length}
use Rattle.wire.specs.Message.{header}
use Rattle.model.specs.State.{Server, connection_at}
use Rattle.model.specs.Interface.{Event, Event.opening, Event.delivery, Event.cut, Event.clock, Event.answer, Event.status, Event.setting}
use Rattle.model.specs.Interface.{Outcome.more_needed, Outcome.skipped, Outcome.held, Outcome.ignored, Outcome.error_sent, Outcome.closed, Outcome.acted}
use Rattle.model.specs.Interface.{Reply, Reply.refused, Reply.done, Reply.withheld, Reply.took}
use Rattle.model.specs.Scan.{Scan, Scan.empty, Scan.few, Scan.wrong, Scan.skipping, Scan.long, Scan.part, Scan.whole, scan}
use Rattle.model.specs.Step.{step}

-- by what was scanned, with LEFT bytes to skip and HERE bytes here
abbrev pub lacking : ℕ → ℕ → Scan → ℕ
-- "with no bytes given, the remainder to skip if there is one"; else 16 less none
lacking zero here empty = 16
lacking (suc left) here empty = suc left
-- "16 less what is here"
lacking left here few = 16 - here
-- "the rest of the payload"
lacking left here (part h) = 16 + h.len - here
lacking left here wrong = 0
lacking left here (skipping k) = 0
lacking left here (long h) = 0
lacking left here (whole h p) = 0

-- told with more needed alone
abbrev pub if_more : Reply → ℕ → ℕ
if_more (refused n) k = 0
if_more done k = 0
if_more withheld k = 0
if_more (took more_needed x n) k = k
if_more (took skipped x n) k = 0
if_more (took held x n) k = 0
if_more (took ignored x n) k = 0
if_more (took error_sent x n) k = 0
if_more (took closed x n) k = 0
if_more (took acted x n) k = 0

abbrev pub lacking_in : Server → Event → ℕ
lacking_in d (delivery c bs room) = let r = (connection_at d.rest c).remainder in lacking r (length bs) (scan r bs)
lacking_in d (opening c) = 0
lacking_in d (cut c room) = 0
lacking_in d (clock t room) = 0
lacking_in d (answer n p end sh room) = 0
lacking_in d (status b) = 0
lacking_in d (setting s) = 0

abbrev pub missing : Server → Event → ℕ
missing d e = if_more (step d e).reply (lacking_in d e)

-- what the number tells, on any server, of any delivery
pub record TellsMissing (d : Server) (c : ℕ) (bs : List ℕ) (room : ℕ) : Type 0 where
  -- 0 exactly if the outcome is another, or the call is refused
  pub some : (k n : ℕ) → (step d (delivery c bs room)).reply ≡ took more_needed k n → 0 < missing d (delivery c bs room)
  pub none : ((k n : ℕ) → (step d (delivery c bs room)).reply ≡ took more_needed k n → ⊥) → missing d (delivery c bs room) ≡ 0
  -- a remainder: it is the remainder, so showing that many bytes skips it to its end
  pub remainder : (k n : ℕ) → (step d (delivery c bs room)).reply ≡ took more_needed k n → 0 < (connection_at d.rest c).remainder
      → (missing d (delivery c bs room) ≡ (connection_at d.rest c).remainder)
      × ((xs : List ℕ) → length xs ≡ missing d (delivery c bs room) → (step d (delivery c xs room)).reply ≡ took skipped (length xs) 0)
  -- less than a header: so many bytes more are a header, and what is missing then, if anything, is its payload
  pub header_rest : (k n : ℕ) → (step d (delivery c bs room)).reply ≡ took more_needed k n → (connection_at d.rest c).remainder ≡ 0 → length bs < 16
      → (length bs + missing d (delivery c bs room) ≡ 16)
      × ((xs : List ℕ) → length xs ≡ missing d (delivery c bs room)
      → (x y : ℕ) → (step d (delivery c (bs ++ xs) room)).reply ≡ took more_needed x y → missing d (delivery c (bs ++ xs) room) ≡ (header (bs ++ xs)).len)
  -- a header: so many bytes more are the message, and no more are needed
  pub payload_rest : (k n : ℕ) → (step d (delivery c bs room)).reply ≡ took more_needed k n → (connection_at d.rest c).remainder ≡ 0 → 16 ≤ length bs
      → (length bs + missing d (delivery c bs room) ≡ 16 + (header bs).len)
      × ((xs : List ℕ) → length xs ≡ missing d (delivery c bs room)
      → (x y : ℕ) → (step d (delivery c (bs ++ xs) room)).reply ≡ took more_needed x y → ⊥)

-- Every statement about judging a journal, fully quantified, in 02's order (Q-8). The bytes of a book are any bytes, its maker and its host
-- anybody; proofs/Statements.antt proves all of it. Assumes nothing.
use Rattle.std.specs.Prelude.{◌≡◌, Bool, ◌↔◌, List, [], ◌∷◌, ◌++◌, ℕ, ◌^◌, ◌≤◌, ◌<◌, min, length}
use Rattle.wire.specs.Field.{Bytes}
use Rattle.wire.specs.Frame.{bytes_of}
use Rattle.journal.specs.Journal.{closed_journal, reach}
use Rattle.journal.specs.Writer.{new_of, close_of, offered, bytes_written}
use Rattle.record.specs.Layout.{body_bytes}
use Rattle.verifier.specs.Judge.{Fault, accepted, wrong, first}
use Rattle.verifier.specs.Feed.{reading, feed_pieces, finish, joined}
use Rattle.verifier.specs.Naming.{Named}
use Rattle.model.specs.State.{Making, fresh}
use Rattle.model.specs.Interface.{Event, Event.answer, Reply.done}
use Rattle.model.specs.Step.{step, final, log}
use Rattle.model.specs.LockModel.{fresh_model}
use Rattle.model.specs.Agreement.{Agreement}
use Rattle.model.specs.Isolation.{Isolated}
use Rattle.model.specs.IsolationRun.{IsolationRun}
use Rattle.model.specs.Tie.{Tie}
use Rattle.judging.specs.Replay.{deed, verdict}
use Rattle.judging.specs.Kept.{recorded, AllKeepable, bodies_of, Good}

-- The entry of call e in a book of calls `before ++ e ∷ after`: it has the number of the calls before it, and its body is the call and the
-- frames that the server gives after them
pub record Entry (v : Making) (before : List Event) (e : Event) (after : List Event) : Type 0 where
  pub place : bodies_of (log (fresh v) (before ++ e ∷ after))
      ≡ bodies_of (log (fresh v) before) ++ body_bytes (recorded e) (bytes_of (step (final (fresh v) before) e).frames) ∷ bodies_of (log (step (final (fresh v) before) e).server after)
  pub number : length (bodies_of (log (fresh v) before)) ≡ length before

-- What whoever holds the book and the verdict knows, and needs to trust neither the box nor its host. `calls` are the book's entries
pub record Vouched (v : Making) (calls : List Event) : Type 0 where
  pub entry : (before : List Event) (e : Event) (after : List Event) → calls ≡ before ++ e ∷ after → Entry v before e after
  -- every answer sent carries the MessageID of the command that the tie names: one frame stands beside it, with that number
  pub tie : (before : List Event) (n : ℕ) (x : List ℕ) (end : Bool) (sh : List ℕ) (room : ℕ) (after : List Event) → calls ≡ before ++ answer n x end sh room ∷ after
      → (step (final (fresh v) before) (answer n x end sh room)).reply ≡ done → Tie v before n x end sh room
  -- who held which lock at each entry, who waited in what order, and every lock answer up to it are what the lock model says
  pub locks : (before after : List Event) → calls ≡ before ++ after → Agreement (fresh v) fresh_model before
  -- while a session held the exclusive lock nobody else's command acted: at each entry, and from a grant to the release
  pub isolated : (before after : List Event) → calls ≡ before ++ after → Isolated (final (fresh v) before)
  pub isolation : (before after : List Event) (j : ℕ) → calls ≡ before ++ after → IsolationRun v before j

pub record Stranger (v : Making) (book : List ℕ) (n : ℕ) : Type 0 where
  pub good : Good v book n
  pub vouched : Vouched v good.calls

pub record Statements : Type 0 where
  -- "accepts a stranger's closed book exactly if, from a fresh desk .., each event in turn yields the very parcels beside it, and all
  -- distances, sums, the last offset and the count agree"
  pub accepted_exactly : (v : Making) (book : List ℕ) (n : ℕ) → v.vendor < 2 ^ 16 → Bytes book → (verdict v book ≡ accepted n) ↔ Good v book n
  -- "It names the first wrong entry by number, from 0, and its kind of fault": right entries before it, and the place behind them has it
  pub named_exactly : (v : Making) (book : List ℕ) (n : ℕ) (f : Fault) → Bytes book → (verdict v book ≡ wrong n f) ↔ Named deed (fresh v) book n f
  -- "Every book our writer closes, kept from a fresh desk with no event left out, passes": its entries are exactly the calls not refused
  pub own_books : (v : Making) (es : List Event) (words book : List ℕ) → v.vendor < 2 ^ 16 → AllKeepable es
      → length (closed_journal (bodies_of (log (fresh v) es))) ≤ min (length book) reach
      → (let bs : List (List ℕ) = bodies_of (log (fresh v) es) in let d = offered (new_of words book) bs in
      verdict v (bytes_written (close_of d.words d.book)) ≡ accepted (length bs))
  -- "the same however it is cut"
  pub however_cut : (v : Making) (pieces : List (List ℕ)) → finish (feed_pieces deed (reading (first (fresh v)) []) pieces) ≡ verdict v (joined pieces)
  -- about strangers' books
  pub strangers : (v : Making) (book : List ℕ) (n : ℕ) → v.vendor < 2 ^ 16 → Bytes book → verdict v book ≡ accepted n → Stranger v book n

-- What is kept of an event, and what a call that keeps one leaves. Assumes nothing.
use Rattle.std.specs.Prelude.{◌≡◌, List, ℕ, eqb, Ok}
use Rattle.journal.specs.Journal.{choose}
use Rattle.journal.specs.Writer.{Done, append_of, kept_number}

-- 02: "The body is one event that was not refused, and its parcels": of a refused one nothing is kept, and that is no failing of the journal
unfoldable pub entry_unless : ℕ → List ℕ → List ℕ → List ℕ → Done
entry_unless number words book body = choose (eqb number 0) (append_of words book body) (record { answer = Ok tt; words = words; book = book })

-- the number `kept`, the words and the book after a call that does D to them
pub record Keeps (D : Done) (kept : ℕ) (words book : List ℕ) : Type 0 where
  pub answer : kept ≡ kept_number D.answer
  pub words_are : words ≡ D.words
  pub book_is : book ≡ D.book

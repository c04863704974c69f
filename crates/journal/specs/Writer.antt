-- What the writer does, for any bits in its words. Assumes nothing.
use Rattle.std.specs.Prelude.{◌≡◌, ℕ, ◌+◌, ◌-◌, ◌%◌, ◌^◌, min, List, [], ◌∷◌, ◌++◌, length, take, ◌==◌, nat_le, slice_index, Result, Ok, Err}
use Rattle.wire.specs.Splice.{splice}
use Rattle.journal.specs.Journal.{choose, entry, entries, closing, reach}
use Rattle.journal.specs.declared.Unwritten.{Unwritten}
use Rattle.journal.specs.declared.Unwritten.TheVariants.{NoRoom, Closed}

-- what a call of the writer answers: written, or why not
abbrev pub Told : Type 0
Told = Result (Unit {0}) Unwritten

-- the number of each answer at the C interface
abbrev pub kept_number : Told → ℕ
kept_number (Ok _) = 0
kept_number (Err NoRoom) = 1
kept_number (Err Closed) = 2

-- the writer's words: how many bytes are written, the offset of the last entry, the number of entries, and 0 while it is open
abbrev pub place : List ℕ → ℕ
place words = slice_index words 0

abbrev pub last : List ℕ → ℕ
last words = slice_index words 1

abbrev pub count : List ℕ → ℕ
count words = slice_index words 2

abbrev pub shut : List ℕ → ℕ
shut words = slice_index words 3

-- the answer, the words and the book after a call
pub record Done : Type 0 where
  pub answer : Told
  pub words : List ℕ
  pub book : List ℕ

-- what is left behind a place: no byte past 2^31 is used
abbrev pub left : List ℕ → ℕ → ℕ
left book at = min (length book) reach - at

-- Where n bytes go, so many being left behind the bytes written. "Closed" first; then "no room" exactly if they and the twelve closing bytes
-- do not fit.
unfoldable pub placed : List ℕ → ℕ → ℕ → Result ℕ Unwritten
placed words n room = choose (shut words == 0) (choose (nat_le (n + 12) room) (Ok (place words)) (Err NoRoom)) (Err Closed)

-- A new, empty journal, whatever the words were. Of the book nothing is written.
unfoldable pub new_of : List ℕ → List ℕ → Done
new_of words book =
    choose (nat_le 12 (left book 0))
    (record { answer = Ok tt; words = 0 ∷ 0 ∷ 0 ∷ 0 ∷ []; book = book })
    (record { answer = Err NoRoom; words = words; book = book })

-- A call that writes x behind the bytes written. "Closed" first; then "no room" exactly if the entry of so many bytes (none for a
-- closing) and the twelve closing bytes do not fit in what is left. With either nothing is written.
unfoldable pub writing : List ℕ → List ℕ → ℕ → List ℕ → List ℕ → Done
writing words book size x after =
    choose (shut words == 0)
    (choose (nat_le (size + 12) (left book (place words)))
    (record { answer = Ok tt; words = after; book = splice book (place words) x })
    (record { answer = Err NoRoom; words = words; book = book }))
    (record { answer = Err Closed; words = words; book = book })

-- an entry
unfoldable pub append_of : List ℕ → List ℕ → List ℕ → Done
append_of words book body =
    writing words book (length (entry body)) (entry body)
    ((place words + length (entry body)) ∷ place words ∷ ((count words + 1) % 2 ^ 64) ∷ 0 ∷ [])

-- the closing trailer
unfoldable pub close_of : List ℕ → List ℕ → Done
close_of words book =
    writing words book 0 (closing (last words) (count words)) ((place words + 12) ∷ last words ∷ count words ∷ 1 ∷ [])

-- what a function ensures that does D
pub record Met (D : Done) (r : Told) (w b : List ℕ) : Type 0 where
  pub answer : r ≡ D.answer
  pub words : w ≡ D.words
  pub book : b ≡ D.book

-- A run: bodies are offered one after the other.
unfoldable pub offered : Done → List (List ℕ) → Done
offered d [] = d
offered d (b ∷ bs) = offered (append_of d.words d.book b) bs

-- Of these the ones that fit, behind the entries that are there. One left out does not stop a later, smaller one.
unfoldable pub kept : ℕ → List (List ℕ) → List (List ℕ) → List (List ℕ)
kept size there [] = there
kept size there (b ∷ bs) = kept size (choose (nat_le (length (entry b) + 12) (size - length (entries there))) (there ++ (b ∷ [])) there) bs

-- just the bytes written
abbrev pub bytes_written : Done → List ℕ
bytes_written done = take (place done.words) done.book

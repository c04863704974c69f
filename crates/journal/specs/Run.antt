-- Runs of the writer, from a new journal to the closed one, and what the readers then find. Assumes nothing.
use Rattle.std.specs.Prelude.{◌≡◌, ℕ, ◌+◌, ◌-◌, ◌<◌, ◌≤◌, min, Bool, true, false, List, [], ◌∷◌, ◌++◌, reverse, length, take, nat_le, refl, Ok, Err}
use Rattle.std.proofs.Common.{sym, subst, ◌∙◌}
use Rattle.std.proofs.Math.Path.{ap}
use native.Mathlib.Omega.{arith}
use borrow.Author.Tests.{leb-true, leb-false}
use Rattle.wire.specs.Field.{number_at}
use Rattle.journal.specs.Journal.{choose, entry, entries, last_offset, closed_journal, Fine, AllFine, forward, reach}
use Rattle.journal.specs.Holds.{Holds, new_length, append_length, new_holds, append_holds, append_left_out}
use Rattle.journal.specs.Places.{forward_at, backward_at}
use Rattle.journal.specs.Prefix.{within}
use Rattle.journal.specs.Walks.{walk}
use Rattle.journal.specs.Writer.{Done, place, left, new_of, append_of, close_of, offered, kept, bytes_written}
use Rattle.journal.specs.declared.Unwritten.TheVariants.{NoRoom, Closed}

module _ (size : ℕ) (there : List (List ℕ)) (d : Done) (b : List ℕ) (bs : List (List ℕ)) (e : size ≡ min (length d.book) reach)
    (o : Holds there d.words d.book) (f : Fine b)
    (ih : (there' : List (List ℕ)) (d' : Done) → size ≡ min (length d'.book) reach → Holds there' d'.words d'.book
    → Holds (kept size there' bs) (offered d' bs).words (offered d' bs).book) where
  turn : (t : Bool) → nat_le (length (entry b) + 12) (size - length (entries there)) ≡ t
      → Holds (kept size there (b ∷ bs)) (offered d (b ∷ bs)).words (offered d (b ∷ bs)).book
  unfolding kept offered choose
  turn true t =
      let h : length (entry b) + 12 ≤ size - length (entries there) = leb-true _ _ t in
      let p : place d.words ≡ length (entries there) = ap place o.says in
      let g : length (entry b) + 12 ≤ left d.book (place d.words) = omega arith in
      let l : size ≡ min (length (append_of d.words d.book b).book) reach = e ∙ ap (λ (n : ℕ). min n reach) (sym (append_length d.words d.book b)) in
      rw t (ih (there ++ (b ∷ [])) (append_of d.words d.book b) l (append_holds there d.words d.book b o f g).1)
  turn false t =
      let h : size - length (entries there) < length (entry b) + 12 = leb-false _ _ t in
      let p : place d.words ≡ length (entries there) = ap place o.says in
      let g : left d.book (place d.words) < length (entry b) + 12 = omega arith in
      rw t
      (subst (λ (x : Done). Holds (kept size there bs) (offered x bs).words (offered x bs).book) (sym (append_left_out there d.words d.book b o g))
      (ih there (record { answer = Err NoRoom; words = d.words; book = d.book }) e o))

from : (bs : List (List ℕ)) (size : ℕ) (there : List (List ℕ)) (d : Done) → size ≡ min (length d.book) reach → Holds there d.words d.book → AllFine bs
    → Holds (kept size there bs) (offered d bs).words (offered d bs).book
unfolding kept offered AllFine
from [] size there d e o f = o
from (b ∷ bs) size there d e o f =
    turn size there d b bs e o f.0 (λ there' d' e' o'. from bs size there' d' e' o' f.1) (nat_le (length (entry b) + 12) (size - length (entries there))) refl

-- From a new journal on, in any book with room for a closing and whatever the words were: the open journal holds just what fitted.
pub open_run : (words book : List ℕ) (bs : List (List ℕ)) → 12 ≤ left book 0 → AllFine bs
    → (let d : Done = offered (new_of words book) bs in Holds (kept (min (length book) reach) [] bs) d.words d.book)
open_run words book bs h f =
    from bs (min (length book) reach) [] (new_of words book) (ap (λ (n : ℕ). min n reach) (sym (new_length words book))) (new_holds words book h).1 f

-- What the host may count on after a run that kept bs: the closing was written; the bytes written are the closed journal of these
-- entries; its last eight say where the last one begins and how many there are; the readers, from place to place, find them, the second
-- last first; had writing stopped after any byte, the forward reader, given just the bytes written, would have found exactly the entries
-- written whole; and from now on every call answers "closed" and changes nothing.
pub record Journaled (bs : List (List ℕ)) (done : Done) : Type 0 where
  pub answer : done.answer ≡ Ok tt
  pub whole : bytes_written done ≡ closed_journal bs
  pub offset : number_at (bytes_written done) (length (bytes_written done) - 8) 4 ≡ last_offset bs
  pub count : number_at (bytes_written done) (length (bytes_written done) - 4) 4 ≡ length bs
  pub forwards : walk forward_at (length (bytes_written done)) (bytes_written done) 0 ≡ bs
  pub backwards : walk backward_at (length (bytes_written done)) (bytes_written done) (length (bytes_written done) - 12) ≡ reverse bs
  pub torn : (k : ℕ) → k ≤ place done.words → forward (take k done.book) ≡ within k bs
  pub appends : (b : List ℕ) → append_of done.words done.book b ≡ record { answer = Err Closed; words = done.words; book = done.book }
  pub closes : close_of done.words done.book ≡ record { answer = Err Closed; words = done.words; book = done.book }

-- 02: bytes past 2^31 are never used. What a call does to a book is what it does to the bytes within reach, and the others stay; what a
-- reader finds does not depend on them. Assumes nothing.
use Rattle.std.specs.Prelude.{◌≡◌, ℕ, ◌+◌, ◌≤◌, min, Bool, true, false, List, ◌++◌, length, take, drop, ◌==◌, nat_le, refl}
use Rattle.std.proofs.Common.{sym, ap, ap₂, ◌∙◌, append_assoc, arith, length-take, take-append-drop, take-take}
use Rattle.std.proofs.lemmas.List.{drop-append-le}
use borrow.Author.Tests.{leb-true}
use Rattle.wire.specs.Splice.{splice}
use Rattle.journal.specs.Journal.{choose, entry, closing, reach, used}
use Rattle.journal.specs.Entry.{length_closing}
use Rattle.journal.specs.Steps.{length_used}
use Rattle.journal.specs.Walks.{used_short}
use Rattle.journal.specs.Places.{forward_at, backward_at}
use Rattle.journal.specs.Writer.{Done, place, last, count, shut, left, new_of, writing, append_of, close_of}

-- the bytes past 2^31
abbrev pub unused : List ℕ → List ℕ
unused book = drop (min (length book) reach) book

-- d is e, with other bytes behind its book
pub record Beyond (rest : List ℕ) (d e : Done) : Type 0 where
  pub answer : d.answer ≡ e.answer
  pub words : d.words ≡ e.words
  pub book : d.book ≡ e.book ++ rest

splice_part : (l : List ℕ) (m a : ℕ) (x : List ℕ) → a + length x ≤ m → m ≤ length l → splice l a x ≡ splice (take m l) a x ++ drop m l
unfolding splice
splice_part l m a x h g =
    let k : ℕ = a + length x in
    let n : length (take m l) ≡ m = simp length-take (omega arith) in
    sym
    (append_assoc (take a (take m l) ++ x) (drop k (take m l)) (drop m l)
    ∙ ap₂ (λ (p q : List ℕ). p ++ x ++ q) (take-take a m l (omega arith))
    (sym (drop-append-le k (take m l) (drop m l) (omega arith)) ∙ ap (drop k) (take-append-drop m l)))

apart : (book : List ℕ) → book ≡ used book ++ unused book
unfolding used
apart book = sym (take-append-drop (min (length book) reach) book)

splice_used : (book : List ℕ) (at : ℕ) (x : List ℕ) → at + length x ≤ min (length book) reach → splice book at x ≡ splice (used book) at x ++ unused book
unfolding used
splice_used book at x h = splice_part book (min (length book) reach) at x h (omega arith)

left_used : (book : List ℕ) (at : ℕ) → left (used book) at ≡ left book at
left_used book at = omega (arith, length_used book)

module _ (words book : List ℕ) (size : ℕ) (x after : List ℕ) (fits : length x ≤ size + 12) where
  write_by : (t u : Bool) → (shut words == 0) ≡ t → nat_le (size + 12) (left book (place words)) ≡ u
      → Beyond (unused book) (writing words book size x after) (writing words (used book) size x after)
  unfolding writing choose
  write_by false u e q = rw e record { answer = refl; words = refl; book = apart book }
  write_by true false e q = rw (e, left_used book (place words), q) record { answer = refl; words = refl; book = apart book }
  write_by true true e q =
      let h : size + 12 ≤ left book (place words) = leb-true _ _ q in
      rw (e, left_used book (place words), q) record { answer = refl; words = refl; book = splice_used book (place words) x (omega arith) }

  write_beyond : Beyond (unused book) (writing words book size x after) (writing words (used book) size x after)
  write_beyond = write_by (shut words == 0) (nat_le (size + 12) (left book (place words))) refl refl

pub append_beyond : (words book b : List ℕ) → Beyond (unused book) (append_of words book b) (append_of words (used book) b)
unfolding append_of
append_beyond words book b = write_beyond words book (length (entry b)) (entry b) _ (omega arith)

pub close_beyond : (words book : List ℕ) → Beyond (unused book) (close_of words book) (close_of words (used book))
unfolding close_of
close_beyond words book = write_beyond words book 0 (closing (last words) (count words)) _ (rw length_closing (omega arith))

pub new_beyond : (words book : List ℕ) → Beyond (unused book) (new_of words book) (new_of words (used book))
unfolding new_of choose
new_beyond words book = by (nat_le 12 (left book 0)) refl
  where
    by : (u : Bool) → nat_le 12 (left book 0) ≡ u → Beyond (unused book) (new_of words book) (new_of words (used book))
    by false q = rw (left_used book 0, q) record { answer = refl; words = refl; book = apart book }
    by true q = rw (left_used book 0, q) record { answer = refl; words = refl; book = apart book }

again : (book : List ℕ) → used (used book) ≡ used book
again book = used_short (used book) (omega (arith, length_used book))

pub forward_used : (book : List ℕ) (place : ℕ) → forward_at (used book) place ≡ forward_at book place
unfolding forward_at
forward_used book place = rw (again book)

pub backward_used : (book : List ℕ) (place : ℕ) → backward_at (used book) place ≡ backward_at book place
unfolding backward_at
backward_used book place = rw (again book)

-- On a closed journal the backward reader finds the forward reader's entries, last first. Assumes nothing.
use Rattle.std.specs.Prelude.{◌≡◌, ℕ, zero, suc, ◌+◌, ◌-◌, true, false, List, [], ◌∷◌, ◌++◌, reverse, length, take, drop, refl}
use Rattle.std.proofs.Common.{sym, ◌∙◌, arith, drop_at, le-leb, eq-eqb}
use Rattle.std.proofs.Math.Path.{ap}
use mathlib.Core.List.{append_assoc, append-nil, reverse-cons}
use Rattle.std.proofs.Math.ListN.{length-append}
use Rattle.wire.specs.Field.{number, number_at}
use Rattle.journal.specs.Journal.{entry, entries, mark, closing, closed_journal, last_offset, AllFine, body_of}
use Rattle.journal.specs.Journal.{start_of, ends, backward_on, closed}
use Rattle.journal.specs.Bytes.{no_is, and_is}
use Rattle.journal.specs.Entry.{length_closing}

-- where bytes end with no whole entry, the reader has ended
pub backward_ends : (k : ℕ) (s : List ℕ) → ends s ≡ false → backward_on k s ≡ []
unfolding backward_on
backward_ends zero s e = refl
backward_ends (suc k) s e = no_is (body_of (drop (start_of s) s) ∷ backward_on k (take (start_of s) s)) [] e

pub entries_append : (xs ys : List (List ℕ)) → entries (xs ++ ys) ≡ entries xs ++ entries ys
unfolding entries
entries_append [] ys = refl
entries_append (x ∷ xs) ys = ap (λ (l : List ℕ). entry x ++ l) (entries_append xs ys) ∙ sym (append_assoc (entry x) (entries xs) (entries ys))

pub entries_last : (xs : List (List ℕ)) (b : List ℕ) → entries (xs ++ (b ∷ [])) ≡ entries xs ++ entry b
unfolding entries
entries_last xs b = entries_append xs (b ∷ []) ∙ ap (λ (l : List ℕ). entries xs ++ l) (append-nil (entry b))

pub fine_append : (xs ys : List (List ℕ)) → AllFine xs → AllFine ys → AllFine (xs ++ ys)
unfolding AllFine
fine_append [] ys f g = g
fine_append (x ∷ xs) ys f g = (f.0, fine_append xs ys f.1 g)

pub fine_reverse : (xs : List (List ℕ)) → AllFine xs → AllFine (reverse xs)
unfolding AllFine
fine_reverse [] f = tt
fine_reverse (x ∷ xs) f = rw reverse-cons (fine_append (reverse xs) (x ∷ []) (fine_reverse xs f.1) (f.0, tt))

-- a closed journal
module _ (bs : List (List ℕ)) where
  pub journal_length : length (closed_journal bs) ≡ length (entries bs) + 12
  unfolding closed_journal
  journal_length = length-append (entries bs) (closing (last_offset bs) (length bs)) ∙ ap (λ (n : ℕ). length (entries bs) + n) (length_closing (last_offset bs) (length bs))

  pub journal_closed : closed (closed_journal bs) ≡ true
  unfolding closed closed_journal closing
  journal_closed =
      let c : List ℕ = closing (last_offset bs) (length bs) in
      let n : ℕ = length (entries bs ++ c) in
      let d : number_at (entries bs ++ c) (n - 12) 4 ≡ number mark =
      ap (λ (l : List ℕ). number (take 4 l)) (drop_at (entries bs) c (n - 12) (omega (arith, journal_length))) in
      and_is (le-leb 12 n (omega (arith, journal_length))) (eq-eqb (number_at (entries bs ++ c) (n - 12) 4) (number mark) d)

-- Laws of what specs/Prefix.antt defines. Assumes nothing.
use Rattle.std.specs.Prelude.{◌≡◌, ℕ, ◌+◌, ◌-◌, ◌<◌, ◌≤◌, Bool, true, false, List, [], ◌∷◌, ◌++◌, length, take, nat_le}
use Rattle.std.proofs.Math.Path.{refl, sym, ap}
use Rattle.std.proofs.Common.{◌∙◌}
use mathlib.Core.List.{append_assoc}
use native.Mathlib.Omega.{arith}
use Rattle.std.proofs.Math.Seq.{take-append-le, take-append-add}
use borrow.Author.Tests.{leb-true, leb-false}
use Rattle.journal.specs.Journal.{choose, entry, entries, closing, closed_journal, last_offset, Fine, AllFine, whole, forward}
use Rattle.journal.specs.Entry.{closing_part_not_whole}
use Rattle.journal.proofs.Entry.{part_not_whole}
use Rattle.journal.specs.Forward.{Read}
use Rattle.journal.proofs.Forward.{forward_exact}
use Rattle.journal.specs.Prefix.{within, remnant}

-- entries and then x, of which no part is a whole entry
module _ (x : List ℕ) (never : (k : ℕ) → whole (take k x) ≡ false) where
  cut_by : (k : ℕ) (b : List ℕ) (bs : List (List ℕ)) (t : Bool) → nat_le (length (entry b)) k ≡ t → Fine b
      → Read (take (k - length (entry b)) (entries bs ++ x)) (within (k - length (entry b)) bs) (remnant x never (k - length (entry b)) bs)
      → Read (take k (entries (b ∷ bs) ++ x)) (within k (b ∷ bs)) (remnant x never k (b ∷ bs))
  unfolding within remnant choose entries AllFine
  cut_by k b bs true e f r =
      let n : ℕ = length (entry b) in
      let h : n ≤ k = leb-true _ _ e in
      let m : n + (k - n) ≡ k = omega arith in
      rw e
      record {
        all =
            append_assoc (entry b) (entries (within (k - n) bs)) (remnant x never (k - n) bs)
            ∙ ap (λ (l : List ℕ). entry b ++ l) r.all
            ∙ sym (take-append-add (entry b) (entries bs ++ x) (k - n))
            ∙ ap (λ (i : ℕ). take i (entry b ++ (entries bs ++ x))) m
            ∙ ap (take k) (sym (append_assoc (entry b) (entries bs) x));
        none = r.none;
        fine = (f, r.fine);
      }
  cut_by k b bs false e f r =
      let h : k < length (entry b) = leb-false _ _ e in
      rw e
      record {
        all = sym (ap (take k) (append_assoc (entry b) (entries bs) x) ∙ take-append-le k (entry b) (entries bs ++ x) (omega arith));
        none = part_not_whole b k f.within h;
        fine = tt;
      }

  cut : (bs : List (List ℕ)) (k : ℕ) → AllFine bs → Read (take k (entries bs ++ x)) (within k bs) (remnant x never k bs)
  unfolding within remnant entries AllFine
  cut [] k f = record { all = refl; none = never k; fine = tt }
  cut (b ∷ bs) k f = cut_by k b bs (nat_le (length (entry b)) k) refl f.0 (cut bs (k - length (entry b)) f.1)

pub stopped : (bs : List (List ℕ)) (k : ℕ) → AllFine bs → forward (take k (closed_journal bs)) ≡ within k bs
unfolding closed_journal
stopped bs k f =
    let x : List ℕ = closing (last_offset bs) (length bs) in
    let r = cut x (closing_part_not_whole (last_offset bs) (length bs)) bs k f in
    ap forward (sym r.all) ∙ forward_exact (within k bs) (remnant x (closing_part_not_whole (last_offset bs) (length bs)) k bs) r.fine r.none

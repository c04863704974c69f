-- What the closing trailer says is so: the offset is where the last entry begins, and the count is that of the entries. Assumes nothing.
use Rattle.std.specs.Prelude.{◌≡◌, ℕ, ◌+◌, ◌-◌, ◌≤◌, List, [], ◌∷◌, ◌++◌, length, drop}
use Rattle.std.proofs.Common.{sym, ◌∙◌, arith, drop_at}
use Rattle.std.proofs.Math.Path.{ap}
use mathlib.Core.List.{append_assoc, append-nil}
use Rattle.std.proofs.Math.ListN.{length-append}
use Rattle.wire.specs.Field.{field, number_at, length_field}
use Rattle.journal.specs.Journal.{entry, entries, mark, closing, last_from, last_offset, closed_journal, reach}
use Rattle.journal.specs.Entry.{number_at_lem}
use Rattle.journal.specs.Forward.{count_entries}
use Rattle.journal.specs.Backward.{journal_length, entries_last}

last_within : (bs : List (List ℕ)) (place last : ℕ) → last ≤ place → last_from place last bs ≤ place + length (entries bs)
unfolding last_from entries
last_within [] place last h = omega arith
last_within (b ∷ bs) place last h =
    let ih : last_from (place + length (entry b)) place bs ≤ place + length (entry b) + length (entries bs) =
    last_within bs (place + length (entry b)) place (omega arith) in
    omega (arith, ih, length-append (entry b) (entries bs))

last_from_lem : (bs : List (List ℕ)) (b : List ℕ) (at o : ℕ) → last_from at o (bs ++ (b ∷ [])) ≡ at + length (entries bs)
unfolding last_from entries
last_from_lem [] b at o = omega arith
last_from_lem (x ∷ bs) b at o =
    last_from_lem bs b (at + length (entry x)) at ∙ omega (arith, length-append (entry x) (entries bs))

pub last_offset_lem : (bs : List (List ℕ)) (b : List ℕ) → last_offset (bs ++ (b ∷ [])) ≡ length (entries bs)
last_offset_lem bs b = last_from_lem bs b 0 0 ∙ omega arith

-- at the offset the last entry begins
pub last_there : (bs : List (List ℕ)) (b : List ℕ)
    → (let all : List (List ℕ) = bs ++ (b ∷ []) in drop (last_offset all) (closed_journal all) ≡ entry b ++ closing (last_offset all) (length all))
unfolding closed_journal
last_there bs b =
    let all : List (List ℕ) = bs ++ (b ∷ []) in
    let x : List ℕ = closing (last_offset all) (length all) in
    let e : entries all ++ x ≡ entries bs ++ (entry b ++ x) = ap (λ (l : List ℕ). l ++ x) (entries_last bs b) ∙ append_assoc (entries bs) (entry b) x in
    ap (drop (last_offset all)) e ∙ drop_at (entries bs) (entry b ++ x) (last_offset all) (sym (last_offset_lem bs b))

module _ (bs : List (List ℕ)) (h : length (closed_journal bs) ≤ reach) where
  abbrev size : ℕ
  size = length (closed_journal bs)

  pub says_last : number_at (closed_journal bs) (size - 8) 4 ≡ last_offset bs
  unfolding closed_journal closing
  says_last =
      let e : closed_journal bs ≡ entries bs ++ mark ++ (field 4 (last_offset bs) ++ field 4 (length bs)) = simp append_assoc in
      let l : length (entries bs ++ mark) ≡ size - 8 = length-append (entries bs) mark ∙ omega (arith, journal_length bs) in
      ap (λ (s : List ℕ). number_at s (size - 8) 4) e
      ∙ number_at_lem (entries bs ++ mark) 4 (last_offset bs) (field 4 (length bs)) (size - 8) l (omega (arith, h, journal_length bs, last_within bs 0 0 (omega arith)))

  pub says_count : number_at (closed_journal bs) (size - 4) 4 ≡ length bs
  unfolding closed_journal closing
  says_count =
      let p : List ℕ = entries bs ++ (mark ++ field 4 (last_offset bs)) in
      let e : closed_journal bs ≡ p ++ (field 4 (length bs) ++ []) = simp (append_assoc, append-nil) in
      let m : length (mark ++ field 4 (last_offset bs)) ≡ 8 = simp length_field in
      let l : length p ≡ size - 4 = length-append (entries bs) (mark ++ field 4 (last_offset bs)) ∙ omega (arith, m, journal_length bs) in
      ap (λ (s : List ℕ). number_at s (size - 4) 4) e
      ∙ number_at_lem p 4 (length bs) [] (size - 4) l (omega (arith, h, journal_length bs, count_entries bs))

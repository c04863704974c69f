-- Laws of what specs/Forward.antt defines. Assumes nothing.
use Rattle.std.specs.Prelude.{◌≡◌, ℕ, zero, suc, ◌+◌, ◌<◌, ◌≤◌, Bool, true, false, List, [], ◌∷◌, ◌++◌, length, take, drop, refl}
use Rattle.std.proofs.Common.{sym, ap, ap₂, ◌∙◌, append_assoc, append-nil, arith, length-append, length-drop, drop_of_length-le}
use Rattle.wire.specs.Field.{Bytes}
use Rattle.journal.specs.Journal.{choose, entry, entries, closing, closed_journal, last_offset, Fine, AllFine, length_of, body_of, whole, forward_on, forward}
use Rattle.journal.specs.Bytes.{yes_is, drop_bytes}
use Rattle.journal.specs.Entry.{Whole, passed, short, read_fine, closing_not_whole, closing_part_not_whole}
use Rattle.journal.proofs.Entry.{entry_again, holds_body, behind, whole_entry, part_not_whole}
use Rattle.journal.specs.Forward.{forward_ends, count_entries, rest_on, Read}

forward_entries : (bs : List (List ℕ)) (rest : List ℕ) (k : ℕ) → AllFine bs → whole rest ≡ false → length bs ≤ k → forward_on k (entries bs ++ rest) ≡ bs
unfolding entries AllFine forward_on
forward_entries [] rest k f e h = forward_ends k rest e
forward_entries (b ∷ bs) rest zero f e h = absurd (omega arith)
forward_entries (b ∷ bs) rest (suc k) f e h =
    let r : List ℕ = entries bs ++ rest in
    ap (forward_on (suc k)) (append_assoc (entry b) (entries bs) rest)
    ∙ yes_is (body_of (entry b ++ r) ∷ forward_on k (drop (length_of (entry b ++ r) + 12) (entry b ++ r))) [] (whole_entry b r f.0)
    ∙ ap₂ (λ (x : List ℕ) (y : List ℕ). x ∷ forward_on k y) (holds_body b r f.0.within) (behind b r f.0.within)
    ∙ ap (λ (l : List (List ℕ)). b ∷ l) (forward_entries bs rest k f.1 e (omega arith))

-- The reader on bytes that are entries and then no whole entry: it finds these entries.
pub forward_exact : (bs : List (List ℕ)) (rest : List ℕ) → AllFine bs → whole rest ≡ false → forward (entries bs ++ rest) ≡ bs
forward_exact bs rest f e =
    let l : length (entries bs ++ rest) ≡ length (entries bs) + length rest = length-append (entries bs) rest in
    forward_entries bs rest (length (entries bs ++ rest)) f e (omega (arith, count_entries bs))

-- If writing stops after any byte of the next entry, the reader finds exactly the entries written whole.
pub stopped_in_entry : (bs : List (List ℕ)) (b : List ℕ) (k : ℕ) → AllFine bs → Fine b → k < length (entry b)
    → forward (entries bs ++ take k (entry b)) ≡ bs
stopped_in_entry bs b k f g h = forward_exact bs (take k (entry b)) f (part_not_whole b k g.within h)

-- If it stops after any byte of the closing trailer, or the trailer is whole, the same.
pub stopped_in_closing : (bs : List (List ℕ)) (k : ℕ) → AllFine bs → forward (entries bs ++ take k (closing (last_offset bs) (length bs))) ≡ bs
stopped_in_closing bs k f = forward_exact bs (take k (closing (last_offset bs) (length bs))) f (closing_part_not_whole (last_offset bs) (length bs) k)

pub forward_closed : (bs : List (List ℕ)) → AllFine bs → forward (closed_journal bs) ≡ bs
unfolding closed_journal
forward_closed bs f =
    let c : List ℕ = closing (last_offset bs) (length bs) in
    forward_exact bs c f (ap whole (sym (append-nil c)) ∙ closing_not_whole (last_offset bs) (length bs) [])

one_more : (s : List ℕ) (bs : List (List ℕ)) (rest : List ℕ) → Bytes s → Whole s → Read (drop (length_of s + 12) s) bs rest → Read s (body_of s ∷ bs) rest
unfolding entries AllFine
one_more s bs rest b w r = record {
  all = append_assoc (entry (body_of s)) (entries bs) rest ∙ ap (λ (l : List ℕ). entry (body_of s) ++ l) r.all ∙ entry_again s b w;
  none = r.none;
  fine = (read_fine s b w, r.fine);
}

by_whole : (k : ℕ) (s : List ℕ) (t : Bool) → whole s ≡ t → Bytes s
    → (Whole s → Read (drop (length_of s + 12) s) (forward_on k (drop (length_of s + 12) s)) (rest_on k (drop (length_of s + 12) s)))
    → Read s (forward_on (suc k) s) (rest_on (suc k) s)
unfolding forward_on rest_on choose entries AllFine
by_whole k s true e b r = rw e (one_more s (forward_on k (drop (length_of s + 12) s)) (rest_on k (drop (length_of s + 12) s)) b (passed s e) (r (passed s e)))
by_whole k s false e b r = rw e record { all = refl; none = e; fine = tt }

-- Any bytes: what the reader finds are entries, one behind the other from the start on, and what follows is no whole entry.
pub forward_reads : (k : ℕ) (s : List ℕ) → Bytes s → length s ≤ k → Read s (forward_on k s) (rest_on k s)
unfolding forward_on rest_on entries AllFine
forward_reads zero s b h = record { all = refl; none = short s (omega arith); fine = tt }
forward_reads (suc k) s b h =
    by_whole k s (whole s) refl b
    (λ (w : Whole s).
    let l : length (drop (length_of s + 12) s) ≤ k = simp length-drop (omega arith) in
    forward_reads k (drop (length_of s + 12) s) (drop_bytes (length_of s + 12) s b) l)

pub forward_stops : (s : List ℕ) → Bytes s → Read s (forward s) (rest_on (length s) s)
forward_stops s b = forward_reads (length s) s b (omega arith)

-- A body has one encoding, and an encoding one body.
pub one_body : (b c : List ℕ) → Fine b → Fine c → entry b ≡ entry c → b ≡ c
one_body b c f g e = sym (holds_body b [] f.within) ∙ ap (λ (s : List ℕ). body_of (s ++ [])) e ∙ holds_body c [] g.within

pub one_encoding : (s : List ℕ) → Bytes s → whole s ≡ true → length s ≡ length_of s + 12 → s ≡ entry (body_of s)
one_encoding s b w l =
    let n : length s ≤ length_of s + 12 = omega arith in
    sym (entry_again s b (passed s w)) ∙ ap (λ (x : List ℕ). entry (body_of s) ++ x) (drop_of_length-le s n) ∙ append-nil (entry (body_of s))

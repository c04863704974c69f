-- If a call of the writer stops after any byte. The logic sees the book before and after a call; the code writes each byte behind the
-- last, so that what is written after k bytes is the book after the call, up to there. Assumes nothing.
use Rattle.std.specs.Prelude.{◌≡◌, ℕ, ◌+◌, ◌<◌, ◌≤◌, min, Bool, true, false, List, [], ◌∷◌, ◌++◌, length, take, nat_le, refl}
use Rattle.std.proofs.Common.{sym, ap, subst, ◌∙◌, append-nil, arith, take_all, take-take, leb-true, leb-false, le-leb}
use Rattle.std.proofs.Math.Seq.{take-append-add}
use Rattle.wire.specs.Splice.{splice, take_splice}
use Rattle.journal.specs.Journal.{choose, entry, entries, closing, last_offset, Fine, AllFine, forward, reach}
use Rattle.journal.specs.Bytes.{yes_is}
use Rattle.journal.specs.Entry.{length_closing, short}
use Rattle.journal.proofs.Forward.{forward_exact, stopped_in_entry, stopped_in_closing}
use Rattle.journal.specs.Backward.{entries_last, fine_append}
use Rattle.journal.specs.Holds.{words_of, Holds, appended, fits_then}
use Rattle.journal.specs.Prefix.{within}
use Rattle.journal.specs.Writer.{Done, place, left, writing, append_of, close_of}

-- Writing goes up byte by byte, so what is written after k bytes of x is the book up to there.
torn : (bs : List (List ℕ)) (book x : List ℕ) (k : ℕ) → take (length (entries bs)) book ≡ entries bs → length (entries bs) + length x ≤ length book → k ≤ length x
    → take (length (entries bs) + k) (splice book (length (entries bs)) x) ≡ entries bs ++ take k x
torn bs book x k p h l =
    let n : ℕ = length (entries bs) in
    sym (take-take (n + k) (n + length x) (splice book n x) (omega arith))
    ∙ ap (take (n + k)) (take_splice book n x h ∙ ap (λ (y : List ℕ). y ++ x) p)
    ∙ take-append-add (entries bs) x k

torn_in_append : (bs : List (List ℕ)) (book b : List ℕ) → Holds bs (words_of bs) book → Fine b → length (entry b) + 12 ≤ left book (length (entries bs)) → (k : ℕ) → k ≤ length (entry b)
    → (t : Bool) → nat_le (length (entry b)) k ≡ t → forward (take (length (entries bs) + k) (append_of (words_of bs) book b).book) ≡ bs ++ within k (b ∷ [])
unfolding appended within choose AllFine
torn_in_append bs book b o f h k l true e =
    let r : length (entries bs) + length (entry b) ≤ length book = omega arith in
    let all : length (entry b) ≤ k = leb-true _ _ e in
    let new : List (List ℕ) = bs ++ (b ∷ []) in
    let p : take (length (entries bs) + k) (splice book (length (entries bs)) (entry b)) ≡ entries new ++ [] =
    torn bs book (entry b) k o.begins r l
    ∙ ap (λ (x : List ℕ). entries bs ++ x) (take_all k (entry b) all)
    ∙ sym (entries_last bs b)
    ∙ sym (append-nil (entries new)) in
    rw (e, fits_then bs book b h) (ap forward p ∙ forward_exact new [] (fine_append bs (b ∷ []) o.fine (f, tt)) (short [] (omega arith)))
torn_in_append bs book b o f h k l false e =
    let r : length (entries bs) + length (entry b) ≤ length book = omega arith in
    let part : k < length (entry b) = leb-false _ _ e in
    rw (e, fits_then bs book b h) (ap forward (torn bs book (entry b) k o.begins r l) ∙ stopped_in_entry bs b k o.fine f part ∙ sym (append-nil bs))

-- If an append stops after any byte, the forward reader, given just the bytes written, finds the entries before it, and this one
-- only if all of it was written.
pub torn_append : (bs : List (List ℕ)) (words book b : List ℕ) → Holds bs words book → Fine b → length (entry b) + 12 ≤ left book (place words) → (k : ℕ) → k ≤ length (entry b)
    → forward (take (place words + k) (append_of words book b).book) ≡ bs ++ within k (b ∷ [])
torn_append bs words book b o f h k l =
    subst
    (λ (w : List ℕ). Holds bs w book → length (entry b) + 12 ≤ left book (place w) → forward (take (place w + k) (append_of w book b).book) ≡ bs ++ within k (b ∷ []))
    (sym o.says)
    (λ o h. torn_in_append bs book b o f h k l (nat_le (length (entry b)) k) refl)
    o
    h

close_then : (bs : List (List ℕ)) (book : List ℕ) → length (entries bs) + 12 ≤ min (length book) reach
    → (close_of (words_of bs) book).book ≡ splice book (length (entries bs)) (closing (last_offset bs) (length bs))
unfolding close_of writing
close_then bs book h =
    ap (λ (d : Done). d.book)
    (yes_is {A = Done} {t = true} _ _ refl ∙ yes_is {A = Done} _ _ (le-leb 12 (left book (length (entries bs))) (omega arith)))

torn_in_close : (bs : List (List ℕ)) (book : List ℕ) → Holds bs (words_of bs) book → (k : ℕ) → k ≤ 12 → forward (take (length (entries bs) + k) (close_of (words_of bs) book).book) ≡ bs
torn_in_close bs book o k l =
    let e : length (closing (last_offset bs) (length bs)) ≡ 12 = length_closing (last_offset bs) (length bs) in
    let m : length (entries bs) + 12 ≤ min (length book) reach = o.room in
    rw (close_then bs book m)
    (ap forward (torn bs book (closing (last_offset bs) (length bs)) k o.begins (omega arith) (omega arith)) ∙ stopped_in_closing bs k o.fine)

-- The same where a closing stops after any byte, its last too.
pub torn_close : (bs : List (List ℕ)) (words book : List ℕ) → Holds bs words book → (k : ℕ) → k ≤ 12 → forward (take (place words + k) (close_of words book).book) ≡ bs
torn_close bs words book o k l =
    subst (λ (w : List ℕ). Holds bs w book → forward (take (place w + k) (close_of w book).book) ≡ bs) (sym o.says) (λ o. torn_in_close bs book o k l) o

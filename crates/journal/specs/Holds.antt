-- What the writer's calls leave in the book: an open journal holds its entries, and a closed one is whole. Assumes nothing.
use Rattle.std.specs.Prelude.{◌≡◌, ℕ, ◌+◌, ◌%◌, ◌^◌, ◌<◌, ◌≤◌, min, Bool, true, false, leb, List, [], ◌∷◌, ◌++◌, length, take, ◌==◌, nat_eq, nat_le, Ok, Err}
use Rattle.std.proofs.Math.Path.{refl, sym, ap}
use Rattle.std.proofs.Common.{subst, ◌∙◌, leb-true, le-leb}
use Rattle.std.proofs.Math.Nat.{mod-eq_of_lt}
use native.Mathlib.Omega.{arith}
use Rattle.std.proofs.Math.ListN.{length-append}
use Rattle.std.proofs.lemmas.Bool.{lt-leb}
use Rattle.wire.specs.Splice.{splice, take_splice, length_splice}
use Rattle.journal.specs.Journal.{choose, entry, entries, closing, last_from, last_offset, closed_journal, Fine, AllFine, reach}
use Rattle.journal.specs.Bytes.{yes_is, no_is}
use Rattle.journal.specs.Entry.{length_closing}
use Rattle.journal.specs.Forward.{count_entries}
use Rattle.journal.specs.Backward.{entries_last, fine_append}
use Rattle.journal.specs.Trailer.{last_offset_lem}
use Rattle.journal.specs.Writer.{Done, place, shut, left, new_of, writing, append_of, close_of}
use Rattle.journal.specs.declared.Unwritten.TheVariants.{NoRoom, Closed}

-- the words of a writer that has written these entries
abbrev pub words_of : List (List ℕ) → List ℕ
words_of bs = length (entries bs) ∷ last_offset bs ∷ length bs ∷ 0 ∷ []

-- an open journal holds these entries and no more; the closing trailer fits behind them
pub record Holds (bs : List (List ℕ)) (words book : List ℕ) : Type 0 where
  pub says : words ≡ words_of bs
  pub begins : take (length (entries bs)) book ≡ entries bs
  pub room : length (entries bs) + 12 ≤ min (length book) reach
  pub fine : AllFine bs

-- no call changes the length of the book
pub new_length : (words book : List ℕ) → length (new_of words book).book ≡ length book
unfolding new_of choose
new_length words book = by (nat_le 12 (left book 0)) refl
  where
    by : (t : Bool) → nat_le 12 (left book 0) ≡ t → length (new_of words book).book ≡ length book
    by true e = rw e
    by false e = rw e

pub append_length : (words book b : List ℕ) → length (append_of words book b).book ≡ length book
unfolding append_of writing choose
append_length words book b = by (shut words == 0) refl (nat_le (length (entry b) + 12) (left book (place words))) refl
  where
    by : (t : Bool) → (shut words == 0) ≡ t → (u : Bool) → nat_le (length (entry b) + 12) (left book (place words)) ≡ u → length (append_of words book b).book ≡ length book
    by false e u q = rw e
    by true e false q = rw (e, q)
    by true e true q =
        let h : length (entry b) + 12 ≤ left book (place words) = leb-true _ _ q in
        rw (e, q) (length_splice book (place words) (entry b) (omega arith))

-- a new journal holds no entries
pub new_holds : (words book : List ℕ) → 12 ≤ left book 0 → ((new_of words book).answer ≡ Ok tt) × Holds [] (new_of words book).words (new_of words book).book
unfolding new_of entries last_from AllFine
new_holds words book h =
    let e : leb 12 (left book 0) ≡ true = le-leb 12 (left book 0) h in
    rw (yes_is {A = Done} _ _ e) (refl, record { says = refl; begins = refl; room = omega arith; fine = tt })

module _ (bs : List (List ℕ)) (book b : List ℕ) where
  unfoldable pub appended : Done
  appended = record {
    answer = Ok tt;
    words = (length (entries bs) + length (entry b)) ∷ length (entries bs) ∷ ((length bs + 1) % 2 ^ 64) ∷ 0 ∷ [];
    book = splice book (length (entries bs)) (entry b);
  }

  pub fits_then : length (entry b) + 12 ≤ left book (length (entries bs)) → append_of (words_of bs) book b ≡ appended
  unfolding append_of writing appended
  fits_then h = yes_is _ _ refl ∙ yes_is _ _ (le-leb (length (entry b) + 12) (left book (length (entries bs))) h)

  pub appended_holds : length (entry b) + 12 ≤ left book (length (entries bs)) → Fine b → Holds bs (words_of bs) book
      → Holds (bs ++ (b ∷ [])) appended.words appended.book
  unfolding appended AllFine
  appended_holds h f o =
      let n : ℕ = length (entries bs) in
      let l : length (entries (bs ++ (b ∷ []))) ≡ n + length (entry b) = ap length (entries_last bs b) ∙ length-append (entries bs) (entry b) in
      let r : n + length (entry b) ≤ length book = omega arith in
      let c : length (bs ++ (b ∷ [])) ≡ length bs + 1 = length-append bs (b ∷ []) in
      let small : length bs + 1 < 2 ^ 64 = omega (arith, count_entries bs) in
      let m : (length bs + 1) % 2 ^ 64 ≡ length (bs ++ (b ∷ [])) = mod-eq_of_lt small ∙ sym c in
      record {
        says = λ i. sym l i ∷ sym (last_offset_lem bs b) i ∷ m i ∷ 0 ∷ [];
        begins = ap (λ (k : ℕ). take k (splice book n (entry b))) l ∙ take_splice book n (entry b) r ∙ ap (λ (x : List ℕ). x ++ entry b) o.begins ∙ sym (entries_last bs b);
        room = rw (l, length_splice book n (entry b) r) (omega arith);
        fine = fine_append bs (b ∷ []) o.fine (f, tt);
      }

written : (bs : List (List ℕ)) (book b : List ℕ) → Holds bs (words_of bs) book → Fine b → length (entry b) + 12 ≤ left book (length (entries bs))
    → ((append_of (words_of bs) book b).answer ≡ Ok tt) × Holds (bs ++ (b ∷ [])) (append_of (words_of bs) book b).words (append_of (words_of bs) book b).book
unfolding appended
written bs book b o f h = rw (fits_then bs book b h) (refl, appended_holds bs book b h f o)

-- an entry that fits is written behind the others
pub append_holds : (bs : List (List ℕ)) (words book b : List ℕ) → Holds bs words book → Fine b → length (entry b) + 12 ≤ left book (place words)
    → ((append_of words book b).answer ≡ Ok tt) × Holds (bs ++ (b ∷ [])) (append_of words book b).words (append_of words book b).book
append_holds bs words book b o f h =
    subst
    (λ (w : List ℕ). Holds bs w book → length (entry b) + 12 ≤ left book (place w)
    → ((append_of w book b).answer ≡ Ok tt) × Holds (bs ++ (b ∷ [])) (append_of w book b).words (append_of w book b).book)
    (sym o.says)
    (λ o h. written bs book b o f h)
    o
    h

-- one that does not fit leaves all as it was
pub append_left_out : (bs : List (List ℕ)) (words book b : List ℕ) → Holds bs words book → left book (place words) < length (entry b) + 12
    → append_of words book b ≡ record { answer = Err NoRoom; words = words; book = book }
unfolding append_of writing
append_left_out bs words book b o h =
    let e : nat_eq (shut words) 0 ≡ true = ap (λ (w : List ℕ). nat_eq (shut w) 0) o.says in
    yes_is _ _ e ∙ no_is _ _ (lt-leb (length (entry b) + 12) (left book (place words)) h)

-- a closed journal answers "closed" first, and all stays as it was
pub stays_closed : (words book : List ℕ) → (shut words == 0) ≡ false
    → ((b : List ℕ) → append_of words book b ≡ record { answer = Err Closed; words = words; book = book })
    × (close_of words book ≡ record { answer = Err Closed; words = words; book = book })
unfolding append_of close_of writing
stays_closed words book h = (λ b. no_is _ _ h, no_is _ _ h)

-- an open journal can always be closed, and the bytes written are then the closed journal of its entries
pub record IsClosed (bs : List (List ℕ)) (done : Done) : Type 0 where
  pub answer : done.answer ≡ Ok tt
  pub says : done.words ≡ length (closed_journal bs) ∷ last_offset bs ∷ length bs ∷ 1 ∷ []
  pub all : take (length (closed_journal bs)) done.book ≡ closed_journal bs
  pub fine : AllFine bs
  pub reaches : length (closed_journal bs) ≤ reach

now_closed : (bs : List (List ℕ)) (book : List ℕ) → take (length (entries bs)) book ≡ entries bs → length (entries bs) + 12 ≤ min (length book) reach → AllFine bs
    → IsClosed bs (close_of (words_of bs) book)
unfolding close_of writing closed_journal
now_closed bs book p r fine =
    let n : ℕ = length (entries bs) in
    let x : List ℕ = closing (last_offset bs) (length bs) in
    let e : length x ≡ 12 = length_closing (last_offset bs) (length bs) in
    let l : length (entries bs ++ x) ≡ n + length x = length-append (entries bs) x in
    let f : leb 12 (left book n) ≡ true = le-leb 12 (left book n) (omega arith) in
    rw (yes_is {A = Done} {t = true} _ _ refl, yes_is {A = Done} _ _ f)
    record {
      answer = refl;
      says = ap (λ (k : ℕ). k ∷ last_offset bs ∷ length bs ∷ 1 ∷ []) (sym (l ∙ ap (λ (k : ℕ). n + k) e));
      all = ap (λ (k : ℕ). take k (splice book n x)) l ∙ take_splice book n x (omega arith) ∙ ap (λ (y : List ℕ). y ++ x) p;
      fine = fine;
      reaches = omega arith;
    }

pub close_closes : (bs : List (List ℕ)) (words book : List ℕ) → Holds bs words book → IsClosed bs (close_of words book)
close_closes bs words book o = subst (λ (w : List ℕ). IsClosed bs (close_of w book)) (sym o.says) (now_closed bs book o.begins o.room o.fine)

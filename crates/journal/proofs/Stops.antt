-- Laws of what specs/Stops.antt defines. Assumes nothing.
use Rattle.std.specs.Prelude.{◌≡◌, ℕ, zero, suc, ◌+◌, ◌-◌, ◌≤◌, Bool, true, false, List, [], ◌∷◌, ◌++◌, reverse, length, take, drop, refl, ◌&&◌, nat_eq, nat_le}
use Rattle.std.proofs.Common.{sym, ap, subst, ◌∙◌, arith, length-take, length-drop, take-append-drop, drop_of_length-le, leb-true, eqb-true}
use mathlib.Core.List.{append_assoc, append-nil, reverse-cons}
use Rattle.wire.specs.Field.{Bytes}
use Rattle.journal.specs.Journal.{choose, entry, entries, AllFine, length_of, body_of, distance_of, start_of, ends, backward_on, closed, backward, whole}
use Rattle.journal.specs.Bytes.{yes_is, take_bytes, drop_bytes, and_left, and_right}
use Rattle.journal.specs.Entry.{passed, read_fine}
use Rattle.journal.proofs.Entry.{entry_again}
use Rattle.journal.specs.Backward.{entries_last}
use Rattle.journal.proofs.Backward.{too_few}
use Rattle.journal.specs.Stops.{Ended, rest_back, ReadBack}

pub ended : (s : List ℕ) → ends s ≡ true → Ended s
unfolding ends
ended s e =
    let p : Bool = nat_le (distance_of s + 8) (length s) in
    let q : Bool = whole (drop (start_of s) s) in
    let r : Bool = nat_eq (length_of (drop (start_of s) s) + 4) (distance_of s) in
    let two : (p && q) ≡ true = and_left (p && q) r e in
    record {
      far = leb-true (distance_of s + 8) (length s) (and_left p q two);
      last = and_right p q two;
      same = eqb-true (length_of (drop (start_of s) s) + 4) (distance_of s) (and_right (p && q) r e);
    }

-- the last entry, written again, ends the bytes
last_again : (s : List ℕ) → Bytes s → Ended s → take (start_of s) s ++ entry (body_of (drop (start_of s) s)) ≡ s
last_again s b h =
    let i : ℕ = start_of s in
    let t : List ℕ = drop i s in
    let far : distance_of s + 8 ≤ length s = h.far in
    let same : length_of t + 4 ≡ distance_of s = h.same in
    let l : length t ≡ length s - i = length-drop i s in
    let n : length t ≤ length_of t + 12 = omega arith in
    let z : drop (length_of t + 12) t ≡ [] = drop_of_length-le t n in
    let g : entry (body_of t) ≡ t =
    sym (append-nil (entry (body_of t))) ∙ ap (λ (x : List ℕ). entry (body_of t) ++ x) (sym z) ∙ entry_again t (drop_bytes i s b) (passed t h.last) in
    ap (λ (x : List ℕ). take i s ++ x) g ∙ take-append-drop i s

one_more : (s : List ℕ) (bs : List (List ℕ)) (rest : List ℕ) → Bytes s → Ended s → ReadBack (take (start_of s) s) bs rest → ReadBack s (body_of (drop (start_of s) s) ∷ bs) rest
unfolding AllFine
one_more s bs rest b h r =
    let i : ℕ = start_of s in
    let x : List ℕ = body_of (drop i s) in
    record {
      all =
          ap (λ (l : List ℕ). rest ++ l) (ap entries (reverse-cons x bs) ∙ entries_last (reverse bs) x)
          ∙ sym (append_assoc rest (entries (reverse bs)) (entry x))
          ∙ ap (λ (l : List ℕ). l ++ entry x) r.all
          ∙ last_again s b h;
      none = r.none;
      fine = (read_fine (drop i s) (drop_bytes i s b) (passed (drop i s) h.last), r.fine);
    }

by_ends : (k : ℕ) (s : List ℕ) (t : Bool) → ends s ≡ t → Bytes s
    → (Ended s → ReadBack (take (start_of s) s) (backward_on k (take (start_of s) s)) (rest_back k (take (start_of s) s)))
    → ReadBack s (backward_on (suc k) s) (rest_back (suc k) s)
unfolding backward_on rest_back choose entries AllFine
by_ends k s true e b r = rw e (one_more s (backward_on k (take (start_of s) s)) (rest_back k (take (start_of s) s)) b (ended s e) (r (ended s e)))
by_ends k s false e b r = rw e record { all = append-nil s; none = e; fine = tt }

pub backward_reads : (k : ℕ) (s : List ℕ) → Bytes s → length s ≤ k → ReadBack s (backward_on k s) (rest_back k s)
unfolding backward_on rest_back entries AllFine
backward_reads zero s b h = record { all = append-nil s; none = too_few s (omega arith); fine = tt }
backward_reads (suc k) s b h =
    by_ends k s (ends s) refl b
    (λ (w : Ended s).
    let far : distance_of s + 8 ≤ length s = w.far in
    let l : length (take (start_of s) s) ≤ k = simp length-take (omega arith) in
    backward_reads k (take (start_of s) s) (take_bytes (start_of s) s b) l)

-- Else, in the bytes before these:
pub backward_stops : (s : List ℕ) → Bytes s → closed s ≡ true
    → (let t : List ℕ = take (length s - 12) s in ReadBack t (backward s) (rest_back (length s) t))
unfolding backward
backward_stops s b c =
    let t : List ℕ = take (length s - 12) s in
    let l : length t ≤ length s = simp length-take (omega arith) in
    subst (λ (x : List (List ℕ)). ReadBack t x (rest_back (length s) t)) (sym (yes_is (backward_on (length s) t) [] c))
    (backward_reads (length s) t (take_bytes (length s - 12) s b) l)

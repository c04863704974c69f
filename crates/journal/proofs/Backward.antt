-- Laws of what specs/Backward.antt defines. Assumes nothing.
use Rattle.std.specs.Prelude.{◌≡◌, ℕ, zero, suc, ◌+◌, ◌-◌, ◌≤◌, true, List, [], ◌∷◌, ◌++◌, reverse, length, take, drop, refl, ◌<◌, false, ◌==◌}
use Rattle.std.proofs.Common.{sym, ap₂, ◌∙◌, arith, drop_at, le-leb, eq-eqb}
use Rattle.std.proofs.Math.Path.{ap}
use mathlib.Core.List.{append_assoc, append-nil, reverse-cons, reverse-reverse}
use Rattle.std.proofs.Math.ListN.{length-append}
use Rattle.std.proofs.lemmas.List.{length-reverse}
use Rattle.std.proofs.Math.Seq.{take_at}
use Rattle.wire.specs.Field.{field, number_at}
use Rattle.crc.specs.Crc.{crc_of}
use Rattle.journal.specs.Journal.{body_limit, headed, entry, entries, closing, closed_journal, last_offset, Fine, AllFine, length_of, body_of, whole, distance_of, start_of, ends, backward_on, backward, forward}
use Rattle.journal.specs.Bytes.{yes_is, and_is, and_not}
use Rattle.journal.specs.Entry.{length_entry, number_at_lem, headed_length}
use Rattle.journal.proofs.Entry.{says_length, holds_body, whole_entry}
use Rattle.journal.specs.Forward.{count_entries}
use Rattle.journal.proofs.Forward.{forward_closed}
use Rattle.journal.specs.Backward.{backward_ends, entries_last, fine_reverse, journal_length, journal_closed}
use Rattle.std.proofs.lemmas.Bool.{lt-leb}

pub too_few : (s : List ℕ) → length s < distance_of s + 8 → ends s ≡ false
unfolding ends
too_few s h =
    and_not (length_of (drop (start_of s) s) + 4 == distance_of s)
    (and_not (whole (drop (start_of s) s)) (lt-leb (distance_of s + 8) (length s) h))

-- bytes that end with an entry
module _ (p b : List ℕ) (f : Fine b) where
  all_length : length (p ++ entry b) ≡ length p + (length b + 12)
  all_length = length-append p (entry b) ∙ ap (λ (n : ℕ). length p + n) (length_entry b)

  says_distance : distance_of (p ++ entry b) ≡ length b + 4
  unfolding distance_of entry
  says_distance =
      let e : p ++ entry b ≡ p ++ headed b ++ (field 4 (length b + 4) ++ field 4 (crc_of (headed b))) = simp append_assoc in
      let l : length (p ++ headed b) ≡ length (p ++ entry b) - 8 =
      length-append p (headed b) ∙ omega (arith, all_length, headed_length b []) in
      let w : length b ≤ body_limit = f.within in
      ap (λ (s : List ℕ). number_at s (length (p ++ entry b) - 8) 4) e
      ∙ number_at_lem (p ++ headed b) 4 (length b + 4) (field 4 (crc_of (headed b))) (length (p ++ entry b) - 8) l (omega arith)

  says_start : start_of (p ++ entry b) ≡ length p
  says_start = omega (arith, all_length, says_distance)

  last_entry : drop (start_of (p ++ entry b)) (p ++ entry b) ≡ entry b ++ []
  last_entry = ap (λ (n : ℕ). drop n (p ++ entry b)) says_start ∙ drop_at p (entry b) (length p) refl ∙ sym (append-nil (entry b))

  pub before_last : take (start_of (p ++ entry b)) (p ++ entry b) ≡ p
  before_last = ap (λ (n : ℕ). take n (p ++ entry b)) says_start ∙ take_at p (entry b) (length p) refl

  pub last_body : body_of (drop (start_of (p ++ entry b)) (p ++ entry b)) ≡ b
  last_body = ap (λ (s : List ℕ). body_of s) last_entry ∙ holds_body b [] f.within

  pub ends_entry : ends (p ++ entry b) ≡ true
  unfolding ends
  ends_entry =
      let s : List ℕ = p ++ entry b in
      let w : length b ≤ body_limit = f.within in
      let n : length_of (drop (start_of s) s) ≡ length b = ap length_of last_entry ∙ says_length b [] w in
      and_is
      (and_is (le-leb (distance_of s + 8) (length s) (omega (arith, all_length, says_distance))) (ap whole last_entry ∙ whole_entry b [] f))
      (eq-eqb (length_of (drop (start_of s) s) + 4) (distance_of s) (omega (arith, says_distance)))

backward_entries : (rs : List (List ℕ)) (k : ℕ) → AllFine rs → length rs ≤ k → backward_on k (entries (reverse rs)) ≡ rs
unfolding AllFine backward_on entries
backward_entries [] k f h = backward_ends k [] (too_few [] (omega arith))
backward_entries (b ∷ rs) zero f h = absurd (omega arith)
backward_entries (b ∷ rs) (suc k) f h =
    let p : List ℕ = entries (reverse rs) in
    let e : entries (reverse (b ∷ rs)) ≡ p ++ entry b = ap entries (reverse-cons b rs) ∙ entries_last (reverse rs) b in
    let s : List ℕ = p ++ entry b in
    ap (backward_on (suc k)) e
    ∙ yes_is (body_of (drop (start_of s) s) ∷ backward_on k (take (start_of s) s)) [] (ends_entry p b f.0)
    ∙ ap₂ (λ (x : List ℕ) (y : List ℕ). x ∷ backward_on k y) (last_body p b f.0) (before_last p b f.0)
    ∙ ap (λ (l : List (List ℕ)). b ∷ l) (backward_entries rs k f.1 (omega arith))

-- a closed journal
module _ (bs : List (List ℕ)) where
  journal_before : take (length (closed_journal bs) - 12) (closed_journal bs) ≡ entries bs
  unfolding closed_journal
  journal_before =
      let c : List ℕ = closing (last_offset bs) (length bs) in
      take_at (entries bs) c (length (entries bs ++ c) - 12) (omega (arith, (journal_length bs)))

-- On a journal that our writer closed the backward reader finds all entries, last first: the forward reader's, turned round.
pub backward_closed : (bs : List (List ℕ)) → AllFine bs → backward (closed_journal bs) ≡ reverse bs
unfolding backward
backward_closed bs f =
    let s : List ℕ = closed_journal bs in
    yes_is (backward_on (length s) (take (length s - 12) s)) [] (journal_closed bs)
    ∙ ap (backward_on (length s)) (journal_before bs ∙ ap entries (sym (reverse-reverse bs)))
    ∙ backward_entries (reverse bs) (length s) (fine_reverse bs f) (omega (arith, length-reverse bs, journal_length bs, count_entries bs))

pub backward_forward : (bs : List (List ℕ)) → AllFine bs → backward (closed_journal bs) ≡ reverse (forward (closed_journal bs))
backward_forward bs f = backward_closed bs f ∙ ap reverse (sym (forward_closed bs f))

-- Laws of what specs/Entry.antt defines. Assumes nothing.
use Rattle.std.specs.Prelude.{◌≡◌, ℕ, ◌+◌, ◌<◌, ◌≤◌, true, false, List, [], ◌++◌, length, take, drop}
use Rattle.std.proofs.Math.Path.{refl, sym, ap, ap₂}
use Rattle.std.proofs.Common.{◌∙◌, ⊎_elim, length-take, drop_at, take-take, le-leb, eq-eqb, take-add}
use mathlib.Core.List.{append_assoc, append-nil}
use native.Mathlib.Omega.{arith}
use Rattle.std.proofs.Math.ListN.{length-append}
use Rattle.std.proofs.Math.Seq.{take_at}
use Rattle.wire.specs.Field.{field, number, number_at, length_field, Bytes}
use Rattle.crc.specs.Crc.{crc_of}
use Rattle.crc.specs.Feed.{crc_lt}
use Rattle.journal.specs.Journal.{body_limit, headed, entry, Fine, length_of, body_of, whole}
use Rattle.journal.specs.Bytes.{below, and_is, append_bytes, field_bytes, field_at}
use Rattle.journal.specs.Entry.{length_entry, number_at_lem, headed_length, short, Whole, four_parts, body_length}

-- an entry with what follows, cut at each of its fields
module _ (b rest : List ℕ) where
  sum : ℕ
  sum = crc_of (headed b)

  at_length : entry b ++ rest ≡ [] ++ (field 4 (length b) ++ (b ++ (field 4 (length b + 4) ++ (field 4 sum ++ rest))))
  unfolding entry sum
  at_length = simp append_assoc

  at_distance : entry b ++ rest ≡ headed b ++ (field 4 (length b + 4) ++ (field 4 sum ++ rest))
  unfolding entry sum
  at_distance = simp append_assoc

  at_sum : entry b ++ rest ≡ headed b ++ field 4 (length b + 4) ++ (field 4 sum ++ rest)
  unfolding entry sum
  at_sum = simp append_assoc

  -- it says its length, holds its body, and what follows it follows it
  pub says_length : length b ≤ body_limit → length_of (entry b ++ rest) ≡ length b
  unfolding length_of
  says_length h =
      ap (λ (l : List ℕ). number_at l 0 4) at_length
      ∙ number_at_lem [] 4 (length b) (b ++ (field 4 (length b + 4) ++ (field 4 sum ++ rest))) 0 refl (omega arith)

  pub holds_body : length b ≤ body_limit → body_of (entry b ++ rest) ≡ b
  holds_body h =
      ap (λ (n : ℕ). take n (drop 4 (entry b ++ rest))) (says_length h)
      ∙ ap (λ (l : List ℕ). take (length b) (drop 4 l)) at_length
      ∙ ap (take (length b)) (drop_at (field 4 (length b)) (b ++ (field 4 (length b + 4) ++ (field 4 sum ++ rest))) 4 (length_field 4 (length b)))
      ∙ take_at b (field 4 (length b + 4) ++ (field 4 sum ++ rest)) (length b) refl

  pub behind : length b ≤ body_limit → drop (length_of (entry b ++ rest) + 12) (entry b ++ rest) ≡ rest
  behind h =
      ap (λ (n : ℕ). drop (n + 12) (entry b ++ rest)) (says_length h)
      ∙ drop_at (entry b) rest (length b + 12) (length_entry b)

  -- what was written is a whole entry
  pub whole_entry : Fine b → whole (entry b ++ rest) ≡ true
  unfolding whole sum
  whole_entry f =
      let w : length b ≤ body_limit = f.within in
      let s : List ℕ = entry b ++ rest in
      let n : length_of s ≡ length b = says_length w in
      let l : length s ≡ length b + 12 + length rest = length-append (entry b) rest ∙ ap (λ (k : ℕ). k + length rest) (length_entry b) in
      let d : number_at s (length b + 4) 4 ≡ length b + 4 =
      ap (λ (l : List ℕ). number_at l (length b + 4) 4) at_distance
      ∙ number_at_lem (headed b) 4 (length b + 4) (field 4 sum ++ rest) (length b + 4) (headed_length b rest) (omega arith) in
      let t : take (length b + 4) s ≡ headed b =
      ap (take (length b + 4)) at_distance ∙ take_at (headed b) (field 4 (length b + 4) ++ (field 4 sum ++ rest)) (length b + 4) (headed_length b rest) in
      let g : length (headed b ++ field 4 (length b + 4)) ≡ length b + 8 = simp (length-append, length_field) (omega arith) in
      let c : number_at s (length b + 8) 4 ≡ sum =
      ap (λ (l : List ℕ). number_at l (length b + 8) 4) at_sum
      ∙ number_at_lem (headed b ++ field 4 (length b + 4)) 4 sum rest (length b + 8) g
      (crc_lt (headed b) (append_bytes (field 4 (length b)) b (field_bytes 4 (length b)) f.bytes)) in
      rw n
      (and_is
      (and_is
      (and_is (le-leb (length b + 12) (length s) (omega arith)) (le-leb (length b) body_limit w))
      (eq-eqb (number_at s (length b + 4) 4) (length b + 4) d))
      (eq-eqb (number_at s (length b + 8) 4) (crc_of (take (length b + 4) s)) (c ∙ ap crc_of (sym t))))

-- a part of an entry, or of the closing trailer, is no whole entry
pub part_not_whole : (b : List ℕ) (k : ℕ) → length b ≤ body_limit → k < length (entry b) → whole (take k (entry b)) ≡ false
unfolding length_of
part_not_whole b k w h =
    let s : List ℕ = take k (entry b) in
    let e : length (entry b) ≡ length b + 12 = length_entry b in
    let l : length s ≡ k = simp length-take (omega arith) in
    ⊎_elim
    (λ (c : k < 12). short s (omega arith))
    (λ (c : 12 ≤ k).
    let n : length_of s ≡ length b =
    ap number (take-take 4 k (entry b) (omega arith)) ∙ ap (λ (x : List ℕ). length_of x) (sym (append-nil (entry b))) ∙ says_length b [] w in
    short s (omega arith))
    (below k 12)

-- what is read was written: there is one encoding of a body
module _ (s : List ℕ) (bytes : Bytes s) (w : Whole s) where
  head_again : headed (body_of s) ≡ take (length_of s + 4) s
  unfolding length_of
  head_again =
      let e : 4 + length_of s ≡ length_of s + 4 = omega arith in
      ap (λ (n : ℕ). field 4 n ++ body_of s) (body_length s bytes w)
      ∙ ap (λ (l : List ℕ). l ++ body_of s) (field_at s 0 4 (omega arith) bytes)
      ∙ sym (take-add 4 (length_of s) s)
      ∙ ap (λ (n : ℕ). take n s) e

  pub entry_again : entry (body_of s) ++ drop (length_of s + 12) s ≡ s
  unfolding entry
  entry_again =
      let n : ℕ = length_of s in
      ap (λ (l : List ℕ). l ++ field 4 (length (body_of s) + 4) ++ field 4 (crc_of l) ++ drop (n + 12) s) head_again
      ∙ ap (λ (k : ℕ). take (n + 4) s ++ field 4 (k + 4) ++ field 4 (crc_of (take (n + 4) s)) ++ drop (n + 12) s) (body_length s bytes w)
      ∙ ap₂ (λ (x y : ℕ). take (n + 4) s ++ field 4 x ++ field 4 y ++ drop (n + 12) s) (sym w.distance) (sym w.summed)
      ∙ ap₂ (λ (x y : List ℕ). take (n + 4) s ++ x ++ y ++ drop (n + 12) s) (field_at s (n + 4) 4 (omega arith) bytes) (field_at s (n + 8) 4 (omega arith) bytes)
      ∙ four_parts s n

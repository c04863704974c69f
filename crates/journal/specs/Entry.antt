-- An entry and its bytes: what was written is read again, whatever follows it, and what is read was written. Assumes nothing.
use Rattle.std.specs.Prelude.{◌≡◌, ℕ, ◌+◌, ◌^◌, ◌<◌, ◌≤◌, Bool, true, false, ◌&&◌, leb, List, [], ◌++◌, length, take, drop, ◌==◌, nat_eq, nat_le}
use Rattle.std.proofs.Math.Path.{sym, ap}
use Rattle.std.proofs.Common.{◌∙◌, ⊎_elim, lit<, length-take, length-drop, take-append-drop, drop_at, take_all, take-add, leb-true, eqb-true}
use mathlib.Core.List.{append-nil}
use native.Mathlib.Omega.{arith}
use Rattle.std.proofs.Math.ListN.{length-append}
use Rattle.std.proofs.Math.Seq.{take_at}
use Rattle.std.proofs.lemmas.Bool.{lt-leb}
use Rattle.wire.specs.Field.{field, number, number_at, Bytes, length_field, number_field}
use Rattle.crc.specs.Crc.{crc_of}
use Rattle.journal.specs.Journal.{body_limit, headed, entry, mark, closing, Fine, length_of, body_of, whole}
use Rattle.journal.specs.Bytes.{below, and_left, and_right, and_not, not_and, take_bytes, drop_bytes}

pub length_entry : (b : List ℕ) → length (entry b) ≡ length b + 12
unfolding entry
length_entry b = simp (length-append, length_field) (omega arith)

pub length_closing : (o n : ℕ) → length (closing o n) ≡ 12
unfolding closing
length_closing o n = simp (length-append, length_field)

-- the number in a field that stands at a place
pub number_at_lem : (p : List ℕ) (n x : ℕ) (rest : List ℕ) (place : ℕ) → length p ≡ place → x < 256 ^ n → number_at (p ++ (field n x ++ rest)) place n ≡ x
number_at_lem p n x rest place e h =
    ap (λ (l : List ℕ). number (take n l)) (drop_at p (field n x ++ rest) place e)
    ∙ ap number (take_at (field n x) rest n (length_field n x))
    ∙ number_field n h

-- an entry with what follows, cut at each of its fields
module _ (b rest : List ℕ) where
  pub headed_length : length (headed b) ≡ length b + 4
  headed_length = simp (length-append, length_field) (omega arith)

-- the tests that a whole entry passed
pub record Whole (s : List ℕ) : Type 0 where
  pub enough : length_of s + 12 ≤ length s
  pub within : length_of s ≤ body_limit
  pub distance : number_at s (length_of s + 4) 4 ≡ length_of s + 4
  pub summed : number_at s (length_of s + 8) 4 ≡ crc_of (take (length_of s + 4) s)

pub passed : (s : List ℕ) → whole s ≡ true → Whole s
unfolding whole
passed s e =
    let n : ℕ = length_of s in
    let p : Bool = leb (n + 12) (length s) in
    let q : Bool = leb n body_limit in
    let r : Bool = nat_eq (number_at s (n + 4) 4) (n + 4) in
    let t : Bool = nat_eq (number_at s (n + 8) 4) (crc_of (take (n + 4) s)) in
    let three : (p && q && r) ≡ true = and_left (p && q && r) t e in
    let two : (p && q) ≡ true = and_left (p && q) r three in
    record {
      enough = leb-true (n + 12) (length s) (and_left p q two);
      within = leb-true n body_limit (and_right p q two);
      distance = eqb-true (number_at s (n + 4) 4) (n + 4) (and_right (p && q) r three);
      summed = eqb-true (number_at s (n + 8) 4) (crc_of (take (n + 4) s)) (and_right (p && q && r) t e);
    }

-- bytes that fall short, or that say too great a length, are no whole entry
pub short : (s : List ℕ) → length s < length_of s + 12 → whole s ≡ false
unfolding whole
short s h = rw (lt-leb (length_of s + 12) (length s) h)

pub too_long : (s : List ℕ) → body_limit < length_of s → whole s ≡ false
unfolding whole
too_long s h =
    let n : ℕ = length_of s in
    and_not (number_at s (n + 8) 4 == crc_of (take (n + 4) s))
    (and_not (number_at s (n + 4) 4 == n + 4) (not_and (nat_le (n + 12) (length s)) (lt-leb n body_limit h)))

-- four parts of a list in a row are the list
pub four_parts : (s : List ℕ) (n : ℕ) → take (n + 4) s ++ take 4 (drop (n + 4) s) ++ take 4 (drop (n + 8) s) ++ drop (n + 12) s ≡ s
four_parts s n =
    let e : n + 4 + 4 ≡ n + 8 = omega arith in
    let f : n + 8 + 4 ≡ n + 12 = omega arith in
    ap (λ (l : List ℕ). l ++ take 4 (drop (n + 8) s) ++ drop (n + 12) s) (sym (take-add (n + 4) 4 s) ∙ ap (λ (k : ℕ). take k s) e)
    ∙ ap (λ (l : List ℕ). l ++ drop (n + 12) s) (sym (take-add (n + 8) 4 s) ∙ ap (λ (k : ℕ). take k s) f)
    ∙ take-append-drop (n + 12) s

-- what is read was written: there is one encoding of a body
module _ (s : List ℕ) (bytes : Bytes s) (w : Whole s) where
  pub body_length : length (body_of s) ≡ length_of s
  body_length = simp (length-take, length-drop) (omega arith)

  pub read_fine : Fine (body_of s)
  read_fine = record { bytes = take_bytes (length_of s) (drop 4 s) (drop_bytes 4 s bytes); within = rw body_length w.within }

-- "BACK" is no allowed length: a closing trailer, with anything behind it, is no whole entry
pub mark_too_long : body_limit < number mark
mark_too_long = lit< tt

pub closing_not_whole : (o n : ℕ) (rest : List ℕ) → whole (closing o n ++ rest) ≡ false
unfolding closing length_of
closing_not_whole o n rest = too_long (closing o n ++ rest) (lit< tt)

pub closing_part_not_whole : (o n k : ℕ) → whole (take k (closing o n)) ≡ false
closing_part_not_whole o n k =
    let e : length (closing o n) ≡ 12 = length_closing o n in
    ⊎_elim
    (λ (c : k < 12).
    let l : length (take k (closing o n)) ≡ k = simp length-take (omega arith) in
    short (take k (closing o n)) (omega arith))
    (λ (c : 12 ≤ k). ap whole (take_all k (closing o n) (omega arith) ∙ sym (append-nil (closing o n))) ∙ closing_not_whole o n [])
    (below k 12)

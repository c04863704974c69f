-- What a delivery takes shows the same: the scan of just the bytes that it takes is the scan of all.
use mathlib.Core.Path.{◌≡◌, refl, sym, ap, ◌∙◌}
use mathlib.Core.Bool.{Bool, true, false}
use mathlib.Core.List.{List, [], ◌∷◌}
use Prim.Native.Nat.{ℕ, zero, suc, ◌+◌, ◌≤◌, ◌<◌}
use native.Mathlib.Omega.{arith}
use lib.Dec.{ltb}
use lib.ListN.{get_or, length, take, drop, length-take}
use lib.Seq.{get_or-take, take-add, drop_at, take-take, length-take-le}
use borrow.Author.Tests.{ltb-false, le-ltb}
use Rattle.wire.specs.Field.{number, number_at}
use Rattle.wire.specs.declared.Header.{Header}
use Rattle.wire.specs.Message.{header, prologue}
use Rattle.model.specs.Sizes.{payload_limit}
use Rattle.model.specs.Scan.{Scan, sorted, fresh_scan, scan, size}

-- what stands before place k is the same in the first k
part_take : (i n k : ℕ) (bs : List ℕ) → i + n ≤ k → take n (drop i (take k bs)) ≡ take n (drop i bs)
part_take zero n k bs h = take-take n k bs (omega arith)
part_take (suc i) n zero bs h = absurd (omega arith)
part_take (suc i) n (suc k) [] h = refl
part_take (suc i) n (suc k) (b ∷ bs) h = part_take i n k bs (omega arith)

number_take : (i n k : ℕ) (bs : List ℕ) → i + n ≤ k → number_at (take k bs) i n ≡ number_at bs i n
number_take i n k bs h = ap number (part_take i n k bs h)

pub header_take : (k : ℕ) (bs : List ℕ) → 16 ≤ k → header (take k bs) ≡ header bs
unfolding header
header_take k bs h =
    let e = number_take 4 4 k bs (omega arith) in
    let f = number_take 8 8 k bs (omega arith) in
    rw (get_or-take k bs 2 0 (omega arith), get_or-take k bs 3 0 (omega arith)) (λ j. record { kind = get_or bs 2 0; code = get_or bs 3 0; param = e j; len = f j })

payload_take : (n : ℕ) (bs : List ℕ) → 16 + n ≤ length bs → take n (drop 16 (take (16 + n) bs)) ≡ take n (drop 16 bs)
payload_take n bs h =
    rw (take-add 16 n bs, drop_at (take 16 bs) (take n (drop 16 bs)) 16 (length-take-le 16 bs (omega arith))) (take-take n n (drop 16 bs) (omega arith))

prologue_take : (k : ℕ) (bs : List ℕ) → 16 ≤ k → prologue (take k bs) ≡ prologue bs
prologue_take k bs h = rw (get_or-take k bs 0 0 (omega arith), get_or-take k bs 1 0 (omega arith))

-- all four tests come out alike on just the bytes taken
fresh_cut : (bs : List ℕ) (k : ℕ) → size (fresh_scan bs) ≡ k → 0 < k → fresh_scan (take k bs) ≡ fresh_scan bs
unfolding fresh_scan
fresh_cut bs k e p = go (ltb (length bs) 16) (prologue bs) (ltb payload_limit n) (ltb (length bs) (16 + n)) refl refl refl refl e
  where
    n : ℕ
    n = (header bs).len

    go : (a b c d : Bool) → ltb (length bs) 16 ≡ a → prologue bs ≡ b → ltb payload_limit n ≡ c → ltb (length bs) (16 + n) ≡ d
        → size (sorted a b c d bs (header bs)) ≡ k → fresh_scan (take k bs) ≡ sorted a b c d bs (header bs)
    go true b c d ea eb ec ed e = absurd (omega arith)
    go false false c d ea eb ec ed e = absurd (omega arith)
    go false true true d ea eb ec ed e =
        let l : 16 ≤ length bs = ltb-false _ _ ea in
        rw (header_take k bs (omega arith), prologue_take k bs (omega arith), eb, ec, length-take-le k bs (omega arith), le-ltb k 16 (omega arith))
    go false true false true ea eb ec ed e = absurd (omega arith)
    go false true false false ea eb ec ed e =
        let l : 16 + n ≤ length bs = ltb-false _ _ ed in
        rw (
          header_take k bs (omega arith),
          prologue_take k bs (omega arith),
          eb,
          ec,
          length-take-le k bs (omega arith),
          le-ltb k 16 (omega arith),
          ← e,
          le-ltb
              (16 + n) (16 + n) (omega arith),
          payload_take n bs l,
        )

pub scan_cut : (r : ℕ) (bs : List ℕ) (k : ℕ) → size (scan r bs) ≡ k → 0 < k → scan r (take k bs) ≡ scan r bs
unfolding scan
scan_cut r [] k e p = absurd (omega arith)
scan_cut zero (b ∷ bs) zero e p = absurd (omega arith)
scan_cut zero (b ∷ bs) (suc k) e p = fresh_cut (b ∷ bs) (suc k) e p
scan_cut (suc r) (b ∷ bs) zero e p = absurd (omega arith)
scan_cut (suc r) (b ∷ bs) (suc k) e p = ap Scan.skipping (rw (length-take k bs) (omega arith))

-- a message that is whole is whole in just its own bytes, with nothing left to skip
pub whole_cut : (r : ℕ) (bs : List ℕ) (h : Header) (p : List ℕ) → scan r bs ≡ Scan.whole h p → fresh_scan (take (16 + h.len) bs) ≡ Scan.whole h p
unfolding scan
whole_cut r [] h p e = cc
whole_cut zero (b ∷ bs) h p e = fresh_cut (b ∷ bs) (16 + h.len) (ap size e) (omega arith) ∙ e
whole_cut (suc r) (b ∷ bs) h p e = cc

-- no more is taken than was shown
pub fresh_le : (bs : List ℕ) → size (fresh_scan bs) ≤ length bs
unfolding fresh_scan
fresh_le bs = go (ltb (length bs) 16) (prologue bs) (ltb payload_limit n) (ltb (length bs) (16 + n)) refl refl
  where
    n : ℕ
    n = (header bs).len

    go : (a b c d : Bool) → ltb (length bs) 16 ≡ a → ltb (length bs) (16 + n) ≡ d → size (sorted a b c d bs (header bs)) ≤ length bs
    go true b c d ea ed = omega arith
    go false false c d ea ed = omega arith
    go false true true d ea ed = ltb-false _ _ ea
    go false true false true ea ed = omega arith
    go false true false false ea ed = ltb-false _ _ ed

pub scan_le : (r : ℕ) (bs : List ℕ) → size (scan r bs) ≤ length bs
unfolding scan
scan_le r [] = omega arith
scan_le zero (b ∷ bs) = fresh_le (b ∷ bs)
scan_le (suc r) (b ∷ bs) = omega arith

-- what a whole message shows: its header, all of its payload
whole_fresh : (bs : List ℕ) (h : Header) (p : List ℕ) → fresh_scan bs ≡ Scan.whole h p
    → (header bs ≡ h) × (16 + (header bs).len ≤ length bs) × (take (header bs).len (drop 16 bs) ≡ p)
unfolding fresh_scan
whole_fresh bs h p e = go (ltb (length bs) 16) (prologue bs) (ltb payload_limit n) (ltb (length bs) (16 + n)) refl e
  where
    n : ℕ
    n = (header bs).len

    go : (a b c d : Bool) → ltb (length bs) (16 + n) ≡ d → sorted a b c d bs (header bs) ≡ Scan.whole h p
        → (header bs ≡ h) × (16 + n ≤ length bs) × (take n (drop 16 bs) ≡ p)
    go true b c d ed e = absurd (omega (arith, ap size e))
    go false false c d ed e = absurd (omega (arith, ap size e))
    go false true true d ed e = absurd (let z : ◌≡◌ {A = ℕ} 0 1 = cc in omega arith)
    go false true false true ed e = absurd (omega (arith, ap size e))
    go false true false false ed e = (cc, ltb-false _ _ ed, cc)

pub whole_scan : (r : ℕ) (bs : List ℕ) (h : Header) (p : List ℕ) → scan r bs ≡ Scan.whole h p
    → (header bs ≡ h) × (16 + (header bs).len ≤ length bs) × (take (header bs).len (drop 16 bs) ≡ p)
unfolding scan
whole_scan r [] h p e = absurd (let z : ◌≡◌ {A = ℕ} 0 1 = cc in omega arith)
whole_scan zero (b ∷ bs) h p e = whole_fresh (b ∷ bs) h p e
whole_scan (suc r) (b ∷ bs) h p e = absurd (let z : ◌≡◌ {A = ℕ} 0 1 = cc in omega arith)

-- and a message that is too large its header
long_fresh : (bs : List ℕ) (h : Header) → fresh_scan bs ≡ Scan.long h → header bs ≡ h
unfolding fresh_scan
long_fresh bs h e = go (ltb (length bs) 16) (prologue bs) (ltb payload_limit (header bs).len) (ltb (length bs) (16 + (header bs).len)) e
  where
    go : (a b c d : Bool) → sorted a b c d bs (header bs) ≡ Scan.long h → header bs ≡ h
    go true b c d e = absurd (omega (arith, ap size e))
    go false false c d e = absurd (omega (arith, ap size e))
    go false true true d e = cc
    go false true false true e = absurd (omega (arith, ap size e))
    go false true false false e = absurd (let z : ◌≡◌ {A = ℕ} 0 1 = cc in omega arith)

pub long_scan : (r : ℕ) (bs : List ℕ) (h : Header) → scan r bs ≡ Scan.long h → header bs ≡ h
unfolding scan
long_scan r [] h e = absurd (let z : ◌≡◌ {A = ℕ} 0 1 = cc in omega arith)
long_scan zero (b ∷ bs) h e = long_fresh (b ∷ bs) h e
long_scan (suc r) (b ∷ bs) h e = absurd (let z : ◌≡◌ {A = ℕ} 0 1 = cc in omega arith)

-- the header and the payload read off the taken bytes are the message's
pub header_cut : (r : ℕ) (bs : List ℕ) (h : Header) (p : List ℕ) → scan r bs ≡ Scan.whole h p → header (take (16 + h.len) bs) ≡ h
header_cut r bs h p e = header_take (16 + h.len) bs (omega arith) ∙ (whole_scan r bs h p e).0

pub payload_cut : (r : ℕ) (bs : List ℕ) (h : Header) (p : List ℕ) → scan r bs ≡ Scan.whole h p → drop 16 (take (16 + h.len) bs) ≡ p
payload_cut r bs h p e =
    let w = whole_scan r bs h p e in
    let n = (header bs).len in
    ap (λ (k : Header). drop 16 (take (16 + k.len) bs)) (sym w.0)
    ∙ rw (take-add 16 n bs, drop_at (take 16 bs) (take n (drop 16 bs)) 16 (length-take-le 16 bs (omega arith))) w.2

-- What a scan tells of the bytes and of what is left to skip.
use mathlib.Core.Path.{◌≡◌, refl, sym, ap, ◌∙◌}
use mathlib.Core.Bool.{Bool, true, false, false≢true, true≢false}
use mathlib.Core.List.{List, [], ◌∷◌}
use Prim.Native.Nat.{ℕ, zero, suc, ◌+◌, ◌≤◌}
use native.Mathlib.Omega.{arith}
use lib.Dec.{ltb}
use lib.ListN.{length, take}
use Rattle.wire.specs.Message.{header, prologue}
use Rattle.model.specs.Sizes.{payload_limit}
use Rattle.model.specs.Scan.{Scan, Scan.empty, Scan.few, Scan.wrong, Scan.skipping, Scan.long, Scan.part, Scan.whole, sorted, fresh_scan, scan, size}
use Rattle.model.specs.Canonical.{bytes}
use Rattle.claims.proofs.Reader.{never}

-- a header or a message is looked at only where nothing is to skip
abbrev pub reads : Scan → Bool
reads empty = false
reads (skipping k) = false
reads few = true
reads wrong = true
reads (long h) = true
reads (part h) = true
reads (whole h p) = true

pub fresh_scan_lem : (r : ℕ) (bs : List ℕ) (s : Scan) → scan r bs ≡ s → reads s ≡ true → (r ≡ 0) × (fresh_scan bs ≡ s)
unfolding scan
fresh_scan_lem r [] s e q = absurd (false≢true (ap reads e ∙ q))
fresh_scan_lem zero (b ∷ bs) s e q = (refl, e)
fresh_scan_lem (suc r) (b ∷ bs) s e q = absurd (false≢true (ap reads e ∙ q))

pub fresh_reads : (bs : List ℕ) → reads (fresh_scan bs) ≡ true
unfolding fresh_scan
fresh_reads bs = go (ltb (length bs) 16) (prologue bs) (ltb payload_limit (header bs).len) (ltb (length bs) (16 + (header bs).len))
  where
    go : (a b c d : Bool) → reads (sorted a b c d bs (header bs)) ≡ true
    go true b c d = refl
    go false false c d = refl
    go false true true d = refl
    go false true false true = refl
    go false true false false = refl

pub skip_shape : (r : ℕ) (bs : List ℕ) (k : ℕ) → scan r bs ≡ Scan.skipping k → (1 ≤ k) × (k ≤ r) × (k ≤ length bs)
unfolding scan
skip_shape r [] k e = never cc
skip_shape zero (b ∷ bs) k e = absurd (true≢false (sym (fresh_reads (b ∷ bs)) ∙ ap reads e))
skip_shape (suc r) (b ∷ bs) k e = let q = ap size e in (omega arith, omega arith, omega arith)

-- what a delivery that takes k bytes shows
pub bytes_take : (k : ℕ) (bs : List ℕ) → 1 ≤ k → bytes k bs ≡ take k bs
bytes_take zero bs l = absurd (omega arith)
bytes_take (suc k) bs l = refl

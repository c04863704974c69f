-- The theorems: what the verdict says of any bytes, which books are accepted, and that our writer's are. Assumes nothing.
use Rattle.std.proofs.Math.Path.{◌≡◌}
use mathlib.Core.List.{List, [], ◌∷◌, ◌++◌}
use Prim.Native.Nat.{ℕ, suc, ◌+◌, ◌<◌}
use Rattle.std.proofs.Math.Nat.{add-zero}
use native.Mathlib.Omega.{arith}
use Rattle.std.proofs.Math.ListN.{length, length-append}
use Rattle.journal.specs.Journal.{body_limit, entry, entries, last_from}
use Rattle.record.specs.Layout.{Event}
use Rattle.verifier.specs.Judge.{Verdict, accepted, wrong, Deed, Place, Next, goes}
use Rattle.verifier.specs.Judge.{stops}
use Rattle.verifier.specs.Feed.{Reading, reading, done}
use Rattle.verifier.specs.Naming.{after}
use Rattle.verifier.specs.Places.{moved}

module _ {S : Type 0} (deed : S → Event → Deed S) where
  pub after_none : (p : Place S) → after p [] p.server ≡ p
  unfolding entries last_from
  after_none p = λ i. record { count = add-zero p.count i; at = add-zero p.at i; last = p.last; server = p.server }

  pub after_more : (p : Place S) (b : List ℕ) (bs : List (List ℕ)) (d e : S) → after (moved deed p b d) bs e ≡ after p (b ∷ bs) e
  unfolding entries last_from
  after_more p b bs d e =
      let x : p.count + 1 + length bs ≡ p.count + suc (length bs) = omega arith in
      let y : p.at + length (entry b) + length (entries bs) ≡ p.at + length (entry b ++ entries bs) = omega (arith, length-append (entry b) (entries bs)) in
      λ i. record { count = x i; at = y i; last = last_from (p.at + length (entry b)) p.at bs; server = e }

  -- The bytes had are fewer than one entry's greatest length, whatever is fed.
  abbrev pub Small : Reading S → Type 0
  Small (reading p s) = length s < body_limit + 12
  Small (done v) = Unit {0}

-- the number that a verdict says
abbrev pub number_of : Verdict → ℕ
number_of (accepted n) = n
number_of (wrong n f) = n

module _ {S : Type 0} (deed : S → Event → Deed S) where
  -- a verdict given at a place has the place's number
  abbrev pub Numbered : ℕ → Next S → Type 0
  Numbered n (goes q) = Unit {0}
  Numbered n (stops v) = number_of v ≡ n

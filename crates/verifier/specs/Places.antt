-- What the verdict says, in both directions. Assumes nothing.
use Rattle.std.proofs.Math.Path.{◌≡◌, refl, sym, ap}
use Rattle.std.proofs.Common.{◌∙◌, arith}
use Rattle.std.specs.Prelude.{Bool, true, eqb}
use Rattle.std.proofs.Math.Bool.{false}
use mathlib.Core.List.{List, [], ◌∷◌}
use Prim.Native.Nat.{ℕ, ◌+◌}
use Rattle.std.proofs.Math.ListN.{length}
use borrow.Author.Tests.{eq-eqb, eqb-true}
use Rattle.wire.specs.Field.{Bytes}
use Rattle.journal.specs.Journal.{choose, entry}
use Rattle.journal.specs.Bytes.{yes_is, and_is, and_left, and_right}
use Rattle.record.specs.Layout.{Event, Read, found, none, decode}
use Rattle.record.proofs.RoundTrip.{read_written, read_again}
use Rattle.verifier.specs.Judge.{in_parcels, Deed, refused, gave}
use Rattle.verifier.specs.Judge.{on, fault, Place, same, by_deed, by_event}
use Rattle.verifier.specs.Right.{Yields}

-- the other choice is not what came
pub chosen : {A : Type 0} (c : Bool) (a b x : A) → choose c a b ≡ x → (b ≡ x → ⊥) → (c ≡ true) × (a ≡ x)
unfolding choose
chosen true a b x e f = (refl, e)
chosen false a b x e f = absurd (f e)

pub same_is : (x y : List ℕ) → same x y ≡ true → x ≡ y
same_is [] [] e = refl
same_is [] (y ∷ ys) e = let z : ◌≡◌ {A = ℕ} 0 1 = cc in absurd (omega arith)
same_is (x ∷ xs) [] e = let z : ◌≡◌ {A = ℕ} 0 1 = cc in absurd (omega arith)
same_is (x ∷ xs) (y ∷ ys) e =
    let p : x ≡ y = eqb-true x y (and_left (eqb x y) (same xs ys) e) in
    let q : xs ≡ ys = same_is xs ys (and_right (eqb x y) (same xs ys) e) in
    λ i. p i ∷ q i

pub is_same : (x : List ℕ) → same x x ≡ true
is_same [] = refl
is_same (x ∷ xs) = and_is (eq-eqb x x refl) (is_same xs)

module _ {S : Type 0} (deed : S → Event → Deed S) where
  -- a body: the test and the meaning
  by_deed_lem : (x : Deed S) (frames : List ℕ) (d' : S) → by_deed x frames ≡ on d' → x ≡ gave frames d'
  unfolding by_deed
  by_deed_lem refused frames d' e = let z : ◌≡◌ {A = ℕ} 0 1 = cc in absurd (omega arith)
  by_deed_lem (gave g d) frames d' e =
      let c = chosen (same g frames) (on d) (fault in_parcels) (on d') e (λ z. let y : ◌≡◌ {A = ℕ} 0 1 = cc in omega arith) in
      let p : g ≡ frames = same_is g frames c.0 in
      let o : on d ≡ on d' = c.1 in
      let q : d ≡ d' = cc in
      λ i. gave (p i) (q i)

  by_event_lem : (d : S) (b : List ℕ) (r : Read Event) → decode b ≡ r → Bytes b → (d' : S) → by_event deed d r ≡ on d' → Yields deed d b d'
  unfolding by_event
  by_event_lem d b none p y d' e = let z : ◌≡◌ {A = ℕ} 0 1 = cc in absurd (omega arith)
  by_event_lem d b (found event frames) p y d' e =
      let w = read_written b y event frames p in
      record { event = event; frames = frames; is = sym w.all; fits = w.fits; gives = by_deed_lem (deed d event) frames d' e }

  pub step_yields : (d : S) (b : List ℕ) (d' : S) → Bytes b → by_event deed d (decode b) ≡ on d' → Yields deed d b d'
  step_yields d b d' y e = by_event_lem d b (decode b) refl y d' e

  pub yields_step : (d : S) (b : List ℕ) (d' : S) → Yields deed d b d' → by_event deed d (decode b) ≡ on d'
  unfolding by_event by_deed
  yields_step d b d' y =
      ap (by_event deed d) (ap decode y.is ∙ read_again y.event y.fits y.frames)
      ∙ ap (λ (x : Deed S). by_deed x y.frames) y.gives
      ∙ yes_is (on d') (fault in_parcels) (is_same y.frames)

  -- the place behind an entry
  abbrev pub moved : Place S → List ℕ → S → Place S
  moved p b d = record { count = p.count + 1; at = p.at + length (entry b); last = p.at; server = d }

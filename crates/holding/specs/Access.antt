-- Access by the tests of the code. Assumes nothing.
use Rattle.std.specs.Prelude.{◌≡◌, Bool, not, ◌&&◌, ◌||◌, List, [], ◌∷◌, ℕ, zero, suc}
use Rattle.std.proofs.Math.Path.{refl}
use Rattle.std.proofs.Math.Bool.{true, false}
use Rattle.std.proofs.lemmas.Bool.{not-true}
use Rattle.wire.specs.Both.{and_left, and_right}
use Rattle.model.specs.Lists.{all, all_but}
use Rattle.model.specs.State.{Entry, at}
use Rattle.model.specs.Locks.{no_exclusive, no_shared, access}

-- what holds of all entries holds of each, and of all but one
pub one_of : (p : Entry → Bool) (es : List Entry) (i : ℕ) → p (at [] 0) ≡ true → all p es ≡ true → p (at es i) ≡ true
one_of p [] i z h = z
one_of p (x ∷ es) zero z h = and_left (p x) (all p es) h
one_of p (x ∷ es) (suc i) z h = one_of p es i z (and_right (p x) (all p es) h)

pair : (a b : Bool) → a ≡ true → b ≡ true → (a && b) ≡ true
pair a b e f = rw (e, f)

pub but_one : (p : Entry → Bool) (es : List Entry) (i : ℕ) → all p es ≡ true → all_but p i es ≡ true
but_one p [] i h = refl
but_one p (x ∷ es) zero h = and_right (p x) (all p es) h
but_one p (x ∷ es) (suc i) h = pair (p x) (all_but p i es) (and_left (p x) (all p es) h) (but_one p es i (and_right (p x) (all p es) h))

module _ (es : List Entry) (i : ℕ) where
  -- somebody holds the exclusive lock: he alone
  pub access_taken : (b : Bool) → all no_exclusive es ≡ false → (at es i).exclusive ≡ b → access es i ≡ b
  unfolding access
  access_taken true o e = rw e
  access_taken false o e = rw (e, o)

  -- nobody holds a lock: everyone
  pub access_open : all no_exclusive es ≡ true → all no_shared es ≡ true → access es i ≡ true
  unfolding access
  access_open o p = rw (o, p) (go (at es i).exclusive (not (no_shared (at es i))))
    where
      go : (a b : Bool) → (a || (true && (b || true))) ≡ true
      go true b = refl
      go false true = refl
      go false false = refl

  -- some share, and nobody holds the exclusive lock: those that share
  pub access_shared : (b : Bool) → all no_exclusive es ≡ true → all no_shared es ≡ false → no_shared (at es i) ≡ not b → access es i ≡ b
  unfolding access
  access_shared true o p q = rw (not-true (at es i).exclusive (one_of no_exclusive es i refl o), o, p, q)
  access_shared false o p q = rw (not-true (at es i).exclusive (one_of no_exclusive es i refl o), o, p, q)

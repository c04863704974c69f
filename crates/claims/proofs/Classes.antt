-- A type that is neither vendor nor unrecognised is one that its channel acts on.
use mathlib.Core.Path.{◌≡◌, refl}
use mathlib.Core.Bool.{Bool, true, false, cond, true≢false}
use mathlib.Core.List.{List}
use Prim.Native.Nat.{ℕ}
use lib.Dec.{leb}
use Rattle.wire.specs.Class.{Class.acted_on, Class.vendor, Class.unrecognised, class_of, acted_on_types, synchronous, asynchronous, one_of}
use Rattle.model.specs.Checks.{is_vendor, is_unrecognised}

abbrev pub synchronous_types : List ℕ
synchronous_types = acted_on_types synchronous

abbrev pub asynchronous_types : List ℕ
asynchronous_types = acted_on_types asynchronous

pub acted_class : (channel t : ℕ) → is_vendor (class_of channel t) ≡ false → is_unrecognised (class_of channel t) ≡ false → one_of (acted_on_types channel) t ≡ true
unfolding class_of
acted_class channel t = go (leb 128 t) (one_of (acted_on_types channel) t)
  where
    go : (a b : Bool) → is_vendor (cond a vendor (cond b acted_on unrecognised)) ≡ false → is_unrecognised (cond a vendor (cond b acted_on unrecognised)) ≡ false → b ≡ true
    go true b v u = absurd (true≢false v)
    go false true v u = refl
    go false false v u = absurd (true≢false u)

-- `class::class_in_table` meets its contract: the table's rule is one test that is computed at each of the 512 entries.
use Rattle.std.proofs.Common.{◌≡◌, ℕ, ◌+◌, ◌*◌, ◌/◌, ◌%◌, Bool, true, false, List, [], ◌∷◌, slice_index_or, refl, ◌∙◌, ap₂, arith, rules, T}
use Rattle.wire.specs.Class.{Class, Class.acted_on, Class.vendor, Class.unrecognised, class_of, class_meant}
use Rattle.wire.specs.declared.class.Class.{Class as Told}
use Rattle.wire.specs.declared.class.Class.TheVariants.{ActedOn, Vendor, Unrecognised}
use Rattle.wire.proofs.Table.{at}
use Rattle.wire.proofs.class.class_in_table.Goals as goal

table : List Told
table =
    ActedOn ∷ Unrecognised ∷ ActedOn ∷ ActedOn ∷ Unrecognised ∷ Unrecognised ∷ ActedOn ∷ ActedOn ∷ ActedOn ∷ Unrecognised ∷ Unrecognised ∷ Unrecognised ∷ ActedOn ∷ Unrecognised ∷ Unrecognised ∷ Unrecognised ∷ Unrecognised ∷ Unrecognised ∷ Unrecognised ∷ Unrecognised ∷ Unrecognised ∷ Unrecognised ∷ Unrecognised ∷ Unrecognised ∷ Unrecognised ∷ Unrecognised ∷ Unrecognised ∷ Unrecognised ∷ Unrecognised ∷ Unrecognised ∷ Unrecognised ∷ Unrecognised ∷
    Unrecognised ∷ Unrecognised ∷ Unrecognised ∷ Unrecognised ∷ Unrecognised ∷ Unrecognised ∷ Unrecognised ∷ Unrecognised ∷ Unrecognised ∷ Unrecognised ∷ Unrecognised ∷ Unrecognised ∷ Unrecognised ∷ Unrecognised ∷ Unrecognised ∷ Unrecognised ∷ Unrecognised ∷ Unrecognised ∷ Unrecognised ∷ Unrecognised ∷ Unrecognised ∷ Unrecognised ∷ Unrecognised ∷ Unrecognised ∷ Unrecognised ∷ Unrecognised ∷ Unrecognised ∷ Unrecognised ∷ Unrecognised ∷ Unrecognised ∷ Unrecognised ∷ Unrecognised ∷
    Unrecognised ∷ Unrecognised ∷ Unrecognised ∷ Unrecognised ∷ Unrecognised ∷ Unrecognised ∷ Unrecognised ∷ Unrecognised ∷ Unrecognised ∷ Unrecognised ∷ Unrecognised ∷ Unrecognised ∷ Unrecognised ∷ Unrecognised ∷ Unrecognised ∷ Unrecognised ∷ Unrecognised ∷ Unrecognised ∷ Unrecognised ∷ Unrecognised ∷ Unrecognised ∷ Unrecognised ∷ Unrecognised ∷ Unrecognised ∷ Unrecognised ∷ Unrecognised ∷ Unrecognised ∷ Unrecognised ∷ Unrecognised ∷ Unrecognised ∷ Unrecognised ∷ Unrecognised ∷
    Unrecognised ∷ Unrecognised ∷ Unrecognised ∷ Unrecognised ∷ Unrecognised ∷ Unrecognised ∷ Unrecognised ∷ Unrecognised ∷ Unrecognised ∷ Unrecognised ∷ Unrecognised ∷ Unrecognised ∷ Unrecognised ∷ Unrecognised ∷ Unrecognised ∷ Unrecognised ∷ Unrecognised ∷ Unrecognised ∷ Unrecognised ∷ Unrecognised ∷ Unrecognised ∷ Unrecognised ∷ Unrecognised ∷ Unrecognised ∷ Unrecognised ∷ Unrecognised ∷ Unrecognised ∷ Unrecognised ∷ Unrecognised ∷ Unrecognised ∷ Unrecognised ∷ Unrecognised ∷
    Vendor ∷ Vendor ∷ Vendor ∷ Vendor ∷ Vendor ∷ Vendor ∷ Vendor ∷ Vendor ∷ Vendor ∷ Vendor ∷ Vendor ∷ Vendor ∷ Vendor ∷ Vendor ∷ Vendor ∷ Vendor ∷ Vendor ∷ Vendor ∷ Vendor ∷ Vendor ∷ Vendor ∷ Vendor ∷ Vendor ∷ Vendor ∷ Vendor ∷ Vendor ∷ Vendor ∷ Vendor ∷ Vendor ∷ Vendor ∷ Vendor ∷ Vendor ∷
    Vendor ∷ Vendor ∷ Vendor ∷ Vendor ∷ Vendor ∷ Vendor ∷ Vendor ∷ Vendor ∷ Vendor ∷ Vendor ∷ Vendor ∷ Vendor ∷ Vendor ∷ Vendor ∷ Vendor ∷ Vendor ∷ Vendor ∷ Vendor ∷ Vendor ∷ Vendor ∷ Vendor ∷ Vendor ∷ Vendor ∷ Vendor ∷ Vendor ∷ Vendor ∷ Vendor ∷ Vendor ∷ Vendor ∷ Vendor ∷ Vendor ∷ Vendor ∷
    Vendor ∷ Vendor ∷ Vendor ∷ Vendor ∷ Vendor ∷ Vendor ∷ Vendor ∷ Vendor ∷ Vendor ∷ Vendor ∷ Vendor ∷ Vendor ∷ Vendor ∷ Vendor ∷ Vendor ∷ Vendor ∷ Vendor ∷ Vendor ∷ Vendor ∷ Vendor ∷ Vendor ∷ Vendor ∷ Vendor ∷ Vendor ∷ Vendor ∷ Vendor ∷ Vendor ∷ Vendor ∷ Vendor ∷ Vendor ∷ Vendor ∷ Vendor ∷
    Vendor ∷ Vendor ∷ Vendor ∷ Vendor ∷ Vendor ∷ Vendor ∷ Vendor ∷ Vendor ∷ Vendor ∷ Vendor ∷ Vendor ∷ Vendor ∷ Vendor ∷ Vendor ∷ Vendor ∷ Vendor ∷ Vendor ∷ Vendor ∷ Vendor ∷ Vendor ∷ Vendor ∷ Vendor ∷ Vendor ∷ Vendor ∷ Vendor ∷ Vendor ∷ Vendor ∷ Vendor ∷ Vendor ∷ Vendor ∷ Vendor ∷ Vendor ∷
    Unrecognised ∷ Unrecognised ∷ ActedOn ∷ ActedOn ∷ ActedOn ∷ Unrecognised ∷ Unrecognised ∷ Unrecognised ∷ Unrecognised ∷ Unrecognised ∷ ActedOn ∷ Unrecognised ∷ Unrecognised ∷ Unrecognised ∷ Unrecognised ∷ ActedOn ∷ Unrecognised ∷ ActedOn ∷ Unrecognised ∷ ActedOn ∷ Unrecognised ∷ ActedOn ∷ Unrecognised ∷ Unrecognised ∷ ActedOn ∷ Unrecognised ∷ Unrecognised ∷ Unrecognised ∷ Unrecognised ∷ Unrecognised ∷ Unrecognised ∷ Unrecognised ∷
    Unrecognised ∷ Unrecognised ∷ Unrecognised ∷ Unrecognised ∷ Unrecognised ∷ Unrecognised ∷ Unrecognised ∷ Unrecognised ∷ Unrecognised ∷ Unrecognised ∷ Unrecognised ∷ Unrecognised ∷ Unrecognised ∷ Unrecognised ∷ Unrecognised ∷ Unrecognised ∷ Unrecognised ∷ Unrecognised ∷ Unrecognised ∷ Unrecognised ∷ Unrecognised ∷ Unrecognised ∷ Unrecognised ∷ Unrecognised ∷ Unrecognised ∷ Unrecognised ∷ Unrecognised ∷ Unrecognised ∷ Unrecognised ∷ Unrecognised ∷ Unrecognised ∷ Unrecognised ∷
    Unrecognised ∷ Unrecognised ∷ Unrecognised ∷ Unrecognised ∷ Unrecognised ∷ Unrecognised ∷ Unrecognised ∷ Unrecognised ∷ Unrecognised ∷ Unrecognised ∷ Unrecognised ∷ Unrecognised ∷ Unrecognised ∷ Unrecognised ∷ Unrecognised ∷ Unrecognised ∷ Unrecognised ∷ Unrecognised ∷ Unrecognised ∷ Unrecognised ∷ Unrecognised ∷ Unrecognised ∷ Unrecognised ∷ Unrecognised ∷ Unrecognised ∷ Unrecognised ∷ Unrecognised ∷ Unrecognised ∷ Unrecognised ∷ Unrecognised ∷ Unrecognised ∷ Unrecognised ∷
    Unrecognised ∷ Unrecognised ∷ Unrecognised ∷ Unrecognised ∷ Unrecognised ∷ Unrecognised ∷ Unrecognised ∷ Unrecognised ∷ Unrecognised ∷ Unrecognised ∷ Unrecognised ∷ Unrecognised ∷ Unrecognised ∷ Unrecognised ∷ Unrecognised ∷ Unrecognised ∷ Unrecognised ∷ Unrecognised ∷ Unrecognised ∷ Unrecognised ∷ Unrecognised ∷ Unrecognised ∷ Unrecognised ∷ Unrecognised ∷ Unrecognised ∷ Unrecognised ∷ Unrecognised ∷ Unrecognised ∷ Unrecognised ∷ Unrecognised ∷ Unrecognised ∷ Unrecognised ∷
    Vendor ∷ Vendor ∷ Vendor ∷ Vendor ∷ Vendor ∷ Vendor ∷ Vendor ∷ Vendor ∷ Vendor ∷ Vendor ∷ Vendor ∷ Vendor ∷ Vendor ∷ Vendor ∷ Vendor ∷ Vendor ∷ Vendor ∷ Vendor ∷ Vendor ∷ Vendor ∷ Vendor ∷ Vendor ∷ Vendor ∷ Vendor ∷ Vendor ∷ Vendor ∷ Vendor ∷ Vendor ∷ Vendor ∷ Vendor ∷ Vendor ∷ Vendor ∷
    Vendor ∷ Vendor ∷ Vendor ∷ Vendor ∷ Vendor ∷ Vendor ∷ Vendor ∷ Vendor ∷ Vendor ∷ Vendor ∷ Vendor ∷ Vendor ∷ Vendor ∷ Vendor ∷ Vendor ∷ Vendor ∷ Vendor ∷ Vendor ∷ Vendor ∷ Vendor ∷ Vendor ∷ Vendor ∷ Vendor ∷ Vendor ∷ Vendor ∷ Vendor ∷ Vendor ∷ Vendor ∷ Vendor ∷ Vendor ∷ Vendor ∷ Vendor ∷
    Vendor ∷ Vendor ∷ Vendor ∷ Vendor ∷ Vendor ∷ Vendor ∷ Vendor ∷ Vendor ∷ Vendor ∷ Vendor ∷ Vendor ∷ Vendor ∷ Vendor ∷ Vendor ∷ Vendor ∷ Vendor ∷ Vendor ∷ Vendor ∷ Vendor ∷ Vendor ∷ Vendor ∷ Vendor ∷ Vendor ∷ Vendor ∷ Vendor ∷ Vendor ∷ Vendor ∷ Vendor ∷ Vendor ∷ Vendor ∷ Vendor ∷ Vendor ∷
    Vendor ∷ Vendor ∷ Vendor ∷ Vendor ∷ Vendor ∷ Vendor ∷ Vendor ∷ Vendor ∷ Vendor ∷ Vendor ∷ Vendor ∷ Vendor ∷ Vendor ∷ Vendor ∷ Vendor ∷ Vendor ∷ Vendor ∷ Vendor ∷ Vendor ∷ Vendor ∷ Vendor ∷ Vendor ∷ Vendor ∷ Vendor ∷ Vendor ∷ Vendor ∷ Vendor ∷ Vendor ∷ Vendor ∷ Vendor ∷ Vendor ∷ Vendor ∷ []

abbrev same : Class → Class → Bool
same acted_on acted_on = true
same acted_on vendor = false
same acted_on unrecognised = false
same vendor acted_on = false
same vendor vendor = true
same vendor unrecognised = false
same unrecognised acted_on = false
same unrecognised vendor = false
same unrecognised unrecognised = true

same_means : (x y : Class) → T (same x y) → x ≡ y
same_means acted_on acted_on t = refl
same_means acted_on vendor t = absurd t
same_means acted_on unrecognised t = absurd t
same_means vendor acted_on t = absurd t
same_means vendor vendor t = refl
same_means vendor unrecognised t = absurd t
same_means unrecognised acted_on t = absurd t
same_means unrecognised vendor t = absurd t
same_means unrecognised unrecognised t = refl

right : ℕ → Told → Bool
right k x = same (class_meant x) (class_of (k / 256) (k % 256))

pub returns : goal.returns
unfolding table right class_of
returns c = let a = c.args in
    let n = a.channel * 256 + a.kind in
    let d : n / 256 ≡ a.channel = omega arith in
    let m : n % 256 ≡ a.kind = omega arith in
    same_means (class_meant (slice_index_or table n ActedOn)) (class_of (n / 256) (n % 256)) (at right table ActedOn tt n (search rules))
    ∙ ap₂ (λ (x y : ℕ). class_of x y) d m

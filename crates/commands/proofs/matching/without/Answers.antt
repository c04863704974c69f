-- `matching::without` meets its contract.
use mathlib.Core.Path.{◌≡◌, sym, subst}
use mathlib.Core.Logic.{◌⊎◌, ◌↔◌}
use mathlib.Core.List.{[], ◌∷◌}
use Prim.Native.Nat.{ℕ, ◌+◌, ◌-◌, ◌≤◌, ◌<◌}
use lib.ListN.{get_or}
use Rattle.commands.specs.Sets.{On}
use Rattle.commands.specs.Places.{weight, on_below, has_low, has_mid, has_high, without_low, without_mid, without_high}
use borrow.Author.Rules.{rules}
use Rattle.commands.proofs.matching.without.Goals as goal

pub returns-then-j-lt64 : goal.returns-then-j-lt64
returns-then-j-lt64 c = let a = c.args in
    subst (λ (x : ℕ). ((k : ℕ) → On a.s k ↔ (On ((get_or a.s 0 0 - x) ∷ get_or a.s 1 0 ∷ get_or a.s 2 0 ∷ []) k ⊎ (k ≡ a.j)))
    × (get_or a.s 0 0 - x + get_or a.s 1 0 + get_or a.s 2 0 < weight a.s)) (sym c.power_of.ensures)
    (without_low a.s a.j c.requires c.if-j-lt64.true)

pub returns-then-j-lt128 : goal.returns-then-j-lt128
returns-then-j-lt128 c = let a = c.args in
    subst (λ (x : ℕ). ((k : ℕ) → On a.s k ↔ (On (get_or a.s 0 0 ∷ (get_or a.s 1 0 - x) ∷ get_or a.s 2 0 ∷ []) k ⊎ (k ≡ a.j)))
    × (get_or a.s 0 0 + (get_or a.s 1 0 - x) + get_or a.s 2 0 < weight a.s)) (sym c.power_of-then-j-lt128.ensures)
    (without_mid a.s a.j c.requires (search rules) c.if-j-lt128.true)

pub returns : goal.returns
returns c = let a = c.args in
    subst (λ (x : ℕ). ((k : ℕ) → On a.s k ↔ (On (get_or a.s 0 0 ∷ get_or a.s 1 0 ∷ (get_or a.s 2 0 - x) ∷ []) k ⊎ (k ≡ a.j)))
    × (get_or a.s 0 0 + get_or a.s 1 0 + (get_or a.s 2 0 - x) < weight a.s)) (sym c.power_of-2.ensures)
    (without_high a.s a.j c.requires (search rules))

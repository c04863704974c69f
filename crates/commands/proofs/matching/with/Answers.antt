-- `matching::with` meets its contract.
use mathlib.Core.Path.{◌≡◌, sym, subst}
use mathlib.Core.Logic.{◌⊎◌, ◌↔◌}
use mathlib.Core.List.{[], ◌∷◌}
use Prim.Native.Nat.{ℕ}
use lib.Bits.{bit_or}
use lib.ListN.{get_or}
use Rattle.commands.specs.Sets.{On}
use Rattle.commands.specs.Places.{with_low, with_mid, with_high}
use borrow.Author.Rules.{rules}
use Rattle.commands.proofs.matching.with.Goals as goal

pub returns-then-j-lt64 : goal.returns-then-j-lt64
returns-then-j-lt64 c = let a = c.args in
    λ k. subst (λ (x : ℕ). On (bit_or (get_or a.s 0 0) x ∷ get_or a.s 1 0 ∷ get_or a.s 2 0 ∷ []) k ↔ (On a.s k ⊎ (k ≡ a.j)))
    (sym c.power_of.ensures) (with_low a.s a.j k c.if-j-lt64.true)

pub returns-then-j-lt128 : goal.returns-then-j-lt128
returns-then-j-lt128 c = let a = c.args in
    λ k. subst (λ (x : ℕ). On (get_or a.s 0 0 ∷ bit_or (get_or a.s 1 0) x ∷ get_or a.s 2 0 ∷ []) k ↔ (On a.s k ⊎ (k ≡ a.j)))
    (sym c.power_of-then-j-lt128.ensures) (with_mid a.s a.j k (search rules) c.if-j-lt128.true)

pub returns : goal.returns
returns c = let a = c.args in
    λ k. subst (λ (x : ℕ). On (get_or a.s 0 0 ∷ get_or a.s 1 0 ∷ bit_or (get_or a.s 2 0) x ∷ []) k ↔ (On a.s k ⊎ (k ≡ a.j)))
    (sym c.power_of-2.ensures) (with_high a.s a.j k (search rules) (search rules))

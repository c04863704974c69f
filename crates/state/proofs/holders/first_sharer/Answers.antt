-- `holders::first_sharer` meets its contract: slot i's bit alone is set.
use mathlib.Core.Path.{ap, ◌∙◌}
use mathlib.Core.List.{List}
use Prim.Native.Nat.{ℕ, ◌≤◌, ◌-◌, ◌^◌}
use native.Mathlib.Nat.{pow-le-pow_right}
use native.Mathlib.Omega.{arith}
use lib.Dec.{lit<}
use lib.ListN.{set}
use Rattle.model.specs.Sizes.{session_limit}
use Rattle.state.specs.Granting.{first_joined}
use Rattle.state.specs.Layout.{SHARERS}
use Rattle.state.specs.View.{memory, view}
use borrow.Author.Rules.{rules}
use Rattle.state.proofs.holders.first_sharer.Goals as goal

pub returns : goal.returns
returns c = let a = c.args in (
  λ s. ap (λ (x : List ℕ). view (memory x s)) c.store.ensures
      ∙ ap (λ (v : ℕ). view (memory (set a.w.now SHARERS v) s)) c.power_of-m.ensures
      ∙ first_joined a.w.now s a.i (search rules) (search rules) c.requires.1,
  c.store.ensures ∙ ap (set a.w.now SHARERS) c.power_of-m.ensures,
  let h : a.i ≤ session_limit - 1 = search rules in let p : 2 ^ a.i ≤ 2 ^ (session_limit - 1) = pow-le-pow_right {n = 2} (lit< tt) h in omega arith,
)

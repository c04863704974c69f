-- `listing::is_allowed` meets its contract where a list is set: the text that stands there is it.
use Rattle.std.specs.Prelude.{◌≡◌, ◌+◌, ◌-◌, ℕ, drop, take}
use Rattle.std.proofs.Common.{ap, arith, sym, ◌∙◌}
use Rattle.model.specs.Allowing.{admits}
use Rattle.model.specs.State.{Allowed, Allowed.only}
use Rattle.state.specs.Layout.{LIST}
use Rattle.allowed.specs.Listing.{list_there, part_admits}
use Rattle.allowed.proofs.listing.is_allowed.Goals as goal

pub returns : goal.returns
returns c = let a = c.args in
    let n : ℕ = c.least-n.result in
    let k : LIST + n - LIST ≡ n = omega arith in
    ap (λ (x : Allowed). admits x a.payload.now)
    (list_there a.w.now a.strings.now c.if-listed-eq0.false ∙ ap (λ (m : ℕ). only (take m (drop LIST a.strings.now))) (sym (k ∙ c.least-n.ensures.0)))
    ∙ part_admits (take (LIST + n - LIST) (drop LIST a.strings.now)) a.payload.now c.allowed.result c.allowed.ensures

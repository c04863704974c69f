-- `holders::with_slot` meets its contract.
use mathlib.Core.Path.{sym, ap, ◌∙◌}
use native.Mathlib.Omega.{arith}
use lib.ListN.{length}
use Rattle.model.specs.Holders.{put_by}
use Rattle.questions.specs.Holders.{listed, row_key, one_holds, one_not, length_put}
use Rattle.questions.specs.declared.holders.Row.{Row}
use Rattle.questions.proofs.holders.with_slot.Goals as goal

pub returns-then-holds_any : goal.returns-then-holds_any
returns-then-holds_any c = let a = c.args in
    let e = c.put.ensures in (
      omega (arith, e.1),
      omega (arith, e.1, ap length e.0, length_put c.row_at.result (listed a.old), c.requires.2),
      λ s. e.0 ∙ ap (λ (r : Row). put_by row_key r (listed a.old)) (c.row_at.ensures s)
          ∙ sym (one_holds _ _ (c.holds_any.ensures s ∙ c.if-holds_any.true)),
    )

pub returns : goal.returns
returns c = (omega arith, c.requires.2, λ s. sym (one_not _ _ (c.holds_any.ensures s ∙ c.if-holds_any.false)))

-- `granting::may_by_rule` meets its contract: the tests of the code, in the order of the rule.
use mathlib.Core.Path.{sym, ap, ◌∙◌}
use mathlib.Core.Bool.{not}
use Rattle.grants.specs.Granting.{fits_free, fits_key, may_alone, may_not, may_share, may_sharing}
use Rattle.state.specs.View.{locks_of}
use Rattle.grants.proofs.granting.may_by_rule.Goals as goal
use Rattle.grants.proofs.granting.may_by_rule.Goals.{then-is_sharing, else-is_sharing}

pub returns-then-not-no_other_exclusive : goal.returns-then-not-no_other_exclusive
returns-then-not-no_other_exclusive g c = let a = c.args in
    λ s k e q. may_not (locks_of a.w.now s).entries a.i k (c.no_other_exclusive.ensures s ∙ c.if-not-no_other_exclusive.true)

pub returns-after-is_sharing : goal.returns-after-is_sharing
returns-after-is_sharing g c = let a = c.args in
    λ s k e q. elim c.if-is_sharing.branch [
      | then-is_sharing y ↦ may_sharing (locks_of a.w.now s).entries a.i k (e ∙ c.if-n-eq0.true)
          (c.no_other_exclusive.ensures s ∙ c.if-not-no_other_exclusive.false)
          (c.is_sharing.ensures s ∙ ap not y.if-is_sharing.true) ∙ sym (y.result-is ∙ y.if-is_sharing.true)
      | else-is_sharing y ↦ may_alone (locks_of a.w.now s).entries a.i k _ (e ∙ c.if-n-eq0.true)
          (c.no_other_exclusive.ensures s ∙ c.if-not-no_other_exclusive.false)
          (c.is_sharing.ensures s ∙ ap not y.if-is_sharing.false) (y.nobody_shares.ensures s) ∙ sym y.result-is
    ]

pub returns-then-nobody_shares : goal.returns-then-nobody_shares
returns-then-nobody_shares g c = let a = c.args in
    λ s k e q. may_share (locks_of a.w.now s).entries a.i k _ (λ n. c.if-n-eq0.false (sym e ∙ n))
    (c.no_other_exclusive.ensures s ∙ c.if-not-no_other_exclusive.false)
    (fits_free a.w.now s k (c.nobody_shares-else-n-eq0.ensures s ∙ c.if-nobody_shares.true)) ∙ sym c.if-nobody_shares.true

pub returns-else-nobody_shares : goal.returns-else-nobody_shares
returns-else-nobody_shares g c = let a = c.args in
    λ s k e q. may_share (locks_of a.w.now s).entries a.i k _ (λ n. c.if-n-eq0.false (sym e ∙ n))
    (c.no_other_exclusive.ensures s ∙ c.if-not-no_other_exclusive.false)
    (fits_key a.w.now s k (c.nobody_shares-else-n-eq0.ensures s ∙ c.if-nobody_shares.false) ∙ q _ c.is_key.ensures)

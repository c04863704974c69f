-- `info::holder_count` meets its contract. The invariant: those counted and those among the slots still to come are all.
use mathlib.Core.Path.{◌∙◌}
use native.Mathlib.Omega.{arith}
use Rattle.holding.specs.Info.{count_end, count_holder, count_other}
use borrow.Author.Rules.{rules}
use Rattle.holding.proofs.info.holder_count.Goals as goal
use Rattle.holding.proofs.info.holder_count.Goals.{then-holds_any, else-holds_any}

pub loop-k-init : goal.loop-k-init
loop-k-init c = (search rules, λ s. omega arith)

pub loop-k-preserved : goal.loop-k-preserved
loop-k-preserved c = let w = c.args.w.now in
    let l = c.loop-k in
    elim c.if-holds_any.branch [
      | then-holds_any y ↦
          (omega arith, λ s. omega (arith, l.invariant.1 s, count_holder w s l.k (omega arith) (c.holds_any.ensures s ∙ y.if-holds_any.true)))
      | else-holds_any y ↦
          (omega arith, λ s. omega (arith, l.invariant.1 s, count_other w s l.k (omega arith) (c.holds_any.ensures s ∙ y.if-holds_any.false)))
    ]

pub returns : goal.returns
returns c = let w = c.args.w.now in
    let l = c.loop-k in
    (omega arith, λ s. omega (arith, l.invariant.1 s, count_end w s l.k (omega arith)))

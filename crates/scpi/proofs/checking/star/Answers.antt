-- `checking::star` meets its contract.
use native.Mathlib.Omega.{arith}
use borrow.Author.Rules.{rules}
use Rattle.scpi.specs.Scans.{star_wrong, star_on}
use Rattle.scpi.proofs.checking.star.Goals as goal

pub returns-then-m-eq1 : goal.returns-then-m-eq1
returns-then-m-eq1 c = let a = c.args in
    star_wrong a.p.now c.run_end-m.result c.run_end-m.ensures.0 c.if-m-eq1.true

pub returns : goal.returns
returns c = let a = c.args in
    star_on a.p.now c.run_end-m.result c.run_end-m.ensures.0 (omega (arith, c.if-m-eq1.false)) (search rules) c.finish.result c.finish.ensures

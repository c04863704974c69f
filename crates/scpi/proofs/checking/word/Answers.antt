-- `checking::word` meets its contract.
use native.Mathlib.Omega.{arith}
use borrow.Author.Rules.{rules}
use Rattle.scpi.specs.Scans.{word_wrong, word_on}
use Rattle.scpi.proofs.checking.word.Goals as goal

pub returns-then-m-at : goal.returns-then-m-at
returns-then-m-at c = let a = c.args in
    word_wrong a.p.now a.at c.run_end-m.result c.run_end-m.ensures.0 c.if-m-at.true

pub returns : goal.returns
returns c = let a = c.args in
    word_on a.p.now a.at c.run_end-m.result c.run_end-m.ensures.0 c.run_end.result (omega (arith, c.if-m-at.false)) (search rules) c.run_end.ensures.0 (search rules)

-- `checking::check` meets its contract: the reading's answer is the grammar's verdict.
use Rattle.std.proofs.Common.{rules, sym, ◌≡◌, length-take-le, subst}
use Rattle.scpi.specs.Grammar.{good, bad}
use Rattle.scpi.specs.Verdicts.{Exactly}
use Rattle.scpi.proofs.Verdicts.{check_short, check_long}
use Rattle.scpi.proofs.checking.check.Goals as goal

pub slice_bounds-whole-end : goal.slice_bounds-whole-end
slice_bounds-whole-end c = sym (length-take-le _ c.args.p.now (search rules))

pub returns-in_err-whole : goal.returns-in_err-whole
returns-in_err-whole c = let a = c.args in
    let e : bad c.in_err-whole.field-0.0.place ≡ c.from_residual.result = search rules in
    subst (Exactly a.p.now) e (check_long a.p.now c.if-p-gt-LONGEST.true (bad c.in_err-whole.field-0.0.place) (c.in_err-whole.ensures))

pub returns-then-p-gt-LONGEST : goal.returns-then-p-gt-LONGEST
returns-then-p-gt-LONGEST c = let a = c.args in
    check_long a.p.now c.if-p-gt-LONGEST.true good c.in_ok-whole.ensures

pub returns : goal.returns
returns c = let a = c.args in check_short a.p.now c.if-p-gt-LONGEST.false c.whole-2.result c.whole-2.ensures

-- `bytes::run_end` meets its contract. The invariant: what is left of the run, from i on, ends where the whole run does.
use Rattle.std.proofs.Common.{rules, arith, sym, ◌∙◌}
use Rattle.scpi.specs.Words.{leading_more, leading_stop, leading_end}
use Rattle.scpi.proofs.bytes.run_end.Goals as goal

pub returns-then-not-is_between : goal.returns-then-not-is_between
returns-then-not-is_between c = let l = c.loop-i in
    let a = c.args in
    (leading_stop a.low a.high a.p.now l.i (search rules) (sym c.is_between.ensures ∙ c.if-not-is_between.true) ∙ l.invariant, search rules)

pub loop-i-preserved : goal.loop-i-preserved
loop-i-preserved c = let l = c.loop-i in
    let a = c.args in
    sym (leading_more a.low a.high a.p.now l.i (search rules) (sym c.is_between.ensures ∙ c.if-not-is_between.false)) ∙ l.invariant

pub returns : goal.returns
returns c = let l = c.loop-i in
    let a = c.args in
    (omega (arith, leading_end a.low a.high a.p.now l.i (search rules) ∙ l.invariant), search rules)

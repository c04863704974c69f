-- `listing::line_end` meets its contract. The invariant of both loops: what is left of the line ends where the whole line does.
use Rattle.std.proofs.Common.{rules, arith, sym, ◌∙◌}
use Rattle.commands.specs.Lines.{line_stop, line_more, line_out}
use Rattle.commands.proofs.listing.line_end.Goals as goal

pub returns-then-s-k-eq10 : goal.returns-then-s-k-eq10
returns-then-s-k-eq10 c = let l = c.loop-k in
    (line_stop c.args.s.now l.k c.loop-k-test.true c.if-s-k-eq10.true ∙ l.invariant, search rules)

pub loop-k-preserved : goal.loop-k-preserved
loop-k-preserved c = let l = c.loop-k in
    sym (line_more c.args.s.now l.k c.loop-k-test.true c.if-s-k-eq10.false) ∙ l.invariant

pub returns : goal.returns
returns c = let l = c.loop-k in
    (omega (arith, line_out c.args.s.now l.k c.loop-k-test.false ∙ l.invariant), search rules)

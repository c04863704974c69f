-- `listing::first_bad` meets its contract. The invariant: the patterns that are left, counted on from `pattern`, are judged as the whole list is.
use Rattle.std.proofs.Common.{rules, ◌∙◌, ◌+◌, drop}
use Rattle.scpi.specs.Words.{part}
use Rattle.commands.specs.Lists.{lines_of}
use Rattle.commands.specs.Lines.{lines_end}
use Rattle.commands.proofs.Lines.{lines_next}
use Rattle.commands.specs.Rulings.{turn_bad, turn_good, turn_end}
use Rattle.commands.proofs.listing.first_bad.Goals as goal

pub returns-in-Err : goal.returns-in-Err
returns-in-Err c = let l = c.loop-at in
    let s = c.args.text.now in
    turn_bad l.pattern (lines_of (drop l.at s)) (part l.at c.line_end-e.result s) (lines_of (drop (c.line_end-e.result + 1) s))
    (lines_next s l.at c.line_end-e.result (search rules) c.line_end-e.ensures.0) c.check.result c.check.ensures c.in-Err.bad.place c.in-Err.is
    ∙ l.invariant.2

pub loop-at-preserved : goal.loop-at-preserved
loop-at-preserved c = let l = c.loop-at in
    let s = c.args.text.now in (
      search rules,
      search rules,
      turn_good l.pattern (lines_of (drop l.at s)) (part l.at c.line_end-e.result s) (lines_of (drop (c.line_end-e.result + 1) s))
          (lines_next s l.at c.line_end-e.result (search rules) c.line_end-e.ensures.0) c.check.result c.check.ensures c.in_default.is
          ∙ l.invariant.2,
    )

pub returns : goal.returns
returns c = let l = c.loop-at in
    let s = c.args.text.now in
    turn_end l.pattern (lines_of (drop l.at s)) (lines_end s l.at (search rules)) ∙ l.invariant.2

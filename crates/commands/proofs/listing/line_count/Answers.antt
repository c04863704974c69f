-- `listing::line_count` meets its contract. The invariant: the lines so far and those that are left are all.
use Rattle.std.proofs.Common.{rules, arith, ap, length, drop, ◌≡◌, ◌+◌, suc}
use Rattle.commands.specs.Lists.{lines_of}
use Rattle.commands.specs.Lines.{lines_end}
use Rattle.commands.proofs.Lines.{lines_next}
use Rattle.commands.proofs.listing.line_count.Goals as goal

pub loop-at-preserved : goal.loop-at-preserved
loop-at-preserved c = let l = c.loop-at in
    let s = c.args.text.now in
    let e = c.line_end-at.result in
    let n : length (lines_of (drop l.at s)) ≡ suc (length (lines_of (drop (e + 1) s))) = ap length (lines_next s l.at e (search rules) c.line_end-at.ensures.0) in
    (search rules, search rules, omega (arith, n, l.invariant.2))

pub returns : goal.returns
returns c = let l = c.loop-at in
    let s = c.args.text.now in
    let n : length (lines_of (drop l.at s)) ≡ 0 = ap length (lines_end s l.at (search rules)) in
    omega (arith, n, l.invariant.2)

-- `checking::finish` meets its contract.
use Rattle.std.proofs.Common.{rules}
use Rattle.scpi.specs.Scans.{end_good, end_wrong, end_asked, end_more}
use Rattle.scpi.proofs.checking.finish.Goals as goal

pub returns-then-i-p : goal.returns-then-i-p
returns-then-i-p c = let a = c.args in end_good a.p.now a.i c.if-i-p.true

pub returns-then-p-i-ne63 : goal.returns-then-p-i-ne63
returns-then-p-i-ne63 c = let a = c.args in end_wrong a.p.now a.i (search rules) c.if-p-i-ne63.true

pub returns-then-i-p-2 : goal.returns-then-i-p-2
returns-then-i-p-2 c = let a = c.args in end_more a.p.now a.i (search rules) c.if-p-i-ne63.false c.if-i-p-2.true

pub returns : goal.returns
returns c = let a = c.args in end_asked a.p.now a.i (search rules) c.if-p-i-ne63.false c.if-i-p-2.false

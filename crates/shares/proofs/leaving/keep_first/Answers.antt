-- `leaving::keep_first` meets its contract: the count, and what stands behind it.
use mathlib.Core.Path.{◌∙◌}
use Rattle.queue.specs.Leaving.{kept_all, kept_some}
use Rattle.queue.specs.Queue.{cut_short}
use borrow.Author.Rules.{rules}
use Rattle.shares.proofs.leaving.keep_first.Goals as goal

pub returns-then-n-m : goal.returns-then-n-m
returns-then-n-m c = let a = c.args in
    let m = c.least-m in
    (cut_short a.w.now a.strings.now a.n c.told-w c.requires, kept_all a.w.now a.strings.now a.n m.result c.told-w m.ensures.0 c.if-n-m.true)

pub returns : goal.returns
returns c = let x = c.leave_places.ensures in
    let m = c.least-m in
    let a = c.args in
    (x.0 ∙ cut_short a.w.now a.strings.now a.n c.told-w c.requires, kept_some a.w.now a.strings.now _ _ a.n m.result m.ensures.0 (search rules) x.1)

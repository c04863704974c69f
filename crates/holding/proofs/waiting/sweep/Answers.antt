-- `waiting::sweep` meets its contract: where nobody was answered, all stay.
use Rattle.holding.specs.Sweep.{swept_none, swept_some}
use Rattle.state.specs.View.{memory}
use Rattle.holding.proofs.waiting.sweep.Goals as goal

pub returns-then-r-at : goal.returns-then-r-at
returns-then-r-at c = let a = c.args in let s = a.strings.now in
    swept_none (memory a.w.now s) a.leaving _ _ _ _ (c.answer_leaving-r.ensures s) c.if-r-at.true

pub returns : goal.returns
returns c = let a = c.args in
    let s = a.strings.now in
    swept_some (memory a.w.now s) a.leaving _ _ _ _ (c.answer_leaving-r.ensures s) _ c.keep_staying.ensures.0 c.keep_staying.ensures.1

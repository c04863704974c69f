-- `complete::at_clear` meets its contract: the request, then the release.
use native.Mathlib.Omega.{arith}
use Rattle.locks.specs.Complete.{met_clear}
use Rattle.holding.specs.Sweep.{turned_short}
use borrow.Author.Rules.{rules}
use Rattle.locks.proofs.complete.at_clear.Goals as goal

pub complete_any-requires : goal.complete_any-requires
complete_any-requires c = let a = c.args in let l =
    turned_short a.w.now a.strings.now _ _ a.i a.out.now _ _ _ c.clear_request-r.ensures in
    search rules

pub returns : goal.returns
returns c = let a = c.args in
    let x = c.clear_request-r.ensures in
    let l = turned_short a.w.now a.strings.now _ _ a.i a.out.now _ _ _ x in
    (omega (arith, c.complete_any.ensures.0), met_clear _ _ _ a.i a.out.now _ _ _ _ _ (omega arith) x c.complete_any.ensures.1)

-- `granting::note_grant` meets its contract: two stores.
use mathlib.Core.Path.{ap}
use lib.Dec.{lit<}
use Rattle.model.specs.State.{Entry}
use Rattle.state.specs.View.{memory, view}
use Rattle.grants.specs.Granting.{noted, grants_fit}
use borrow.Author.Rules.{rules}
use Rattle.grants.proofs.granting.note_grant.Goals as goal

pub returns : goal.returns
returns c = let a = c.args in
    let t = c.clock-t.ensures in
    let n = c.order.ensures in
    let m = c.one_more-n.ensures in
    let x = c.set_order.ensures in
    let y = c.set_order-2.ensures in (
      λ s. noted (view (memory a.w.now s)) _ _ a.i _ _ _ (t.1 s) (ap (λ (e : Entry). e.locks_granted.grants) (n.0 s)) m (x.0 s) (y.0 s),
      λ s q. y.1 s (grants_fit _ _ _ m n.1 (q.orders a.i 3 (search rules) (lit< tt))) (x.1 s t.0 q),
    )

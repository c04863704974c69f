-- `interrupted::put_pair` meets its contract: two frames, one behind the other.
use Prim.Native.Nat.{◌%◌}
use Rattle.model.specs.State.{at}
use Rattle.state.specs.View.{locks_of}
use Rattle.state.specs.Search.{asynchronous_read, synchronous_read}
use Rattle.exchanges.specs.Interrupted.{pair_put}
use borrow.Author.Rules.{rules}
use Rattle.exchanges.proofs.interrupted.put_pair.Goals as goal

pub returns : goal.returns
returns c = let a = c.args in
    let x = c.entry in
    let y = c.entry-2 in
    λ s. let e = at (locks_of a.w.now s).entries a.i in
    pair_put e a.id (x.result % 256) (y.result % 256) _ _ _ (asynchronous_read e x.result (x.ensures.0 s)) (synchronous_read e y.result (y.ensures.0 s)) (search rules)
    c.put_frame.ensures c.put_frame-2.ensures

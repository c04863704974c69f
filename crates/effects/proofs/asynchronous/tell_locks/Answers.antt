-- `asynchronous::tell_locks` meets its contract: what is held is read, then told.
use Rattle.effects.specs.Control.{info_told}
use Rattle.effects.proofs.asynchronous.tell_locks.Goals as goal

pub returns : goal.returns
returns c = let a = c.args in
    λ s p code param. info_told a.w.now s a.w.now a.out.now _ a.i a.c
    c.entry-n.result
    (c.entry-n.ensures.0 s) _
    code param a.len c.exclusive_code-x.result
    c.holder_count-y.result p c.acted.ensures
    (c.exclusive_code-x.ensures s) (c.holder_count-y.ensures.1 s)
    c.put_frame.ensures

-- `asynchronous::flags_of` meets its contract: three words are read.
use Rattle.effects.specs.Control.{flags_read}
use Rattle.state.specs.View.{rest_of}
use Rattle.effects.proofs.asynchronous.flags_of.Goals as goal

pub returns : goal.returns
returns c = let a = c.args in
    let e = c.single in
    let l = c.single-2 in
    let m = c.single-3 in
    flags_read (rest_of a.w.now) e.result l.result m.result e.ensures.0 l.ensures.0 m.ensures.0

-- `asynchronous::control` meets its contract: the flags, then the frame.
use Rattle.effects.specs.Control.{control_told}
use Rattle.effects.proofs.asynchronous.control.Goals as goal

pub returns : goal.returns
returns c = let a = c.args in
    λ s p param. control_told a.w.now s _ a.out.now _ a.i a.c c.entry-n.result
    (c.entry-n.ensures.0 s) _
    a.code param a.len p c.acted.ensures (c.set_control.ensures.0 s)
    c.put_frame.ensures (c.set_control.ensures.1 s)

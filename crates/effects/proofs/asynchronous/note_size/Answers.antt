-- `asynchronous::note_size` meets its contract: the number in the payload, then the frame with 1,024.
use native.Mathlib.Omega.{arith}
use Rattle.effects.specs.Control.{size_told}
use borrow.Author.Rules.{rules}
use Rattle.effects.proofs.asynchronous.note_size.Goals as goal

pub returns : goal.returns
returns c = let a = c.args in
    λ s code param. size_told a.w.now s _ a.out.now _ a.i a.c
    c.entry-n.result
    (c.entry-n.ensures.0 s) _
    code param a.len c.number-size.result a.payload.now c.acted.ensures
    (search rules) c.number-size.ensures.value
    (c.set_exchange.ensures.0 s) c.put_message.ensures
    (c.set_exchange.ensures.1 s (omega arith))

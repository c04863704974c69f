-- `frame::put_bytes` meets its contract. The invariant: `out` is what it was, with the first i bytes of `src` put in at `at`.
use Rattle.std.proofs.Common.{◌∙◌, arith}
use Rattle.std.proofs.lemmas.List.Edits.{paste_more}
use Rattle.wire.specs.Splice.{paste_splice}
use Rattle.wire.proofs.frame.put_bytes.Goals as goal

pub loop-i-preserved : goal.loop-i-preserved
loop-i-preserved c = let a = c.args in
    rw c.loop-i.invariant (paste_more a.out.now a.at a.src.now c.loop-i.i 0 (omega arith) (omega arith))

pub returns : goal.returns
returns c = let a = c.args in
    c.loop-i.invariant ∙ paste_splice a.out.now a.at a.src.now c.loop-i.i (omega arith)

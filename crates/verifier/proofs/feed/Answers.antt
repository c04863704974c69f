-- `verifier::feed` meets its contract. Assumes nothing.
use native.Mathlib.Omega.{arith}
use lib.ListN.{length-take}
use Rattle.verifier.specs.Framing.{put_behind}
use Rattle.verifier.proofs.feed.Goals as goal

pub slice_bounds-framing-end-2 : goal.slice_bounds-framing-end-2
slice_bounds-framing-end-2 c = simp length-take (omega arith)

pub returns : goal.returns
returns c = put_behind _ c.args.have c.args.bytes.now c.args.buf.now _ c.requires c.put_bytes.ensures c.framing.ensures

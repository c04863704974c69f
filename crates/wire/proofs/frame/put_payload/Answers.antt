-- `frame::put_payload` meets its contract: a part replaced is a splice.
use Rattle.std.proofs.Common.{◌+◌, ◌-◌, length, ◌∙◌, refl, arith}
use Rattle.std.proofs.lemmas.Slice.{put_mid-paste}
use Rattle.wire.specs.Splice.{paste_splice}
use Rattle.wire.proofs.frame.put_payload.Goals as goal

pub returns : goal.returns
returns c = let a = c.args in
    let n = length a.src.now in
    put_mid-paste a.at (a.at + n - a.at) a.out.now c.copy_from_slice.new.self a.src.now n c.copy_from_slice.ensures.after (omega arith) refl
    ∙ paste_splice a.out.now a.at a.src.now n refl

-- `frame::put_message` meets its contract: the payload behind its header, two splices as one.
use Rattle.std.proofs.Common.{suc, ◌∷◌, length, ap, ◌∙◌, rules}
use Rattle.wire.specs.declared.Header.{Header}
use Rattle.wire.specs.Frame.{frame_bytes}
use Rattle.wire.specs.Message.{encode, header_bytes}
use Rattle.wire.specs.RoundTrip.{length_header}
use Rattle.wire.specs.Splice.{splice_then}
use Rattle.wire.proofs.frame.put_message.Goals as goal

pub returns : goal.returns
unfolding frame_bytes encode
returns c = let a = c.args in
    let h : Header = record { kind = a.kind; code = a.code; param = a.param; len = length a.payload.now } in
    c.put_payload.ensures
    ∙ rw c.put_header.ensures
    (splice_then a.out.now a.at (a.connection ∷ header_bytes h) 17 a.payload.now (ap suc (length_header h)) (search rules))

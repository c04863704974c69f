-- `frame::put_frame` meets its contract: a header whose payload is empty.
use Rattle.std.proofs.Common.{append-nil}
use Rattle.wire.specs.Frame.{frame_bytes}
use Rattle.wire.specs.Message.{encode}
use Rattle.wire.proofs.frame.put_frame.Goals as goal

pub returns : goal.returns
unfolding frame_bytes encode
returns c = rw append-nil c.put_header.ensures

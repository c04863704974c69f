-- `frame::put_start` meets its contract: five stores are a splice.
use Rattle.std.proofs.Common.{arith, length-set, rules}
use Rattle.wire.specs.Splice.{stores_splice}
use Rattle.wire.proofs.frame.put_start.Goals as goal

pub returns : goal.returns
returns c = stores_splice _ _ _ _ (search rules)

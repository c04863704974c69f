-- `holders::put_in` meets its contract: bit i is set.
use Rattle.std.proofs.Common.{rules}
use Rattle.model.specs.Sizes.{session_limit}
use Rattle.state.specs.Bits.{or_with}
use Rattle.state.proofs.holders.put_in.Goals as goal

pub returns : goal.returns
returns c = rw c.power_of.ensures (or_with session_limit c.args.m c.args.i (search rules))

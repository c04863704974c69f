-- `waiting::expire` meets its contract.
use Rattle.holding.specs.Sweep.{expired}
use Rattle.holding.proofs.waiting.expire.Goals as goal

pub returns : goal.returns
returns c = let a = c.args in
    let s = a.strings.now in
    let k = c.set_clock.ensures in
    expired _ _ _ a.t _ _ _ _ (k.0 s) (k.1 s) c.sweep.ensures

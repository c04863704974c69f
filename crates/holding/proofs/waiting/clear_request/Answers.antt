-- `waiting::clear_request` meets its contract.
use Rattle.holding.specs.Outcome.{met_is}
use Rattle.holding.specs.Sweep.{cleared}
use Rattle.state.specs.View.{locks_of}
use Rattle.holding.proofs.waiting.clear_request.Goals as goal

pub returns : goal.returns
returns c = let a = c.args in
    met_is _ _ _ _ _ _ _ _ (cleared (locks_of a.w.now a.strings.now) a.i) c.sweep.ensures

-- `standing::stands` meets its contract.
use Rattle.model.specs.State.{at}
use Rattle.holding.specs.Standing.{standing_read, stands_word}
use Rattle.state.specs.View.{locks_of}
use Rattle.holding.proofs.standing.stands.Goals as goal

pub returns : goal.returns
returns c = let a = c.args in
    λ s. stands_word c.order.result (at (locks_of a.w.now s).entries a.i).standing
    (standing_read (at (locks_of a.w.now s).entries a.i) c.order.result (c.order.ensures.0 s))

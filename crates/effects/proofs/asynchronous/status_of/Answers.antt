-- `asynchronous::status_of` meets its contract: message available as a number.
use Rattle.model.specs.State.{exchange_at}
use Rattle.effects.specs.StatusQuery.{available_now, byte_flag}
use Rattle.state.specs.View.{rest_of}
use Rattle.effects.proofs.asynchronous.status_of.Goals as goal

pub returns : goal.returns
returns c = let a = c.args in
    let s = c.single-all in
    let x = c.available-on in
    byte_flag (rest_of a.w.now) s.result s.ensures.0 (available_now a.param (exchange_at (rest_of a.w.now) a.i)) x.result x.ensures.0

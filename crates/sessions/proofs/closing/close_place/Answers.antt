-- `closing::close_place` meets its contract: the parts are closed, then the grant pass.
use Rattle.sessions.specs.Closing.{closes}
use Rattle.sessions.proofs.closing.close_place.Goals as goal

pub returns : goal.returns
returns c = let a = c.args in
    let x = c.close_parts.ensures in
    let y = c.pass_waiting.ensures in
    (closes _ a.c a.i _ _ _ _ _ _ x.0 y, λ t. y.tidy (x.1 t))

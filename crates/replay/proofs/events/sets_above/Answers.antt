-- `replay::events::sets_above` meets its contract.
use native.Mathlib.Omega.{arith}
use mathlib.Core.Path.{sym, ◌∙◌}
use Rattle.state.specs.View.{memory}
use Rattle.replay.proofs.Laws.{float_bits, no_above, set_above}
use Rattle.replay.proofs.events.sets_above.Goals as goal

pub returns-then-is_no_number : goal.returns-then-is_no_number
returns-then-is_no_number c = let a = c.args in no_above (memory a.words.now a.strings.now) a.frames.now a.session a.limit
    (sym c.is_no_number.ensures ∙ c.if-is_no_number.true)

pub returns : goal.returns
returns c = let a = c.args in
    let n = sym c.is_no_number.ensures ∙ c.if-is_no_number.false in
    set_above (memory a.words.now a.strings.now) _ a.frames.now a.session a.limit _
    (float_bits _ a.limit c.float_of-x.ensures
    (omega arith) n) _ _ c.hislip_watch_above-a.ensures c.silent.ensures

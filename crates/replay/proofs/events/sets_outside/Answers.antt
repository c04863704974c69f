-- `replay::events::sets_outside` meets its contract.
use native.Mathlib.Omega.{arith}
use mathlib.Core.Path.{sym, ◌∙◌}
use Rattle.state.specs.View.{memory}
use Rattle.replay.proofs.Laws.{float_bits, no_low, no_high, set_outside}
use Rattle.replay.proofs.events.sets_outside.Goals as goal

pub returns-then-is_no_number : goal.returns-then-is_no_number
returns-then-is_no_number c = let a = c.args in no_low (memory a.words.now a.strings.now) a.frames.now a.session a.low a.high
    (sym c.is_no_number.ensures ∙ c.if-is_no_number.true)

pub returns-then-is_no_number-2 : goal.returns-then-is_no_number-2
returns-then-is_no_number-2 c = let a = c.args in
    no_high (memory a.words.now a.strings.now) a.frames.now a.session a.low a.high
    (sym c.is_no_number-2.ensures ∙ c.if-is_no_number-2.true)

pub returns : goal.returns
returns c = let a = c.args in
    let l = float_bits _ a.low c.float_of-x.ensures
    (omega arith)
    (sym c.is_no_number.ensures
    ∙ c.if-is_no_number.false) in
    let h = float_bits _ a.high c.float_of-y.ensures
    (omega arith)
    (sym c.is_no_number-2.ensures
    ∙ c.if-is_no_number-2.false) in
    set_outside (memory a.words.now a.strings.now) _ a.frames.now a.session a.low a.high _ _ l h _ _ c.hislip_watch_outside-a.ensures c.silent.ensures

-- `body::read_event` meets its contract: by the tag, then field by field.
use Rattle.std.proofs.Common.{◌∙◌, ap, sym, ℕ, arith, le-leb}
use Rattle.std.proofs.lemmas.Bool.{lt-leb}
use Rattle.journal.specs.Bytes.{yes_is, no_is}
use Rattle.record.specs.Layout.{found, none, answer, get_opening, get_delivery, get_cut, get_clock, get_answer, get_status, get_off, get_above, get_outside, get_patterns}
use Rattle.record.specs.Fields.{then_is}
use Rattle.record.proofs.Fronts.{then_none, number_missing, number_there, byte_there, missing, end_is, tag_unknown}
use Rattle.record.proofs.Fronts.{tag_0, tag_1, tag_2, tag_3, tag_4, tag_5, tag_6, tag_7, tag_8, tag_9}
use Rattle.record.proofs.body.read_event.Goals as goal

pub returns-in_err-connection-in-0 : goal.returns-in_err-connection-in-0
unfolding get_opening
returns-in_err-connection-in-0 c = missing _ c.from_residual.ensures (tag_0 _ c.in-0.is ∙ then_none _ c.in_err-connection-in-0.ensures)

pub returns-in_ok-connection-in-0 : goal.returns-in_ok-connection-in-0
unfolding get_opening
returns-in_ok-connection-in-0 c = tag_0 _ c.in-0.is ∙ then_is _ c.in_ok-connection-in-0.ensures

pub returns-in_err-connection-in-1 : goal.returns-in_err-connection-in-1
unfolding get_delivery
returns-in_err-connection-in-1 c = missing _ c.from_residual-in_err-connection-in-1.ensures (tag_1 _ c.in-1.is ∙ then_none _ c.in_err-connection-in-1.ensures)

pub returns-in_err-bytes-in-1 : goal.returns-in_err-bytes-in-1
unfolding get_delivery
returns-in_err-bytes-in-1 c = missing _ c.from_residual-in_err-bytes-in-1.ensures (tag_1 _ c.in-1.is ∙ then_is _ c.in_ok-connection-in-1.ensures ∙ then_none _ c.in_err-bytes-in-1.ensures)

pub returns-in_ok-bytes-in-1 : goal.returns-in_ok-bytes-in-1
unfolding get_delivery
returns-in_ok-bytes-in-1 c = tag_1 _ c.in-1.is ∙ then_is _ c.in_ok-connection-in-1.ensures ∙ then_is _ c.in_ok-bytes-in-1.ensures

pub returns-in_err-connection-in-2 : goal.returns-in_err-connection-in-2
unfolding get_cut
returns-in_err-connection-in-2 c = missing _ c.from_residual-in_err-connection-in-2.ensures (tag_2 _ c.in-2.is ∙ then_none _ c.in_err-connection-in-2.ensures)

pub returns-in_ok-connection-in-2 : goal.returns-in_ok-connection-in-2
unfolding get_cut
returns-in_ok-connection-in-2 c = tag_2 _ c.in-2.is ∙ then_is _ c.in_ok-connection-in-2.ensures

pub returns-in_err-session-in-6 : goal.returns-in_err-session-in-6
unfolding get_off
returns-in_err-session-in-6 c = missing _ c.from_residual-in_err-session-in-6.ensures (tag_6 _ c.in-6.is ∙ then_none _ c.in_err-session-in-6.ensures)

pub returns-in_ok-session-in-6 : goal.returns-in_ok-session-in-6
unfolding get_off
returns-in_ok-session-in-6 c = tag_6 _ c.in-6.is ∙ then_is _ c.in_ok-session-in-6.ensures

pub returns-in_err-session-in-7 : goal.returns-in_err-session-in-7
unfolding get_above
returns-in_err-session-in-7 c = missing _ c.from_residual-in_err-session-in-7.ensures (tag_7 _ c.in-7.is ∙ then_none _ c.in_err-session-in-7.ensures)

pub returns-in_err-limit-in-7 : goal.returns-in_err-limit-in-7
unfolding get_above
returns-in_err-limit-in-7 c = missing _ c.from_residual-in_err-limit-in-7.ensures (tag_7 _ c.in-7.is ∙ then_is _ c.in_ok-session-in-7.ensures ∙ then_none _ c.in_err-limit-in-7.ensures)

pub returns-in_ok-limit-in-7 : goal.returns-in_ok-limit-in-7
unfolding get_above
returns-in_ok-limit-in-7 c = tag_7 _ c.in-7.is ∙ then_is _ c.in_ok-session-in-7.ensures ∙ then_is _ c.in_ok-limit-in-7.ensures

pub returns-in_err-session-in-8 : goal.returns-in_err-session-in-8
unfolding get_outside
returns-in_err-session-in-8 c = missing _ c.from_residual-in_err-session-in-8.ensures (tag_8 _ c.in-8.is ∙ then_none _ c.in_err-session-in-8.ensures)

pub returns-in_err-low-in-8 : goal.returns-in_err-low-in-8
unfolding get_outside
returns-in_err-low-in-8 c = missing _ c.from_residual-in_err-low-in-8.ensures (tag_8 _ c.in-8.is ∙ then_is _ c.in_ok-session-in-8.ensures ∙ then_none _ c.in_err-low-in-8.ensures)

pub returns-in_err-high-in-8 : goal.returns-in_err-high-in-8
unfolding get_outside
returns-in_err-high-in-8 c = missing _ c.from_residual-in_err-high-in-8.ensures (tag_8 _ c.in-8.is ∙ then_is _ c.in_ok-session-in-8.ensures ∙ then_is _ c.in_ok-low-in-8.ensures ∙ then_none _ c.in_err-high-in-8.ensures)

pub returns-in_ok-high-in-8 : goal.returns-in_ok-high-in-8
unfolding get_outside
returns-in_ok-high-in-8 c = tag_8 _ c.in-8.is ∙ then_is _ c.in_ok-session-in-8.ensures ∙ then_is _ c.in_ok-low-in-8.ensures ∙ then_is _ c.in_ok-high-in-8.ensures

pub returns-in_err-text-in-9 : goal.returns-in_err-text-in-9
unfolding get_patterns
returns-in_err-text-in-9 c = missing _ c.from_residual-in_err-text-in-9.ensures (tag_9 _ c.in-9.is ∙ then_none _ c.in_err-text-in-9.ensures)

pub returns-in_ok-text-in-9 : goal.returns-in_ok-text-in-9
unfolding get_patterns
returns-in_ok-text-in-9 c = tag_9 _ c.in-9.is ∙ then_is _ c.in_ok-text-in-9.ensures

pub returns-then-s-lt8 : goal.returns-then-s-lt8
unfolding get_clock
returns-then-s-lt8 c = tag_3 _ c.in-3.is ∙ then_none _ (number_missing 8 _ c.if-s-lt8.true)

pub returns-else-s-lt8 : goal.returns-else-s-lt8
unfolding get_clock
returns-else-s-lt8 c = tag_3 _ c.in-3.is ∙ then_is _ (number_there 8 _ _ c.if-s-lt8.false c.number-milliseconds.ensures.value)

pub returns-in_err-byte-in-5 : goal.returns-in_err-byte-in-5
unfolding get_status
returns-in_err-byte-in-5 c = missing _ c.from_residual-in_err-byte-in-5.ensures (tag_5 _ c.in-5.is ∙ then_none _ (number_missing 1 _ (omega (arith, c.in_err-byte-in-5.ensures.cases))))

pub returns-in_ok-byte-in-5 : goal.returns-in_ok-byte-in-5
unfolding get_status
returns-in_ok-byte-in-5 c = tag_5 _ c.in-5.is ∙ then_is _ (byte_there _ _ _ c.in_ok-byte-in-5.ensures.cases.0)

pub returns-in_err-session-in-4 : goal.returns-in_err-session-in-4
unfolding get_answer
returns-in_err-session-in-4 c = missing _ c.from_residual-in_err-session-in-4.ensures (tag_4 _ c.in-4.is ∙ then_none _ c.in_err-session-in-4.ensures)

pub returns-in_err-end-in-4 : goal.returns-in_err-end-in-4
unfolding get_answer
returns-in_err-end-in-4 c =
    missing _ c.from_residual-in_err-end-in-4.ensures
    (tag_4 _ c.in-4.is ∙ then_is _ c.in_ok-session-in-4.ensures ∙ then_none _ (number_missing 1 _ (omega (arith, c.in_err-end-in-4.ensures.cases))))

pub returns-then-end-gt-MOST_END : goal.returns-then-end-gt-MOST_END
unfolding get_answer
returns-then-end-gt-MOST_END c =
    tag_4 _ c.in-4.is ∙ then_is _ c.in_ok-session-in-4.ensures ∙ then_is _ (byte_there _ _ _ c.in_ok-end-in-4.ensures.cases.0)
    ∙ no_is _ none (lt-leb _ 1 c.if-end-gt-MOST_END.true)

pub returns-in_err-payload-in-4 : goal.returns-in_err-payload-in-4
unfolding get_answer
returns-in_err-payload-in-4 c =
    missing _ c.from_residual-in_err-payload-in-4.ensures
    (tag_4 _ c.in-4.is ∙ then_is _ c.in_ok-session-in-4.ensures ∙ then_is _ (byte_there _ _ _ c.in_ok-end-in-4.ensures.cases.0)
    ∙ yes_is _ none (le-leb _ 1 c.if-end-gt-MOST_END.false) ∙ then_none _ c.in_err-payload-in-4.ensures)

pub returns-in_err-shown-in-4 : goal.returns-in_err-shown-in-4
unfolding get_answer
returns-in_err-shown-in-4 c =
    missing _ c.from_residual-in_err-shown-in-4.ensures
    (tag_4 _ c.in-4.is ∙ then_is _ c.in_ok-session-in-4.ensures ∙ then_is _ (byte_there _ _ _ c.in_ok-end-in-4.ensures.cases.0)
    ∙ yes_is _ none (le-leb _ 1 c.if-end-gt-MOST_END.false) ∙ then_is _ c.in_ok-payload-in-4.ensures ∙ then_none _ c.in_err-shown-in-4.ensures)

pub returns-in_ok-shown-in-4 : goal.returns-in_ok-shown-in-4
unfolding get_answer
returns-in_ok-shown-in-4 c =
    tag_4 _ c.in-4.is ∙ then_is _ c.in_ok-session-in-4.ensures ∙ then_is _ (byte_there _ _ _ c.in_ok-end-in-4.ensures.cases.0)
    ∙ yes_is _ none (le-leb _ 1 c.if-end-gt-MOST_END.false) ∙ then_is _ c.in_ok-payload-in-4.ensures ∙ then_is _ c.in_ok-shown-in-4.ensures
    ∙ ap (λ (e : ℕ). found (answer c.in_ok-session-in-4.session e c.in_ok-payload-in-4.payload.now c.in_ok-shown-in-4.shown.now) c.in_ok-shown-in-4.frames.now) (sym (end_is _ c.if-end-gt-MOST_END.false))

pub returns-in_default : goal.returns-in_default
returns-in_default c = tag_unknown _ (omega arith)

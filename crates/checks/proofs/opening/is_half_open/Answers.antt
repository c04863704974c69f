-- `opening::is_half_open` meets its contract: number 0 is no session's; else the slot with the number, and its second channel.
use Rattle.state.specs.View.{locks_of}
use Rattle.checks.specs.Opening.{half_free, number_none, number_found}
use Rattle.checks.proofs.opening.is_half_open.Goals as goal

pub returns-then-number-eq0 : goal.returns-then-number-eq0
returns-then-number-eq0 c = let a = c.args in λ s. half_free (locks_of a.w.now s).entries a.number c.if-number-eq0.true

pub returns-then-slot-ge-SESSION_LIMIT : goal.returns-then-slot-ge-SESSION_LIMIT
returns-then-slot-ge-SESSION_LIMIT c = let a = c.args in
    λ s. number_none a.w.now s a.number c.slot_of_number-slot.result (c.slot_of_number-slot.ensures.1 s) c.if-slot-ge-SESSION_LIMIT.true

pub returns : goal.returns
returns c = let a = c.args in
    λ s. number_found a.w.now s a.number c.slot_of_number-slot.result (c.slot_of_number-slot.ensures.1 s)
    c.if-number-eq0.false c.if-slot-ge-SESSION_LIMIT.false c.entry.result (c.entry.ensures.0 s)

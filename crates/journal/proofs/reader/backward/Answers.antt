-- `reader::backward` meets its contract: a law for each way out.
use Rattle.std.proofs.Common.{sym, ◌∙◌, arith, length-take}
use Rattle.journal.specs.Steps.{closed_length, backward_open, backward_past, backward_in}
use Rattle.journal.proofs.reader.backward.Goals as goal

pub returns-then-not-is_closed : goal.returns-then-not-is_closed
returns-then-not-is_closed c = backward_open _ _ _ c.room-m.ensures (sym c.is_closed.ensures ∙ c.if-not-is_closed.true)

pub overflow_sub-m : goal.overflow_sub-m
overflow_sub-m c = let h = closed_length _ (sym c.is_closed.ensures ∙ c.if-not-is_closed.false) in omega (arith, simp length-take at h)

pub returns-then-at-m : goal.returns-then-at-m
returns-then-at-m c = backward_past _ _ _ c.room-m.ensures
    (sym c.is_closed.ensures ∙ c.if-not-is_closed.false) c.if-at-m.true

pub returns : goal.returns
returns c = backward_in _ _ _ c.room-m.ensures
    (sym c.is_closed.ensures ∙ c.if-not-is_closed.false) c.if-at-m.false _
    c.ending.ensures

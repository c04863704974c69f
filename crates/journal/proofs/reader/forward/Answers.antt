-- `reader::forward` meets its contract: a law for each way out.
use Rattle.std.proofs.Common.{sym, ◌∙◌, arith}
use Rattle.journal.specs.Steps.{used_part, whole_length, forward_found, forward_none, forward_past}
use Rattle.journal.proofs.reader.forward.Goals as goal

pub returns-then-at-m : goal.returns-then-at-m
returns-then-at-m c = forward_past _ _ _ c.room-m.ensures c.if-at-m.true

pub returns-then-not-whole_entry : goal.returns-then-not-whole_entry
returns-then-not-whole_entry c = let a = c.args in
    forward_none _ _ _ (used_part a.book.now _ a.at c.room-m.ensures) (sym c.whole_entry.ensures ∙ c.if-not-whole_entry.true)

pub length_of-len-requires : goal.length_of-len-requires
length_of-len-requires c = omega (arith, whole_length _ (sym c.whole_entry.ensures ∙ c.if-not-whole_entry.false))

pub returns : goal.returns
returns c = let a = c.args in
    forward_found _ _ _ _ (used_part a.book.now _ a.at c.room-m.ensures)
    (sym c.whole_entry.ensures ∙ c.if-not-whole_entry.false) c.length_of-len.ensures.0

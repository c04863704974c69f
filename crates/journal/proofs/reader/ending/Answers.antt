-- `reader::ending` meets its contract: a law for each way out.
use Rattle.std.proofs.Common.{sym, ◌∙◌}
use Rattle.journal.specs.Journal.{distance_of}
use Rattle.journal.proofs.Steps.{ending_short, ending_far, ending_broken, ending_other, ending_found}
use Rattle.journal.proofs.reader.ending.Goals as goal

pub returns-then-e-lt8 : goal.returns-then-e-lt8
returns-then-e-lt8 c = ending_short _ c.if-e-lt8.true

pub returns-then-e-d : goal.returns-then-e-d
unfolding distance_of
returns-then-e-d c = ending_far _ _ c.number-d.ensures.value c.if-e-d.true

pub returns-then-not-whole_entry : goal.returns-then-not-whole_entry
unfolding distance_of
returns-then-not-whole_entry c = ending_broken _ _ c.number-d.ensures.value (sym c.whole_entry.ensures ∙ c.if-not-whole_entry.true)

pub returns-then-len-d : goal.returns-then-len-d
unfolding distance_of
returns-then-len-d c = ending_other _ _ c.number-d.ensures.value _ c.length_of-len.ensures.0 c.if-len-d.true

pub returns : goal.returns
unfolding distance_of
returns c = ending_found _ _ c.number-d.ensures.value _ c.length_of-len.ensures.0
    c.if-e-d.false
    (sym c.whole_entry.ensures ∙ c.if-not-whole_entry.false) c.if-len-d.false

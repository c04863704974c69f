-- `verifier::ending` meets its contract. Assumes nothing.
use Rattle.verifier.specs.Framing.{end_few, end_entry, end_length, end_last, end_count, end_right}
use Rattle.verifier.proofs.ending.Goals as goal

pub returns-then-s-lt4 : goal.returns-then-s-lt4
returns-then-s-lt4 c = end_few _ _ _ c.if-s-lt4.true

pub returns-then-number-ne-BACK : goal.returns-then-number-ne-BACK
returns-then-number-ne-BACK c = end_entry _ _ _ _ c.number.ensures.value c.if-s-lt4.false c.if-number-ne-BACK.true

pub returns-then-s-ne-AROUND : goal.returns-then-s-ne-AROUND
returns-then-s-ne-AROUND c = end_length _ _ _ _ c.number.ensures.value c.if-s-lt4.false c.if-number-ne-BACK.false c.if-s-ne-AROUND.true

pub returns-then-number-last : goal.returns-then-number-last
returns-then-number-last c = end_last _ _ _ _ c.number.ensures.value c.if-s-lt4.false
    c.if-number-ne-BACK.false _ c.number-2.ensures.value c.if-number-last.true

pub returns-then-number-count : goal.returns-then-number-count
returns-then-number-count c = end_count _ _ _ _ c.number.ensures.value
    c.if-s-lt4.false c.if-number-ne-BACK.false _
    c.number-3.ensures.value c.if-number-count.true

pub returns : goal.returns
returns c = end_right _ _ _ _ c.number.ensures.value
    c.if-s-lt4.false c.if-number-ne-BACK.false
    c.if-s-ne-AROUND.false _ _ c.number-2.ensures.value c.if-number-last.false
    c.number-3.ensures.value c.if-number-count.false

-- `verifier::framing` meets its contract. Assumes nothing.
use native.Mathlib.Omega.{arith}
use lib.ListN.{length-take}
use Rattle.verifier.specs.Framing.{few, back_short, back_long, too_long, short, bad_distance, bad_sum, all_right}
use Rattle.verifier.proofs.framing.Goals as goal

pub returns-then-s-le3 : goal.returns-then-s-le3
returns-then-s-le3 c = few _ c.if-s-le3.true

pub returns-then-s-le-AROUND : goal.returns-then-s-le-AROUND
returns-then-s-le-AROUND c = back_short _ _ c.number-n.ensures.value c.if-s-le3.false c.if-n-eq-BACK.true c.if-s-le-AROUND.true

pub returns-then-n-eq-BACK : goal.returns-then-n-eq-BACK
returns-then-n-eq-BACK c = back_long _ _ c.number-n.ensures.value c.if-s-le3.false c.if-n-eq-BACK.true c.if-s-le-AROUND.false

pub returns-then-n-gt-BODY_LIMIT : goal.returns-then-n-gt-BODY_LIMIT
returns-then-n-gt-BODY_LIMIT c = too_long _ _ c.number-n.ensures.value c.if-s-le3.false c.if-n-eq-BACK.false c.if-n-gt-BODY_LIMIT.true

pub returns-then-s-e : goal.returns-then-s-e
returns-then-s-e c = short _ _ c.number-n.ensures.value c.if-s-le3.false c.if-n-eq-BACK.false c.if-n-gt-BODY_LIMIT.false c.if-s-e.true

pub returns-then-number-n : goal.returns-then-number-n
returns-then-number-n c = bad_distance _ _ c.number-n.ensures.value c.if-s-le3.false
    c.if-n-eq-BACK.false c.if-n-gt-BODY_LIMIT.false c.if-s-e.false _ c.number.ensures.value
    c.if-number-n.true

pub slice_bounds-crc32-end : goal.slice_bounds-crc32-end
slice_bounds-crc32-end c = simp length-take (omega arith)

pub returns-then-number-sum : goal.returns-then-number-sum
returns-then-number-sum c = bad_sum _ _ c.number-n.ensures.value
    c.if-s-le3.false
    c.if-n-eq-BACK.false c.if-n-gt-BODY_LIMIT.false
    c.if-s-e.false _ c.number.ensures.value
    c.if-number-n.false _ _ c.number-2.ensures.value c.crc32-sum.ensures c.if-number-sum.true

pub returns : goal.returns
returns c = all_right _ _ c.number-n.ensures.value
    c.if-s-le3.false
    c.if-n-eq-BACK.false c.if-n-gt-BODY_LIMIT.false
    c.if-s-e.false _ c.number.ensures.value
    c.if-number-n.false _ _ c.number-2.ensures.value c.crc32-sum.ensures c.if-number-sum.false

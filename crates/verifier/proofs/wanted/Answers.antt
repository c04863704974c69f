-- `verifier::wanted` meets its contract. Assumes nothing.
use Rattle.verifier.specs.Standing.{wants_few, wants_back, wants_entry}
use Rattle.verifier.proofs.wanted.Goals as goal

pub returns-then-s-le3 : goal.returns-then-s-le3
returns-then-s-le3 c = wants_few _ c.if-s-le3.true

pub returns-then-n-eq-BACK : goal.returns-then-n-eq-BACK
returns-then-n-eq-BACK c = wants_back _ _ c.number-n.ensures.value c.if-s-le3.false c.if-n-eq-BACK.true

pub returns : goal.returns
returns c = wants_entry _ _ c.number-n.ensures.value c.if-s-le3.false c.if-n-eq-BACK.false

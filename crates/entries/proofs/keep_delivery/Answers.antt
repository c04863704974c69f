-- `keep_delivery` meets its contract: nothing of a refused delivery, else what the writer does.
use borrow.Author.Tests.{eq-eqb, ne_eqb}
use Rattle.entries.specs.Parts.{not_kept, then_kept}
use Rattle.entries.proofs.keep_delivery.Goals as goal

pub returns-then-not-accepted : goal.returns-then-not-accepted
returns-then-not-accepted c = not_kept _ _ _ _ (ne_eqb c.args.refusal 0 c.if-not-accepted.true)

pub returns : goal.returns
returns c = then_kept _ _ _ _ (eq-eqb c.args.refusal 0 c.if-not-accepted.false) (rw c.from-tag.ensures at c.append_numbered.ensures)

-- `keep_entry` meets its contract: nothing of a refused event, else what the writer does.
use borrow.Author.Tests.{eq-eqb, ne_eqb}
use Rattle.entries.specs.Parts.{not_kept, then_kept}
use Rattle.entries.proofs.keep_entry.Goals as goal

pub returns-then-refused : goal.returns-then-refused
returns-then-refused c = not_kept _ _ _ _ (ne_eqb c.args.refusal 0 c.if-refused.true)

pub returns : goal.returns
returns c = then_kept _ _ _ _ (eq-eqb c.args.refusal 0 c.if-refused.false) c.append.ensures

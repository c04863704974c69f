-- `writer::place_for` meets its contract: a law for each way out.
use Rattle.std.proofs.Common.{sym, ◌∙◌}
use Rattle.journal.specs.Bytes.{yes_is, no_is}
use Rattle.journal.specs.Writer.{placed}
use Rattle.journal.proofs.writer.place_for.Goals as goal

pub returns-then-not-is_open : goal.returns-then-not-is_open
unfolding placed
returns-then-not-is_open c = sym (no_is _ _ (sym c.is_open.ensures ∙ c.if-not-is_open.true))

pub returns-then-not-fits : goal.returns-then-not-fits
unfolding placed
returns-then-not-fits c = sym (yes_is _ _ (sym c.is_open.ensures ∙ c.if-not-is_open.false) ∙ no_is _ _ (sym c.fits.ensures ∙ c.if-not-fits.true))

pub returns : goal.returns
unfolding placed
returns c = sym (yes_is _ _ (sym c.is_open.ensures ∙ c.if-not-is_open.false) ∙ yes_is _ _ (sym c.fits.ensures ∙ c.if-not-fits.false))

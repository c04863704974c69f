-- `writer::new` meets its contract.
use Rattle.std.proofs.Common.{sym, ◌∙◌, refl}
use Rattle.journal.specs.Written.{new_made, new_no_room}
use Rattle.journal.proofs.writer.new.Goals as goal

pub returns-then-not-fits : goal.returns-then-not-fits
returns-then-not-fits c = new_no_room _ _ (sym c.fits.ensures ∙ c.if-not-fits.true)

pub returns : goal.returns
returns c = new_made _ _ _ (sym c.fits.ensures ∙ c.if-not-fits.false) refl

-- `hislip_journal_new` meets its contract.
use Rattle.entries.specs.Parts.{met}
use Rattle.keep.proofs.book.hislip_journal_new.Goals as goal

pub returns : goal.returns
returns c = met c.new.ensures c.from.ensures

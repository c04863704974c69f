-- `hislip_journal_close` meets its contract.
use Rattle.entries.specs.Parts.{met}
use Rattle.keep.proofs.book.hislip_journal_close.Goals as goal

pub returns : goal.returns
returns c = met c.close.ensures c.from.ensures

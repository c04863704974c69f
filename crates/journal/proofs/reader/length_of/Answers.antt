-- `reader::length_of` meets its contract.
use Rattle.journal.specs.Journal.{length_of}
use Rattle.journal.proofs.reader.length_of.Goals as goal

pub returns : goal.returns
unfolding length_of
returns c = (c.number.ensures.value, c.number.ensures.bound)

-- `reader::is_closed` meets its contract.
use Rattle.std.proofs.Common.{◌∙◌, arith}
use borrow.Author.Tests.{lt-leb}
use Rattle.journal.specs.Steps.{open_short, closed_test}
use Rattle.journal.proofs.reader.is_closed.Goals as goal

pub returns-then-s-ge12 : goal.returns-then-s-ge12
returns-then-s-ge12 c = closed_test _ _ c.if-s-ge12.true c.number.ensures.value

pub returns-else-s-ge12 : goal.returns-else-s-ge12
returns-else-s-ge12 c = lt-leb _ _ (omega (arith, c.if-s-ge12.false)) ∙ open_short _ (omega (arith, c.if-s-ge12.false))

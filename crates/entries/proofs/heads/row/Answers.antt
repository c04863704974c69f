-- `heads::row` meets its contract: the length, and the bytes behind it.
use Rattle.entries.specs.Parts.{row_taken}
use borrow.Author.Rules.{rules}
use Rattle.entries.proofs.heads.row.Goals as goal

pub returns : goal.returns
returns c = (
  search rules,
  row_taken _ _ _ c.args.s.now (search rules)
      c.put.ensures c.put_bytes.ensures,
)

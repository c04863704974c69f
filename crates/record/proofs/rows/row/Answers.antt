-- `rows::row` meets its contract.
use Rattle.record.specs.Layout.{get_row}
use Rattle.record.proofs.Fronts.{missing, then_none, row_too_long, row_by}
use Rattle.record.proofs.rows.row.Goals as goal

pub returns-in_err-n : goal.returns-in_err-n
unfolding get_row
returns-in_err-n c = missing _ c.from_residual.ensures (then_none _ c.in_err-n.ensures)

pub returns-then-n-most : goal.returns-then-n-most
returns-then-n-most c = row_too_long _ _ _ _ c.in_ok-n.ensures c.if-n-most.true

pub returns : goal.returns
returns c = row_by _ _ _ _ c.in_ok-n.ensures _ c.if-n-most.false c.split_at_checked.ensures.cases

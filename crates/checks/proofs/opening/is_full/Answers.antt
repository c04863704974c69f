-- `opening::is_full` meets its contract: all slots are taken where number 0 is not found.
use Rattle.checks.specs.Opening.{all_taken}
use Rattle.checks.proofs.opening.is_full.Goals as goal

pub returns : goal.returns
returns c = let a = c.args in λ s. all_taken a.w.now s c.slot_of_number.result (c.slot_of_number.ensures.1 s)

-- `waiting::may_stay` meets its contract.
use Rattle.holding.specs.Waiting.{else_stays}
use Rattle.holding.proofs.waiting.may_stay.Goals as goal

pub returns-in-OfSlot : goal.returns-in-OfSlot
returns-in-OfSlot c = let a = c.args in λ s. rw c.in-OfSlot.is (else_stays a.w.now s a.x c.in-OfSlot.i)

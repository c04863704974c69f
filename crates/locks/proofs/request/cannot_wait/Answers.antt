-- `request::cannot_wait` meets its contract.
use mathlib.Core.Path.{◌∙◌}
use Rattle.locks.specs.Asking.{denied_full}
use Rattle.queue.specs.Queue.{count_is}
use Rattle.state.specs.View.{locks_of}
use Rattle.locks.proofs.request.cannot_wait.Goals as goal

pub returns-else-timeout-eq0 : goal.returns-else-timeout-eq0
returns-else-timeout-eq0 c = let a = c.args in λ s. denied_full a.timeout _ (locks_of a.w.now s).waiting c.if-timeout-eq0.false (c.waiting_count.ensures.0 ∙ count_is a.w.now s)

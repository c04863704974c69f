-- `events::set_status` meets its contract: one store.
use Rattle.exchanges.specs.Events.{status_stored}
use Rattle.state.specs.View.{memory, view}
use borrow.Author.Rules.{rules}
use Rattle.exchanges.proofs.events.set_status.Goals as goal

pub returns : goal.returns
returns c = let a = c.args in (
  λ s. status_stored (view (memory a.w.now s)) _ a.b (search rules) (c.set_single.ensures.0 s),
  λ s. c.set_single.ensures.1 s (search rules),
)

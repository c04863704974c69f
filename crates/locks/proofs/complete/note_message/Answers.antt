-- `complete::note_message` meets its contract: nothing is due where nothing stands.
use Rattle.model.specs.State.{at}
use Rattle.locks.specs.Asking.{met_none}
use Rattle.locks.specs.Complete.{due_unstood, message_not, noted_stored}
use Rattle.state.specs.View.{locks_of, memory, view}
use borrow.Author.Rules.{rules}
use Rattle.locks.proofs.complete.note_message.Goals as goal

pub returns : goal.returns
returns c = let a = c.args in (
  λ s out r. met_none _ _ _ _ _ _
      (message_not (locks_of a.w.now s) a.i a.n (due_unstood (at (locks_of a.w.now s).entries a.i).standing a.n (c.requires.1 s)))
      (noted_stored (view (memory a.w.now s)) _ a.i a.n (search rules) (c.set_order.ensures.0 s))
      (c.set_order.ensures.1 s (search rules)),
  λ s. c.set_order.ensures.0 s,
)

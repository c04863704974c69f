-- `interrupted::interrupt` meets its contract: the pair, and the exchange.
use Rattle.exchanges.specs.Interrupted.{pair_length}
use Rattle.model.specs.State.{at}
use Rattle.state.specs.View.{locks_of}
use borrow.Author.Rules.{rules}
use Rattle.exchanges.proofs.interrupted.interrupt.Goals as goal

pub returns : goal.returns
returns c = let a = c.args in (
  search rules,
  λ s. record {
    server = c.note_interrupted.ensures.0 s;
    buffer = c.put_pair.ensures s;
    place = pair_length (at (locks_of a.w.now s).entries a.i) a.id;
  },
  c.note_interrupted.ensures.1,
)

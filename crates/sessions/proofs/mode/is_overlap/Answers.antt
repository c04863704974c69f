-- `mode::is_overlap` meets its contract: the word that was read is the flag.
use Rattle.model.specs.State.{exchange_at}
use Rattle.state.specs.View.{rest_of}
use Rattle.sessions.specs.Mode.{overlap_read}
use Rattle.sessions.proofs.mode.is_overlap.Goals as goal

pub returns : goal.returns
returns c = let a = c.args in overlap_read (exchange_at (rest_of a.w.now) a.i) c.exchange.result c.exchange.ensures.0

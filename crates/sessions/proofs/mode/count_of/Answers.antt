-- `mode::count_of` meets its contract: the word that was read, within its range.
use mathlib.Core.Path.{sym, ◌∙◌}
use Rattle.model.specs.State.{exchange_at}
use Rattle.state.specs.View.{rest_of}
use Rattle.sessions.specs.Mode.{count_read}
use Rattle.sessions.proofs.mode.count_of.Goals as goal

pub returns : goal.returns
returns c = let a = c.args in count_read (exchange_at (rest_of a.w.now) a.i) c.exchange.result c.exchange.ensures.0 ∙ sym c.new.ensures

-- `replies::number_of` meets its contract: past the table the number is 0.
use Rattle.model.specs.State.{at}
use Rattle.sessions.specs.Replies.{number_past}
use Rattle.state.specs.Search.{number_read}
use Rattle.state.specs.View.{locks_of}
use borrow.Author.Rules.{rules}
use Rattle.sessions.proofs.replies.number_of.Goals as goal

pub returns-then-i-ge-SESSION_LIMIT : goal.returns-then-i-ge-SESSION_LIMIT
returns-then-i-ge-SESSION_LIMIT c = let a = c.args in λ s. number_past a.w.now s a.i (search rules)

pub returns : goal.returns
returns c = let a = c.args in λ s. number_read (at (locks_of a.w.now s).entries a.i) c.entry.result (c.entry.ensures.0 s)

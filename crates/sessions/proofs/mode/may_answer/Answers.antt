-- `mode::may_answer` meets its contract: by the mode.
use mathlib.Core.Path.{◌∙◌}
use Rattle.model.specs.State.{at, exchange_at}
use Rattle.state.specs.View.{locks_of, rest_of}
use Rattle.sessions.specs.Mode.{may_in_overlap, may_by_asked}
use Rattle.sessions.proofs.mode.may_answer.Goals as goal

pub returns-then-is_overlap : goal.returns-then-is_overlap
returns-then-is_overlap c = let a = c.args in
    λ s. may_in_overlap (at (locks_of a.w.now s).entries a.i) (exchange_at (rest_of a.w.now) a.i) _
    (c.is_overlap.ensures ∙ c.if-is_overlap.true) (c.may_overlap.ensures s)

pub returns-else-is_overlap : goal.returns-else-is_overlap
returns-else-is_overlap c = let a = c.args in
    λ s. may_by_asked (at (locks_of a.w.now s).entries a.i) (exchange_at (rest_of a.w.now) a.i) c.exchange.result
    (c.is_overlap.ensures ∙ c.if-is_overlap.false) c.exchange.ensures.0

-- `events::note_answer` meets its contract: one store, the count, and two more stores with END.
use native.Mathlib.Omega.{arith}
use Rattle.exchanges.specs.Events.{answered_part, answered_whole}
use Rattle.state.specs.View.{memory, view}
use Rattle.exchanges.proofs.events.note_answer.Goals as goal

pub returns-then-not-end : goal.returns-then-not-end
returns-then-not-end c = let a = c.args in (
  λ s. answered_part (view (memory a.w.now s)) _ _ a.i (c.set_exchange.ensures.0 s) (c.count_answer.ensures.0 s)
      a.«end» c.if-not-end.true,
  λ s t. c.count_answer.ensures.1 s (c.set_exchange.ensures.1 s (omega arith) t),
)

pub returns : goal.returns
returns c = let a = c.args in (
  λ s. answered_whole (view (memory a.w.now s)) _ _ a.i (c.set_exchange.ensures.0 s)
      (c.count_answer.ensures.0 s) a.«end» c.if-not-end.false
      _ _ (c.set_exchange-2.ensures.0 s) (c.set_exchange-3.ensures.0 s),
  λ s t. c.set_exchange-3.ensures.1 s (omega arith) (c.set_exchange-2.ensures.1 s (omega arith)
      (c.count_answer.ensures.1 s
      (c.set_exchange.ensures.1 s (omega arith) t))),
)

-- `events::answer_number` meets its contract: by the mode, from the words that were read.
use Rattle.exchanges.specs.Events.{counted_number, nothing_number, asked_number_lem}
use mathlib.Core.Path.{sym, ◌∙◌}
use Rattle.model.specs.State.{exchange_at}
use Rattle.state.specs.View.{rest_of}
use Rattle.exchanges.proofs.events.answer_number.Goals as goal

pub returns-then-is_overlap : goal.returns-then-is_overlap
returns-then-is_overlap c = let a = c.args in counted_number (exchange_at (rest_of a.w.now) a.i) (c.is_overlap.ensures ∙ c.if-is_overlap.true) _ c.count_of.ensures

pub returns-then-v-eq0 : goal.returns-then-v-eq0
returns-then-v-eq0 c = let a = c.args in
    let e = c.exchange-v in
    nothing_number (exchange_at (rest_of a.w.now) a.i) e.result
    (c.is_overlap.ensures ∙ c.if-is_overlap.false) e.ensures.0 c.if-v-eq0.true
    ∙ sym c.new.ensures

pub returns : goal.returns
returns c = let a = c.args in
    let e = c.exchange-v in
    asked_number_lem (exchange_at (rest_of a.w.now) a.i) e.result
    (c.is_overlap.ensures ∙ c.if-is_overlap.false) e.ensures.0 c.if-v-eq0.false
    ∙ sym c.new-2.ensures

-- `holders::told` meets its contract: the two answers.
use Rattle.state.specs.View.{memory, view}
use Rattle.questions.specs.Holders.{tells_short, tells_fits}
use Rattle.questions.proofs.holders.told.Goals as goal

pub returns-then-room-n : goal.returns-then-room-n
returns-then-room-n c = let h = c.holders-panel in
    let a = c.args in
    tells_short (view (memory a.w.now a.s.now)) h.result.rows a.room h.result.count (h.ensures.2 a.s.now) h.ensures.1 c.if-room-n.true

pub returns : goal.returns
returns c = let h = c.holders-panel in
    let a = c.args in
    tells_fits (view (memory a.w.now a.s.now)) h.result.rows a.room h.result.count (h.ensures.2 a.s.now) h.ensures.1 c.if-room-n.false h.ensures.0

-- `rmt::note_rmt` meets its contract: what is stored says whether code 1 tells.
use Rattle.sessions.specs.Synchronous.{rmt_kept}
use Rattle.state.specs.View.{memory, view}
use Rattle.exchanges.proofs.rmt.note_rmt.Goals as goal

pub returns : goal.returns
returns c = let a = c.args in
    let x = c.exchange-available in
    let v = c.left_by in (
      λ s. rmt_kept (view (memory a.w.now s)) a.i a.code _ x.result v.result x.ensures.0 v.ensures.0 (c.set_exchange.ensures.0 s),
      λ s. c.set_exchange.ensures.1 s v.ensures.1,
    )

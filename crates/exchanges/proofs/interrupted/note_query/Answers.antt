-- `interrupted::note_query` meets its contract: the expectation, then message available.
use Rattle.exchanges.specs.Interrupted.{expectation_kept}
use Rattle.state.specs.View.{memory, view}
use Rattle.exchanges.proofs.interrupted.note_query.Goals as goal

pub returns : goal.returns
returns c = let a = c.args in
    let x = c.exchange-expected in
    let v = c.left_by in (
      λ s. expectation_kept (view (memory a.w.now s)) _ a.i a.code x.result v.result x.ensures.0 v.ensures.0
          (c.set_exchange.ensures.0 s) _ (c.note_rmt.ensures.0 s),
      λ s t. c.note_rmt.ensures.1 s (c.set_exchange.ensures.1 s v.ensures.1 t),
    )

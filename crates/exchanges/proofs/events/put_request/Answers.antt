-- `events::put_request` meets its contract: what is read, then the frame.
use mathlib.Core.Path.{sym, ap, ◌∙◌}
use mathlib.Core.List.{[]}
use Rattle.wire.specs.Frame.{frame_of, frame_bytes}
use Rattle.wire.specs.Splice.{splice}
use Rattle.readings.specs.Request.{request_code}
use Rattle.model.specs.State.{Rest, at}
use Rattle.state.specs.Search.{asynchronous_read}
use Rattle.state.specs.View.{locks_of}
use Rattle.exchanges.proofs.events.put_request.Goals as goal

pub returns : goal.returns
returns c = let a = c.args in
    let x = c.entry in
    let b = c.single in
    let r = c.request_code in
    λ s. c.put_frame.ensures
    ∙ (λ k. splice a.out.now a.place
    (frame_bytes (frame_of (sym (asynchronous_read (at (locks_of a.w.now s).entries a.i) x.result (x.ensures.0 s)) k) 20
    ((r.ensures ∙ ap (λ (q : Rest). request_code q.status) b.ensures.0) k) 0 [])))

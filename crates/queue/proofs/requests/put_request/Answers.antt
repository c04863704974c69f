-- `requests::put_request` meets its contract: the string, the row, the end of the queue, and the count.
use Rattle.queue.specs.Leaving.{put_view, queued_tidy}
use Rattle.queue.proofs.requests.put_request.Goals as goal

pub returns : goal.returns
returns c = let a = c.args in
    let p = c.requires in
    rw (c.put_payload.ensures, c.least-n.ensures.0) (
      put_view a.w.now a.strings.now a.i a.deadline a.string.now p.0 p.1 c.told-w c.told-strings p.3 p.2,
      λ t. queued_tidy a.w.now a.strings.now a.i a.deadline a.string.now t p.0 p.1 p.3 p.2,
    )

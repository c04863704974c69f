-- `request::wait` meets its contract: the request goes to the end of the queue, with its string.
use Rattle.locks.specs.Asking.{room_left, waits_until}
use Rattle.queue.specs.Requests.{idle_of}
use Rattle.state.specs.View.{memory}
use borrow.Author.Rules.{rules}
use Rattle.locks.proofs.request.wait.Goals as goal

pub put_request-requires : goal.put_request-requires
put_request-requires c = let a = c.args in
    let q = c.requires in
    (search rules, search rules, room_left a.w.now a.strings.now q.2, idle_of a.w.now a.strings.now a.i q.3)

pub returns : goal.returns
returns c = let a = c.args in
    let p = c.put_request.ensures in
    (waits_until (memory a.w.now a.strings.now) _ a.i a.timeout _ a.string.now (c.clock.ensures.1 _) p.0, p.1)

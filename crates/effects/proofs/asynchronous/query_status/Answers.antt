-- `asynchronous::query_status` meets its contract: the store, then the frame.
use Rattle.effects.specs.StatusQuery.{status_told}
use borrow.Author.Rules.{rules}
use Rattle.effects.proofs.asynchronous.query_status.Goals as goal

pub returns : goal.returns
returns c = let a = c.args in
    λ s p. status_told a.w.now s _ a.out.now _ a.i a.c c.entry-n.result
    (search rules) (c.entry-n.ensures.0 s) _
    a.code a.param a.len c.status_of-b.result p c.acted.ensures
    (c.note_query.ensures.0 s) c.status_of-b.ensures
    c.put_frame.ensures (c.note_query.ensures.1 s)

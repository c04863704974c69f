-- `writer::put_entry` meets its contract: length, body, distance and sum in a row are the entry.
use Rattle.std.proofs.Common.{List, ℕ, ◌+◌, ap, ◌∙◌, arith}
use Rattle.wire.specs.Field.{field}
use Rattle.wire.specs.Splice.{splice}
use Rattle.journal.specs.Written.{body_written}
use Rattle.journal.proofs.Written.{entry_written}
use Rattle.journal.proofs.writer.put_entry.Goals as goal

pub returns : goal.returns
returns g c = let a = c.args in
    let x = g.B.Body.bytes a.body.now in
    let e = c.put-2.ensures
    ∙ ap (λ (z : List ℕ). splice z (a.at + 4) x) (c.put.ensures ∙ ap (λ (k : ℕ). splice a.book.now a.at (field 4 k)) c.size-n.ensures)
    ∙ body_written a.book.now a.at x (omega (arith, c.requires)) in
    c.put-4.ensures
    ∙ rw (c.put-3.ensures, e)
    (entry_written a.book.now a.at x _ _ c.size-n.ensures (rw e at c.sum_of-sum.ensures) (omega (arith, c.requires, c.size-n.ensures)))

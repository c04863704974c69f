-- `writer::write_entry` meets its contract: a law for each way out.
use Rattle.std.proofs.Common.{arith}
use Rattle.std.proofs.lemmas.Result.{err_from_is_err_and}
use Rattle.journal.specs.Journal.{entry}
use Rattle.journal.specs.Entry.{length_entry}
use Rattle.journal.specs.Writer.{append_of}
use Rattle.journal.specs.Written.{words_behind, has_place, not_written, write_placed}
use Rattle.journal.proofs.writer.write_entry.Goals as goal

pub returns-in_err-at : goal.returns-in_err-at
unfolding append_of
returns-in_err-at g c =
    let p = err_from_is_err_and c.from_residual.result c.from_residual.ensures.1 in
    rw (p.1, p.2) (not_written _ _ _ _ _ _ (omega (arith, c.size-n.ensures, length_entry (g.B.Body.bytes c.args.body.now))) _ c.in_err-at.ensures)

pub put_entry-requires : goal.put_entry-requires
put_entry-requires g c = let h = has_place c.in_ok-at.ensures in (c.requires, omega (arith, h.there, h.within, c.size-n.ensures))

pub overflow_add-words : goal.overflow_add-words
overflow_add-words g c = let h = has_place c.in_ok-at.ensures in omega (arith, h.there, h.within)

pub returns : goal.returns
unfolding append_of
returns g c = let a = c.args in
    let x = g.B.Body.bytes a.body.now in
    let h = has_place c.in_ok-at.ensures in
    write_placed a.words.now _ _ (entry x) _ _ (omega (arith, c.size-n.ensures, length_entry x)) _ _ h
    (words_behind a.words.now x h.there (omega (arith, c.size-n.ensures, length_entry x))) c.put_entry.ensures

-- `writer::close` meets its contract: a law for each way out.
use Rattle.std.proofs.Common.{refl, arith}
use Rattle.std.proofs.lemmas.Result.{err_from_is_err_and}
use Rattle.journal.specs.Writer.{close_of}
use Rattle.journal.specs.Written.{has_place, not_written, write_placed}
use Rattle.journal.proofs.writer.close.Goals as goal

pub returns-in_err-at : goal.returns-in_err-at
unfolding close_of
returns-in_err-at c = let p = err_from_is_err_and c.from_residual.result c.from_residual.ensures.1 in
    rw (p.1, p.2) (not_written _ _ _ _ _ 0 refl _ c.in_err-at.ensures)

pub put_closing-requires : goal.put_closing-requires
put_closing-requires c = let h = has_place c.in_ok-at.ensures in omega (arith, h.there, h.within)

pub overflow_add-words : goal.overflow_add-words
overflow_add-words c = let h = has_place c.in_ok-at.ensures in omega (arith, h.there, h.within)

pub returns : goal.returns
unfolding close_of
returns c = let h = has_place c.in_ok-at.ensures in
    write_placed _ _ _ _ _ 0 refl _ _ h (rw h.there refl) c.put_closing.ensures

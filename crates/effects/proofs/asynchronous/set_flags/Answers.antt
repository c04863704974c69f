-- `asynchronous::set_flags` meets its contract: three words are stored.
use Rattle.effects.specs.Control.{flag_small, flagged}
use Rattle.remote.specs.Shown.{shown}
use Rattle.state.specs.View.{memory, view}
use Rattle.effects.proofs.asynchronous.set_flags.Goals as goal

pub returns : goal.returns
returns c = let a = c.args in
    let e = c.word_of in
    let l = c.word_of-2 in
    let m = c.word_of-3 in (
      λ s. flagged (view (memory a.w.now s)) _ _ _ (shown a.f) e.result l.result m.result e.ensures l.ensures m.ensures
          (c.set_single.ensures.0 s) (c.set_single-2.ensures.0 s) (c.set_single-3.ensures.0 s),
      λ s t. c.set_single-3.ensures.1 s (flag_small a.f.remote m.result m.ensures)
          (c.set_single-2.ensures.1 s (flag_small a.f.lockout l.result l.ensures)
          (c.set_single.ensures.1 s (flag_small a.f.enable e.result e.ensures) t)),
    )

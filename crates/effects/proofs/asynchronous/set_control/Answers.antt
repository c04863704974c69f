-- `asynchronous::set_control` meets its contract: the flags are read, made anew by the code, and stored.
use Rattle.effects.specs.Control.{controls}
use Rattle.remote.specs.Shown.{shown}
use Rattle.state.specs.View.{memory, view}
use Rattle.effects.proofs.asynchronous.set_control.Goals as goal

pub returns : goal.returns
returns c = let a = c.args in
    let f = c.flags_of-flags in
    let g = c.control in (
      λ s. controls (view (memory a.w.now s)) _ a.code (shown f.result) (shown g.new.self) f.ensures g.ensures (c.set_flags.ensures.0 s),
      c.set_flags.ensures.1,
    )

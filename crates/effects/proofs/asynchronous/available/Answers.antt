-- `asynchronous::available` meets its contract: by the mode.
use mathlib.Core.Path.{◌∙◌}
use Rattle.model.specs.State.{exchange_at}
use Rattle.state.specs.View.{rest_of}
use Rattle.effects.specs.StatusQuery.{now_overlap, now_synchronized}
use Rattle.effects.proofs.asynchronous.available.Goals as goal

pub returns-then-is_overlap : goal.returns-then-is_overlap
returns-then-is_overlap c = let a = c.args in
    let u = c.unread in
    (now_overlap (exchange_at (rest_of a.w.now) a.i) a.param u.result (c.is_overlap.ensures ∙ c.if-is_overlap.true) u.ensures.0, u.ensures.1)

pub returns : goal.returns
returns c = let a = c.args in
    let r = c.exchange in
    let m = c.same_number in (
      now_synchronized (exchange_at (rest_of a.w.now) a.i) a.param m.result r.result
          (c.is_overlap.ensures ∙ c.if-is_overlap.false) r.ensures.0 m.ensures.0,
      m.ensures.1,
    )

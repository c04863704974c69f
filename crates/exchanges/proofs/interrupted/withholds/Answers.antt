-- `interrupted::withholds` meets its contract: END, the mode, the bytes shown.
use mathlib.Core.Path.{◌∙◌}
use Prim.Native.Nat.{◌%◌}
use Rattle.model.specs.State.{at}
use Rattle.exchanges.specs.Interrupted.{sent_in_overlap, sent_without_end, withheld_by}
use Rattle.state.specs.Search.{synchronous_read}
use Rattle.state.specs.View.{locks_of, memory, view}
use Rattle.exchanges.proofs.interrupted.withholds.Goals as goal

pub returns-then-not-end : goal.returns-then-not-end
returns-then-not-end c = let a = c.args in λ s. sent_without_end (view (memory a.w.now s)) a.i a.«end» a.shown.now c.if-not-end.true

pub returns-then-overlap : goal.returns-then-overlap
returns-then-overlap c = let a = c.args in
    λ s. sent_in_overlap (view (memory a.w.now s)) a.i a.«end» a.shown.now c.if-not-end.false (c.is_overlap-overlap.ensures ∙ c.if-overlap.true)

pub returns : goal.returns
returns c = let a = c.args in
    let e = c.entry-c in
    λ s. withheld_by (view (memory a.w.now s)) a.i a.«end» a.shown.now
    c.if-not-end.false
    (c.is_overlap-overlap.ensures ∙ c.if-overlap.false) (e.result % 256) c.left_on.result
    c.interrupts.result
    (synchronous_read (at (locks_of a.w.now s).entries a.i) e.result (e.ensures.0 s)) c.left_on.ensures c.interrupts.ensures

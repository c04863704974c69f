-- `asking::hislip_deadline` meets its contract: the queue's length, and the earliest deadline in it.
use mathlib.Core.Path.{sym, ap₂, ◌∙◌}
use Prim.Native.Nat.{ℕ}
use Rattle.queue.specs.Queue.{count_is}
use Rattle.questions.proofs.asking.hislip_deadline.Goals as goal

pub returns : goal.returns
returns c = let a = c.args in
    let w = a.words.now in
    let s = a.strings.now in
    ap₂ (λ (n t : ℕ). record { waiting = n; deadline = t }) (c.waiting_count-n.ensures.0 ∙ count_is w s) (sym (c.earliest_deadline-t.ensures s))

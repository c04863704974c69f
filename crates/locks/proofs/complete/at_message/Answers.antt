-- `complete::at_message` meets its contract: nothing stands, another message is named, or the release takes effect.
use mathlib.Core.Path.{sym, ◌≡◌}
use native.Mathlib.Omega.{arith}
use Rattle.model.specs.State.{at}
use Rattle.model.specs.Locks.{Due.not_due, due_at}
use Rattle.locks.specs.Asking.{met_none}
use Rattle.locks.specs.Complete.{due_none, due_other, due_this, message_due, message_not, noted_stored}
use Rattle.holding.specs.Outcome.{met_is}
use Rattle.locks.specs.Settled.{met_pass}
use Rattle.holding.specs.Standing.{kind_of}
use Rattle.state.specs.View.{locks_of, memory, view}
use borrow.Author.Rules.{rules}
use Rattle.locks.proofs.complete.at_message.Goals as goal
use Rattle.locks.proofs.complete.at_message.Goals.{in_default-via-in-Some+else-release-n, in_default-via-in_default}

pub returns-in-Some : goal.returns-in-Some
returns-in-Some c = let a = c.args in
    let s = a.strings.now in
    let k = c.in-Some.release in
    met_is _ _ _ _ _ _ _ _
    (sym (message_due (locks_of a.w.now s) a.i a.n (kind_of k.kind)
    (due_this (at (locks_of a.w.now s).entries a.i).standing c.standing_at.result a.n (c.standing_at.ensures s) k c.in-Some.is c.if-release-n.true)))
    (met_pass _ _ _ _ _ _ _ _ _ _ (omega (arith, c.complete-r.ensures.0)) c.complete-r.ensures.1 c.grant_waiting.ensures)

pub returns-in_default : goal.returns-in_default
returns-in_default c = let a = c.args in
    let s = a.strings.now in
    let x = (at (locks_of a.w.now s).entries a.i).standing in
    let o : due_at a.n x ≡ not_due = elim c.in_default.branch [
      | in_default-via-in-Some+else-release-n y ↦
          due_other x c.standing_at.result a.n (c.standing_at.ensures s) y.in-Some.release y.in-Some.is y.if-release-n.false
      | in_default-via-in_default y ↦ due_none x c.standing_at.result a.n (c.standing_at.ensures s) y.in_default.is
    ] in
    met_none _ _ _ _ _ _
    (message_not (locks_of a.w.now s) a.i a.n o)
    (noted_stored (view (memory a.w.now s)) _ a.i a.n (search rules) (c.set_order.ensures.0 s))
    (c.set_order.ensures.1 s (search rules))

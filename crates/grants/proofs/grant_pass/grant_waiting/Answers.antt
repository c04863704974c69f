-- `grant_pass::grant_waiting` meets its contract: where nobody waits the pass does nothing.
use native.Mathlib.Omega.{arith}
use Rattle.grants.specs.Pass.{pass_met, pass_none}
use Rattle.queue.specs.Queue.{count_is}
use Rattle.state.specs.View.{memory, view}
use Rattle.grants.proofs.grant_pass.grant_waiting.Goals as goal

pub returns-then-waiting_count-eq0 : goal.returns-then-waiting_count-eq0
returns-then-waiting_count-eq0 c = let a = c.args in
    let w = a.w.now in
    let s = a.strings.now in
    pass_met (memory w s) _ _ _ _ _ (pass_none (view (memory w s)) _ _ (omega (arith, count_is w s, c.waiting_count.ensures.0, c.if-waiting_count-eq0.true))) (λ t. t)

pub returns : goal.returns
returns c = c.pass_waiting.ensures

-- `whole::whole_verdict` meets its contract: what each role's checks ensure is handed on.
use mathlib.Core.Path.{◌∙◌}
use Rattle.state.specs.View.{memory, view}
use Rattle.checks.specs.Verdicts.{message}
use Rattle.checks.specs.Roles.{judged_none, judged_asynchronous}
use Rattle.checks.proofs.whole.whole_verdict.Goals as goal
use borrow.Author.Rules.{rules}

pub returns-in-0 : goal.returns-in-0
returns-in-0 c = let a = c.args in
    λ s r e z. judged_none (view (memory a.w.now s)) a.i (message a.kind a.code a.param a.len) a.payload.now r (e ∙ c.in-0.is)
    ∙ c.opening_verdict.ensures s a.code

pub returns-in_default : goal.returns-in_default
returns-in_default c = let a = c.args in
    λ s r e z. judged_asynchronous (view (memory a.w.now s)) a.i (message a.kind a.code a.param a.len) a.payload.now r
    (search rules) (search rules) (search rules) ∙ c.asynchronous_verdict.ensures a.payload.now a.param

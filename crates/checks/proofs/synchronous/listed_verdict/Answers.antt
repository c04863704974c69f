-- `synchronous::listed_verdict` meets its contract: the row without the list, and then the list.
use mathlib.Core.Path.{sym, ap, ◌∙◌}
use Rattle.model.specs.Allowing.{admits}
use Rattle.model.specs.State.{Allowed}
use Rattle.state.specs.View.{memory, view}
use Rattle.checks.specs.Synchronous.{list_passed, list_unasked, only_acts}
use Rattle.checks.proofs.synchronous.listed_verdict.Goals as goal
use Rattle.checks.proofs.synchronous.listed_verdict.Goals.{else-kind-eq-DATA_END-via-then-kind-eq-DATA_END+else-not-is_allowed, else-kind-eq-DATA_END-via-else-kind-eq-DATA_END}

pub returns-else-kind-eq-DATA_END : goal.returns-else-kind-eq-DATA_END
returns-else-kind-eq-DATA_END c = let a = c.args in
    elim c.else-kind-eq-DATA_END.branch [
      | else-kind-eq-DATA_END-via-then-kind-eq-DATA_END+else-not-is_allowed w ↦
          λ s z. list_passed (view (memory a.w.now s)) a.i a.kind a.code a.param a.len a.payload.now
          (λ e. ap (λ (x : Allowed). admits x a.payload.now) z ∙ w.is_allowed.ensures ∙ w.if-not-is_allowed.false)
          ∙ c.in-Acts.ensures s a.payload.now
      | else-kind-eq-DATA_END-via-else-kind-eq-DATA_END w ↦
          λ s z. list_passed (view (memory a.w.now s)) a.i a.kind a.code a.param a.len a.payload.now
          (λ e. absurd (w.if-kind-eq-DATA_END.false e))
          ∙ c.in-Acts.ensures s a.payload.now
    ]

pub returns-in_default : goal.returns-in_default
returns-in_default c = let a = c.args in let v = c.synchronous_verdict in
    λ s z. list_unasked (view (memory a.w.now s)) a.i a.kind a.code a.param a.len a.payload.now
    (λ q. c.in_default.not-Acts (only_acts v.result (sym (v.ensures s a.payload.now) ∙ q))) ∙ v.ensures s a.payload.now

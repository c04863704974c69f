-- `synchronous::command_verdict` meets its contract: check 9, the number, and check 10.
use mathlib.Core.Path.{◌∙◌}
use Rattle.checks.specs.Synchronous.{command_held, command_number, command_code, command_acts, trigger_payload, trigger_acts}
use Rattle.checks.proofs.synchronous.command_verdict.Goals as goal
use Rattle.checks.proofs.synchronous.command_verdict.Goals.{else-kind-eq-TRIGGER-via-then-kind-eq-TRIGGER+else-len-gt0, else-kind-eq-TRIGGER-via-else-kind-eq-TRIGGER}

pub returns-then-not-has_access : goal.returns-then-not-has_access
returns-then-not-has_access c = let a = c.args in
    λ s. command_held _ _ a.kind a.code a.len (c.has_access.ensures s ∙ c.if-not-has_access.true)

pub returns-then-not-is_expected : goal.returns-then-not-is_expected
returns-then-not-is_expected c = let a = c.args in
    λ s. command_number _ _ a.kind a.code a.len
    (c.has_access.ensures s ∙ c.if-not-has_access.false)
    (c.is_expected.ensures ∙ c.if-not-is_expected.true)

pub returns-then-code-gt-LAST_CODE : goal.returns-then-code-gt-LAST_CODE
returns-then-code-gt-LAST_CODE c = let a = c.args in
    λ s. command_code _ _ a.kind a.code a.len
    (c.has_access.ensures s ∙ c.if-not-has_access.false)
    (c.is_expected.ensures ∙ c.if-not-is_expected.false) c.if-code-gt-LAST_CODE.true

pub returns-then-len-gt0 : goal.returns-then-len-gt0
returns-then-len-gt0 c = let a = c.args in
    λ s. trigger_payload _ _ a.kind a.code a.len
    (c.has_access.ensures s ∙ c.if-not-has_access.false)
    (c.is_expected.ensures ∙ c.if-not-is_expected.false) c.if-code-gt-LAST_CODE.false c.if-kind-eq-TRIGGER.true c.if-len-gt0.true

pub returns : goal.returns
returns c = let a = c.args in
    elim c.else-kind-eq-TRIGGER.branch [
      | else-kind-eq-TRIGGER-via-then-kind-eq-TRIGGER+else-len-gt0 w ↦
          λ s. trigger_acts _ _ a.kind a.code a.len
          (c.has_access.ensures s ∙ c.if-not-has_access.false)
          (c.is_expected.ensures ∙ c.if-not-is_expected.false) c.if-code-gt-LAST_CODE.false w.if-kind-eq-TRIGGER.true w.if-len-gt0.false
      | else-kind-eq-TRIGGER-via-else-kind-eq-TRIGGER w ↦
          λ s. command_acts _ _ a.kind a.code a.len
          (c.has_access.ensures s ∙ c.if-not-has_access.false)
          (c.is_expected.ensures ∙ c.if-not-is_expected.false) c.if-code-gt-LAST_CODE.false w.if-kind-eq-TRIGGER.false
    ]

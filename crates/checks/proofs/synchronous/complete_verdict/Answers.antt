-- `synchronous::complete_verdict` meets its contract.
use native.Mathlib.Omega.{arith}
use Rattle.checks.specs.Synchronous.{complete_payload, complete_acts, complete_outside}
use Rattle.checks.proofs.synchronous.complete_verdict.Goals as goal

pub returns-in-true-eq0 : goal.returns-in-true-eq0
returns-in-true-eq0 c = complete_acts _ _ (omega (arith, c.in-true-eq0.is-1)) c.in-true-eq0.is-0

pub returns-in_default : goal.returns-in_default
returns-in_default c = complete_payload _ _ (omega (arith, c.in_default.is-1))

pub returns-in_default-2 : goal.returns-in_default-2
returns-in_default-2 c = complete_outside _ _ c.in_default.is-0

-- `asynchronous::asynchronous_verdict` meets its contract: check after check, in the order of the row of rules.
use mathlib.Core.Path.{sym, ap, sym, ◌∙◌}
use Rattle.checks.specs.Asynchronous.{async_closed, async_error, async_vendor, async_unrecognised, async_again, async_code, async_payload, async_acts}
use Rattle.model.specs.Checks.{is_vendor, is_unrecognised}
use Rattle.checks.proofs.asynchronous.asynchronous_verdict.Goals as goal

pub returns-then-kind-eq-FATAL_ERROR : goal.returns-then-kind-eq-FATAL_ERROR
returns-then-kind-eq-FATAL_ERROR c = let a = c.args in
    λ p n. async_closed a.kind a.code n a.len p c.if-kind-eq-FATAL_ERROR.true

pub returns-then-kind-eq-ERROR : goal.returns-then-kind-eq-ERROR
returns-then-kind-eq-ERROR c = let a = c.args in
    λ p n. async_error a.kind a.code n a.len p c.if-kind-eq-ERROR.true

pub returns-in-Vendor : goal.returns-in-Vendor
returns-in-Vendor c = let a = c.args in
    λ p n. async_vendor a.kind a.code n a.len p c.if-kind-eq-FATAL_ERROR.false c.if-kind-eq-ERROR.false
    (sym (ap is_vendor c.in-Vendor.ensures))

pub returns-in-Unrecognised : goal.returns-in-Unrecognised
returns-in-Unrecognised c = let a = c.args in
    λ p n. async_unrecognised a.kind a.code n a.len p c.if-kind-eq-FATAL_ERROR.false
    c.if-kind-eq-ERROR.false (sym (ap is_vendor c.in-Unrecognised.ensures))
    (sym (ap is_unrecognised c.in-Unrecognised.ensures))

pub returns-then-kind-eq-ASYNC_INITIALIZE : goal.returns-then-kind-eq-ASYNC_INITIALIZE
returns-then-kind-eq-ASYNC_INITIALIZE c = let a = c.args in
    λ p n. async_again a.kind a.code n a.len p c.if-kind-eq-FATAL_ERROR.false
    c.if-kind-eq-ERROR.false (sym (ap is_vendor c.in-ActedOn.ensures))
    (sym (ap is_unrecognised c.in-ActedOn.ensures)) c.if-kind-eq-ASYNC_INITIALIZE.true

pub returns-then-code_wrong : goal.returns-then-code_wrong
returns-then-code_wrong c = let a = c.args in
    λ p n. async_code a.kind a.code n a.len p c.if-kind-eq-FATAL_ERROR.false
    c.if-kind-eq-ERROR.false
    (sym (ap is_vendor c.in-ActedOn.ensures))
    (sym (ap is_unrecognised c.in-ActedOn.ensures)) c.if-kind-eq-ASYNC_INITIALIZE.false
    (sym c.code_wrong.ensures ∙ c.if-code_wrong.true)

pub returns-then-payload_wrong : goal.returns-then-payload_wrong
returns-then-payload_wrong c = let a = c.args in
    λ p n. async_payload a.kind a.code n a.len p c.if-kind-eq-FATAL_ERROR.false
    c.if-kind-eq-ERROR.false
    (sym (ap is_vendor c.in-ActedOn.ensures))
    (sym (ap is_unrecognised c.in-ActedOn.ensures))
    c.if-kind-eq-ASYNC_INITIALIZE.false (sym c.code_wrong.ensures ∙ c.if-code_wrong.false)
    (sym c.payload_wrong.ensures ∙ c.if-payload_wrong.true)

pub returns : goal.returns
returns c = let a = c.args in
    λ p n. async_acts a.kind a.code n a.len p c.if-kind-eq-FATAL_ERROR.false
    c.if-kind-eq-ERROR.false
    (sym (ap is_vendor c.in-ActedOn.ensures))
    (sym (ap is_unrecognised c.in-ActedOn.ensures))
    c.if-kind-eq-ASYNC_INITIALIZE.false (sym c.code_wrong.ensures ∙ c.if-code_wrong.false)
    (sym c.payload_wrong.ensures ∙ c.if-payload_wrong.false)

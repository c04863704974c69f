-- `synchronous::synchronous_verdict` meets its contract: check after check, in the order of the row of rules.
use mathlib.Core.Path.{sym, ap, refl, ◌∙◌}
use Rattle.state.specs.View.{memory, view}
use Rattle.checks.specs.Synchronous.{with_any_command, sync_closed, sync_error, sync_complete, sync_ignored, sync_vendor, sync_unrecognised, sync_again, sync_command}
use Rattle.model.specs.Checks.{is_vendor, is_unrecognised}
use Rattle.checks.proofs.synchronous.synchronous_verdict.Goals as goal

pub returns-then-kind-eq-FATAL_ERROR : goal.returns-then-kind-eq-FATAL_ERROR
returns-then-kind-eq-FATAL_ERROR c = let a = c.args in
    λ s p. sync_closed (with_any_command (view (memory a.w.now s))) a.i a.kind a.code a.param a.len p c.if-kind-eq-FATAL_ERROR.true

pub returns-then-kind-eq-ERROR : goal.returns-then-kind-eq-ERROR
returns-then-kind-eq-ERROR c = let a = c.args in
    λ s p. sync_error (with_any_command (view (memory a.w.now s))) a.i a.kind a.code a.param a.len p c.if-kind-eq-ERROR.true

pub returns-then-kind-eq-DEVICE_CLEAR_COMPLETE : goal.returns-then-kind-eq-DEVICE_CLEAR_COMPLETE
returns-then-kind-eq-DEVICE_CLEAR_COMPLETE c = let a = c.args in
    λ s p. sync_complete (with_any_command (view (memory a.w.now s))) a.i a.kind a.code a.param a.len p
    c.if-kind-eq-FATAL_ERROR.false c.if-kind-eq-ERROR.false _ c.in_clear-clearing.ensures
    c.if-kind-eq-DEVICE_CLEAR_COMPLETE.true ∙ c.complete_verdict.ensures

pub returns-then-clearing : goal.returns-then-clearing
returns-then-clearing c = let a = c.args in
    λ s p. sync_ignored (with_any_command (view (memory a.w.now s))) a.i a.kind a.code a.param a.len p
    c.if-kind-eq-FATAL_ERROR.false c.if-kind-eq-ERROR.false c.if-kind-eq-DEVICE_CLEAR_COMPLETE.false
    (c.in_clear-clearing.ensures ∙ c.if-clearing.true)

pub returns-in-Vendor : goal.returns-in-Vendor
returns-in-Vendor c = let a = c.args in
    λ s p. sync_vendor (with_any_command (view (memory a.w.now s))) a.i a.kind a.code a.param a.len p
    c.if-kind-eq-FATAL_ERROR.false c.if-kind-eq-ERROR.false
    c.if-kind-eq-DEVICE_CLEAR_COMPLETE.false (c.in_clear-clearing.ensures ∙ c.if-clearing.false)
    (sym (ap is_vendor c.in-Vendor.ensures))

pub returns-in-Unrecognised : goal.returns-in-Unrecognised
returns-in-Unrecognised c = let a = c.args in
    λ s p. sync_unrecognised (with_any_command (view (memory a.w.now s))) a.i a.kind a.code a.param a.len p
    c.if-kind-eq-FATAL_ERROR.false c.if-kind-eq-ERROR.false
    c.if-kind-eq-DEVICE_CLEAR_COMPLETE.false (c.in_clear-clearing.ensures ∙ c.if-clearing.false)
    (sym (ap is_vendor c.in-Unrecognised.ensures))
    (sym (ap is_unrecognised c.in-Unrecognised.ensures))

pub returns-then-kind-eq-INITIALIZE : goal.returns-then-kind-eq-INITIALIZE
returns-then-kind-eq-INITIALIZE c = let a = c.args in
    λ s p. sync_again (with_any_command (view (memory a.w.now s))) a.i a.kind a.code a.param a.len p
    c.if-kind-eq-FATAL_ERROR.false c.if-kind-eq-ERROR.false
    c.if-kind-eq-DEVICE_CLEAR_COMPLETE.false
    (c.in_clear-clearing.ensures ∙ c.if-clearing.false)
    (sym (ap is_vendor c.in-ActedOn.ensures)) (sym (ap is_unrecognised c.in-ActedOn.ensures)) c.if-kind-eq-INITIALIZE.true

pub returns : goal.returns
returns c = let a = c.args in
    λ s p. sync_command (with_any_command (view (memory a.w.now s))) a.i a.kind a.code a.param a.len p
    c.if-kind-eq-FATAL_ERROR.false
    c.if-kind-eq-ERROR.false c.if-kind-eq-DEVICE_CLEAR_COMPLETE.false
    (c.in_clear-clearing.ensures ∙ c.if-clearing.false)
    (sym (ap is_vendor c.in-ActedOn.ensures))
    (sym (ap is_unrecognised c.in-ActedOn.ensures)) c.if-kind-eq-INITIALIZE.false _ _ refl refl refl ∙ c.command_verdict.ensures s

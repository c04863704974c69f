-- `opening::act_opening` meets its contract: by the kind of the message.
use native.Mathlib.Omega.{arith}
use Rattle.wire.specs.declared.Header.{Header}
use Rattle.state.specs.View.{memory, view}
use Rattle.sessions.specs.Opening.{opens_by}
use borrow.Author.Tests.{eq-eqb, ne_eqb}
use Rattle.sessions.proofs.opening.act_opening.Goals as goal

pub initialize-requires : goal.initialize-requires
initialize-requires c = let p = c.requires in (p.0, p.1, omega arith, λ s. p.3 s c.if-kind-eq-INITIALIZE.true, p.6)

pub returns-then-kind-eq-INITIALIZE : goal.returns-then-kind-eq-INITIALIZE
returns-then-kind-eq-INITIALIZE c = let a = c.args in
    λ p i code. let s = a.strings.now in
    let h : Header = record { kind = a.kind; code = code; param = a.param; len = a.len } in
    opens_by (view (memory a.w.now s)) i a.c h p _ _ _ _ _ _ (eq-eqb a.kind 0 c.if-kind-eq-INITIALIZE.true) c.initialize.ensures

pub async_initialize-requires : goal.async_initialize-requires
async_initialize-requires c = let p = c.requires in
    (p.0, p.1, omega arith, λ s. p.4 s c.if-kind-eq-INITIALIZE.false, λ s. p.5 s c.if-kind-eq-INITIALIZE.false, p.6)

pub returns : goal.returns
returns c = let a = c.args in
    λ p i code. let s = a.strings.now in
    let h : Header = record { kind = a.kind; code = code; param = a.param; len = a.len } in
    opens_by (view (memory a.w.now s)) i a.c h p _ _ _ _ _ _ (ne_eqb a.kind 0 c.if-kind-eq-INITIALIZE.false) (c.async_initialize.ensures s)

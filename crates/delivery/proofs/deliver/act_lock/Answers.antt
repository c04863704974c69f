-- `deliver::act_lock` meets its contract: a release with what follows it, or a request.
use mathlib.Core.Path.{refl}
use Rattle.sessions.specs.Asynchronous.{did_message}
use Rattle.effects.specs.LockMessages.{release_told, request_told}
use Rattle.model.specs.Acts.{AsynchronousKind.k_lock}
use Rattle.state.specs.View.{memory}
use Rattle.delivery.proofs.deliver.act_lock.Goals as goal

pub returns-then-code-eq0 : goal.returns-then-code-eq0
returns-then-code-eq0 c = let a = c.args in
    did_message k_lock a.i a.c 4 a.code a.param a.len a.payload.now c.acted.result (memory a.w.now a.strings.now) _ a.out.now _ refl
    (release_told a.w.now a.strings.now _ _ a.out.now _ a.i a.c
    c.entry-n.result a.code a.param a.len
    c.release_quickly-end.result a.payload.now _ c.acted.ensures
    (c.entry-n.ensures.0 a.strings.now)
    c.if-code-eq0.true c.release_quickly-end.ensures)

pub returns : goal.returns
returns c = let a = c.args in
    did_message k_lock a.i a.c 4 a.code a.param a.len a.payload.now c.acted-2.result (memory a.w.now a.strings.now) _ a.out.now _ refl
    (request_told a.w.now a.strings.now _ _ a.out.now _ a.i a.c
    c.entry-n.result a.code a.param a.len
    c.request_quickly-end.result a.payload.now _ c.acted-2.ensures
    (c.entry-n.ensures.0 a.strings.now)
    c.if-code-eq0.false c.request_quickly-end.ensures)

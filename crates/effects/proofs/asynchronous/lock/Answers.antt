-- `asynchronous::lock` meets its contract: a release with what follows it, or a request.
use Rattle.effects.specs.LockMessages.{release_told, request_told}
use Rattle.effects.proofs.asynchronous.lock.Goals as goal

pub returns-then-code-eq0 : goal.returns-then-code-eq0
returns-then-code-eq0 c = let a = c.args in
    λ k. release_told a.w.now a.strings.now _ _ a.out.now _ a.i k
    c.entry-n.result a.code a.param a.len
    c.release_lock-end.result a.payload.now _ c.acted.ensures
    (c.entry-n.ensures.0 a.strings.now)
    c.if-code-eq0.true c.release_lock-end.ensures

pub returns : goal.returns
returns c = let a = c.args in
    λ k. request_told a.w.now a.strings.now _ _ a.out.now _ a.i k
    c.entry-n.result a.code a.param a.len
    c.request_lock-end.result a.payload.now _ c.acted-2.ensures
    (c.entry-n.ensures.0 a.strings.now)
    c.if-code-eq0.false c.request_lock-end.ensures

-- `asynchronous::act_asynchronous` meets its contract: each kind has its function.
use mathlib.Core.Path.{ap}
use Rattle.model.specs.Acts.{AsynchronousKind.k_lock, AsynchronousKind.k_remote_local, AsynchronousKind.k_maximum_size, AsynchronousKind.k_device_clear}
use Rattle.model.specs.Acts.{AsynchronousKind.k_status_query, AsynchronousKind.k_lock_info, asynchronous_kind}
use Rattle.state.specs.View.{memory}
use Rattle.sessions.specs.Asynchronous.{did_message, kind_last}
use borrow.Author.Rules.{rules}
use Rattle.effects.proofs.asynchronous.act_asynchronous.Goals as goal

pub returns-in-4 : goal.returns-in-4
returns-in-4 c = let a = c.args in
    did_message k_lock a.i a.c a.kind a.code a.param a.len a.payload.now c.lock.result (memory a.w.now a.strings.now) _ a.out.now _
    (ap asynchronous_kind c.in-4.is) (c.lock.ensures a.c)

pub returns-in-10 : goal.returns-in-10
returns-in-10 c = let a = c.args in
    did_message k_remote_local a.i a.c a.kind a.code a.param a.len a.payload.now c.control.result (memory a.w.now a.strings.now) _ a.out.now _
    (ap asynchronous_kind c.in-10.is) (c.control.ensures a.strings.now a.payload.now a.param)

pub returns-in-15 : goal.returns-in-15
returns-in-15 c = let a = c.args in
    did_message k_maximum_size a.i a.c a.kind a.code a.param a.len a.payload.now c.note_size.result (memory a.w.now a.strings.now) _ a.out.now _
    (ap asynchronous_kind c.in-15.is) (c.note_size.ensures a.strings.now a.code a.param)

pub returns-in-19 : goal.returns-in-19
returns-in-19 c = let a = c.args in
    did_message k_device_clear a.i a.c a.kind a.code a.param a.len a.payload.now c.clear.result (memory a.w.now a.strings.now) _ a.out.now _
    (ap asynchronous_kind c.in-19.is) (c.clear.ensures a.payload.now a.code a.param)

pub returns-in-21 : goal.returns-in-21
returns-in-21 c = let a = c.args in
    did_message k_status_query a.i a.c a.kind a.code a.param a.len a.payload.now c.query_status.result (memory a.w.now a.strings.now) _ a.out.now _
    (ap asynchronous_kind c.in-21.is) (c.query_status.ensures a.strings.now a.payload.now)

pub returns-in_default : goal.returns-in_default
returns-in_default c = let a = c.args in
    did_message k_lock_info a.i a.c a.kind a.code a.param a.len a.payload.now c.tell_locks.result (memory a.w.now a.strings.now) _ a.out.now _
    (kind_last a.kind (search rules)
    (search rules) (search rules)
    (search rules) (search rules))
    (c.tell_locks.ensures a.strings.now a.payload.now a.code a.param)

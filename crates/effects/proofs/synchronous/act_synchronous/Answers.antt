-- `synchronous::act_synchronous` meets its contract: a command and what is due with it, or the end of a device clear.
use mathlib.Core.Path.{refl, ◌∙◌}
use mathlib.Core.List.{[]}
use Prim.Native.Nat.{◌≤◌}
use native.Mathlib.Omega.{arith}
use lib.ListN.{length}
use Rattle.model.specs.Sizes.{output_minimum}
use Rattle.wire.specs.declared.Header.{Header}
use Rattle.wire.specs.Frame.{frame_of}
use Rattle.model.specs.Acts.{acts}
use Rattle.model.specs.Exchange.{bit0, leave_clear}
use Rattle.model.specs.Locks.{LockEvent.command}
use Rattle.model.specs.MessageTypes.{DeviceClearAcknowledge}
use Rattle.model.specs.Place.{Role.r_synchronous}
use Rattle.model.specs.State.{Server}
use Rattle.sessions.specs.Asynchronous.{did_one}
use Rattle.effects.specs.Interrupted.{did_noted}
use Rattle.sessions.specs.Synchronous.{did_plan, plan_command, plan_complete, with_slot}
use Rattle.state.specs.View.{memory, view}
use Rattle.effects.proofs.synchronous.act_synchronous.Goals as goal

pub returns-then-is_command : goal.returns-then-is_command
returns-then-is_command c = let a = c.args in
    let h : Header = record { kind = a.kind; code = a.code; param = a.param; len = a.len } in
    let s = a.strings.now in
    let d : Server = view (memory a.w.now s) in
    let t = c.take_turn-at in
    let l : t.result ≤ 34 = t.ensures.0 in
    let o : output_minimum ≤ length a.out.now = c.requires.3 in
    let fits : t.result ≤ length a.out.now = omega arith in
    λ p. did_plan d (acts r_synchronous d a.i a.c h p) _ _ _ _ _ _
    (plan_command d a.i a.c h p
    (c.is_command.ensures
    ∙ c.if-is_command.true))
    (did_noted (memory a.w.now s) _ _ a.out.now _ _ a.i
    c.entry-session.result a.len
    t.result c.at_message-end.result _ _ (command a.i a.param) _
    c.acted.ensures (c.entry-session.ensures.0 s)
    fits (t.ensures.1 s) (t.ensures.2 s) c.at_message-end.ensures)

pub returns : goal.returns
returns c = let a = c.args in
    let h : Header = record { kind = a.kind; code = a.code; param = a.param; len = a.len } in
    let s = a.strings.now in
    let d : Server = view (memory a.w.now s) in
    λ p. did_plan d (acts r_synchronous d a.i a.c h p) _ _ _ _ _ _
    (plan_complete d a.i a.c h p (c.is_command.ensures
    ∙ c.if-is_command.false))
    (did_one d a.i c.entry-session.result a.len 0
    (with_slot a.i (leave_clear a.code) d.rest) (frame_of a.c DeviceClearAcknowledge (bit0 a.code) 0 [])
    (frame_of a.c DeviceClearAcknowledge (bit0 a.code) 0 []) _ _ _ _ _
    c.acted-2.ensures (c.entry-session.ensures.0 s) refl refl
    (c.leave_clear.ensures.0 s) c.put_frame.ensures
    (c.leave_clear.ensures.1 s))

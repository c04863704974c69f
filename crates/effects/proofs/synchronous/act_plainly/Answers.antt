-- `synchronous::act_plainly` meets its contract: a command, in turn or not, with nothing due.
use mathlib.Core.Path.{ap, ◌∙◌}
use mathlib.Core.Bool.{not}
use Prim.Native.Nat.{◌≤◌}
use native.Mathlib.Omega.{arith}
use lib.ListN.{length}
use Rattle.wire.specs.declared.Header.{Header}
use Rattle.model.specs.Acts.{acts}
use Rattle.model.specs.Locks.{LockEvent.command}
use Rattle.model.specs.Place.{Role.r_synchronous}
use Rattle.model.specs.Sizes.{output_minimum}
use Rattle.model.specs.State.{Server}
use Rattle.effects.specs.Interrupted.{did_after}
use Rattle.sessions.specs.Synchronous.{did_plan, plan_command}
use Rattle.state.specs.View.{memory, view}
use borrow.Author.Rules.{rules}
use Rattle.effects.proofs.synchronous.act_plainly.Goals as goal

pub note_message-requires : goal.note_message-requires
note_message-requires c = (search rules, c.requires.4)

pub note_in_turn-requires : goal.note_in_turn-requires
note_in_turn-requires c = (search rules, c.in_turn.ensures ∙ ap not c.if-in_turn.true)

pub returns-then-in_turn : goal.returns-then-in_turn
returns-then-in_turn c = let a = c.args in
    let h : Header = record { kind = a.kind; code = a.code; param = a.param; len = a.len } in
    let n = c.note_message in
    λ s q k. let d : Server = view (memory a.w.now s) in
    did_plan d (acts r_synchronous d a.i k h q) _ _ _ _ _ _ (plan_command d a.i k h q c.requires.3)
    (did_after (memory a.w.now s) _ _ a.out.now _ a.i c.entry-session.result a.len 0
    a.kind a.code a.param (command a.i a.param) _
    c.acted.ensures (c.entry-session.ensures.0 s) (search rules) (n.ensures.1 s)
    (n.ensures.0 s _ 0) (c.note_in_turn.ensures.0 s a.out.now) (c.note_in_turn.ensures.1 s))

pub note_out_of_turn-end-requires : goal.note_out_of_turn-end-requires
note_out_of_turn-end-requires c = (search rules, search rules, c.in_turn.ensures ∙ ap not c.if-in_turn.false)

pub returns : goal.returns
returns c = let a = c.args in
    let h : Header = record { kind = a.kind; code = a.code; param = a.param; len = a.len } in
    let n = c.note_message in
    let t = c.note_out_of_turn-end in
    let l : t.result ≤ 34 = t.ensures.0 in
    let o : output_minimum ≤ length a.out.now = c.requires.2 in
    let fits : t.result ≤ length a.out.now = omega arith in
    λ s q k. let d : Server = view (memory a.w.now s) in
    did_plan d (acts r_synchronous d a.i k h q) _ _ _ _ _ _ (plan_command d a.i k h q c.requires.3)
    (did_after (memory a.w.now s) _ _ a.out.now _ a.i
    c.entry-session.result a.len t.result a.kind a.code
    a.param (command a.i a.param) _
    c.acted-2.ensures (c.entry-session.ensures.0 s) fits (n.ensures.1 s)
    (n.ensures.0 s _ t.result) (t.ensures.1 s) (t.ensures.2 s))

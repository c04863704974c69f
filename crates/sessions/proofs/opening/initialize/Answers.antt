-- `opening::initialize` meets its contract: a free slot and the next number are found, and the session enters.
use mathlib.Core.List.{[]}
use native.Mathlib.Omega.{arith}
use Rattle.wire.specs.declared.Header.{Header}
use Rattle.state.specs.OneLook.{free_there}
use Rattle.state.specs.View.{memory, view}
use Rattle.sessions.specs.Did.{numbers_of}
use Rattle.sessions.specs.Opening.{initialized}
use mathlib.Core.Path.{ap}
use borrow.Author.Rules.{rules}
use Rattle.sessions.proofs.opening.initialize.Goals as goal

pub enter_session-requires : goal.enter_session-requires
enter_session-requires c = let a = c.args in
    let p = c.requires in
    let r = p.3 [] in
    let f = c.slot_of_number-i in
    let q = f.ensures.1 [] in
    (omega arith, omega arith, omega arith, search rules, p.4, free_there a.w.now [] f.result q (omega arith))

pub returns : goal.returns
returns c = let a = c.args in
    let h : Header = record { kind = 0; code = 0; param = a.param; len = a.len } in
    let s = a.strings.now in
    initialized (view (memory a.w.now s)) a.c
    c.slot_of_number-i.result
    c.next_session_id-n.result
    c.version-v.result
    c.preference-mode.result h _ _ _ _ _
    (c.slot_of_number-i.ensures.1 s)
    (c.next_session_id-n.ensures.2 s)
    c.version-v.ensures.0
    c.preference-mode.ensures (ap numbers_of c.acted.ensures)
    c.enter_session.ensures.0 c.put_frame.ensures c.enter_session.ensures.1

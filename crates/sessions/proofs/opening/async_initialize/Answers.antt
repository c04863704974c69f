-- `opening::async_initialize` meets its contract: the slot is found and gets its second connection.
use mathlib.Core.List.{[]}
use native.Mathlib.Omega.{arith}
use Rattle.wire.specs.declared.Header.{Header}
use Rattle.model.specs.State.{at, slot_of_number}
use Rattle.state.specs.View.{locks_of, memory, rest_of, view}
use Rattle.state.specs.OneLook.{half_lives, half_there, lives_there}
use Rattle.sessions.specs.Did.{numbers_of}
use Rattle.sessions.specs.Opening.{async_initialized}
use mathlib.Core.Path.{ap}
use Prim.Native.Nat.{◌%◌}
use Rattle.sessions.specs.SessionIds.{vendor_read}
use borrow.Author.Rules.{rules}
use Rattle.sessions.proofs.opening.async_initialize.Goals as goal

pub join_slot-requires : goal.join_slot-requires
join_slot-requires c = let a = c.args in
    let p = c.requires in
    let r = p.3 [] in
    let q = c.slot_of_number-i.ensures.1 [] in (
      omega arith,
      lives_there a.w.now [] a.param c.slot_of_number-i.result q (omega arith)
          (half_lives (at (locks_of a.w.now []).entries (slot_of_number (locks_of a.w.now []).entries a.param)) (p.4 [])),
      search rules,
      p.5,
      half_there a.w.now [] a.param c.slot_of_number-i.result q (omega arith) (p.4 []),
    )

pub returns : goal.returns
returns c = let a = c.args in
    let h : Header = record { kind = 17; code = 0; param = a.param; len = a.len } in
    λ s. async_initialized (view (memory a.w.now s)) a.c
    c.slot_of_number-i.result
    (c.single.result % 65536) h _ _ _ _ _
    (c.slot_of_number-i.ensures.1 s)
    (vendor_read (rest_of a.w.now) c.single.result
    c.single.ensures.0) (ap numbers_of c.acted.ensures)
    (c.join_slot.ensures s).locks (c.join_slot.ensures s).rest
    c.put_frame.ensures (c.join_slot.ensures s).tidy

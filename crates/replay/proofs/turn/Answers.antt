-- `replay::turn` meets its contract.
use mathlib.Core.Path.{refl, ap, ◌∙◌}
use Prim.Native.Nat.{◌+◌}
use lib.ListN.{length}
use Rattle.std.specs.Prelude.{Ok}
use Rattle.verifier.specs.declared.Progress.TheVariants.{More}
use native.Mathlib.Omega.{arith}
use Rattle.state.specs.View.{memory}
use Rattle.replay.proofs.Turns.{room_for, more_turn, fault_turn, whole_room, wrong_turn, pass_turn}
use Rattle.replay.proofs.turn.Goals as goal

pub feed-requires : goal.feed-requires
feed-requires c =
    let a = c.args in let p = c.requires in
    room_for a.r a.r a.buf.now a.buf.now (Ok More) (memory a.words.now a.strings.now) a.bytes.now p.0 p.1 p.3

pub overflow_sub-e : goal.overflow_sub-e
overflow_sub-e c =
    let a = c.args in let p = c.requires in
    let w = whole_room a.r a.r a.buf.now _ _ (memory a.words.now a.strings.now) a.bytes.now p.0 p.1 p.2 p.3 c.feed.ensures (c.in-Ok-Whole.is ∙ ap Ok c.in-Ok-Whole.field-0-is) in
    omega (arith, w.0)

pub slice_bounds-replay-count : goal.slice_bounds-replay-count
slice_bounds-replay-count c =
    let a = c.args in let p = c.requires in
    let w = whole_room a.r a.r a.buf.now _ _ (memory a.words.now a.strings.now) a.bytes.now p.0 p.1 p.2 p.3 c.feed.ensures (c.in-Ok-Whole.is ∙ ap Ok c.in-Ok-Whole.field-0-is) in
    omega (arith, w.0)

pub slice_bounds-replay-start : goal.slice_bounds-replay-start
slice_bounds-replay-start c =
    let a = c.args in let p = c.requires in
    let w = whole_room a.r a.r a.buf.now _ _ (memory a.words.now a.strings.now) a.bytes.now p.0 p.1 p.2 p.3 c.feed.ensures (c.in-Ok-Whole.is ∙ ap Ok c.in-Ok-Whole.field-0-is) in
    omega (arith, w.0)

pub returns-in-Err : goal.returns-in-Err
returns-in-Err c =
    let a = c.args in let p = c.requires in
    fault_turn a.r _ a.buf.now _ _ (memory a.words.now a.strings.now) a.bytes.now p.0 p.1 p.2 p.3 c.feed.ensures _ c.in-Err.is refl

pub returns-in-Ok-More : goal.returns-in-Ok-More
returns-in-Ok-More c =
    let a = c.args in let p = c.requires in
    more_turn a.r _ a.buf.now _ _ (memory a.words.now a.strings.now) a.bytes.now p.0 p.1 p.2 p.3 c.feed.ensures (c.in-Ok-More.is ∙ ap Ok c.in-Ok-More.field-0-is)
    (λ i. record { have = a.r.have + length a.bytes.now; count = a.r.count; at = a.r.at; last = a.r.last; fault = p.1 i })

pub returns-in-Err-replay : goal.returns-in-Err-replay
returns-in-Err-replay c =
    let a = c.args in let p = c.requires in
    wrong_turn a.r _ a.buf.now _ _ (memory a.words.now a.strings.now) _ _ _ a.bytes.now p.0 p.1 p.2 p.3 c.feed.ensures (c.in-Ok-Whole.is ∙ ap Ok c.in-Ok-Whole.field-0-is) refl
    c.replay.ensures _ c.in-Err-replay.is refl

pub returns-in-Ok : goal.returns-in-Ok
returns-in-Ok c =
    let a = c.args in let p = c.requires in
    pass_turn a.r _ a.buf.now _ _ (memory a.words.now a.strings.now) _ _ _ a.bytes.now p.0 p.1 p.2 p.3 c.feed.ensures (c.in-Ok-Whole.is ∙ ap Ok c.in-Ok-Whole.field-0-is) refl
    c.replay.ensures c.in-Ok.is refl

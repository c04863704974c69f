-- `try_clock` meets its contract: the refusals in their order, then the deadlines that are reached.
use mathlib.Core.Path.{refl, ◌≡◌}
use native.Mathlib.Omega.{arith}
use lib.ListN.{length}
use Rattle.state.specs.View.{memory, view}
use Rattle.model.specs.Interface.{Event.clock}
use Rattle.server.specs.Causes.{untimely, clock_causes, short_room}
use Rattle.server.specs.Events.{refused_call, clock_call, clock_above_lem, clock_back_lem, clock_taken}
use Rattle.server.proofs.try_clock.Goals as goal

pub returns-then-out-lt-OUTPUT_MINIMUM : goal.returns-then-out-lt-OUTPUT_MINIMUM
returns-then-out-lt-OUTPUT_MINIMUM c = let a = c.args in
    let s = a.strings.now in
    let m = memory a.words.now s in
    let d = view m in
    let out = a.out.now in
    let room = length out in
    refused_call (clock a.milliseconds room) 6 _ m out (short_room d (clock a.milliseconds room) room (untimely d a.milliseconds)
    (clock_causes d room a.milliseconds) c.if-out-lt-OUTPUT_MINIMUM.true) refl

pub returns-then-milliseconds-gt-CLOCK_LIMIT : goal.returns-then-milliseconds-gt-CLOCK_LIMIT
returns-then-milliseconds-gt-CLOCK_LIMIT c = let a = c.args in
    let s = a.strings.now in
    let m = memory a.words.now s in
    let d = view m in
    let out = a.out.now in
    let room = length out in
    refused_call (clock a.milliseconds room) 3 _ m out (clock_above_lem d a.milliseconds room c.if-out-lt-OUTPUT_MINIMUM.false c.if-milliseconds-gt-CLOCK_LIMIT.true) refl

pub returns-then-milliseconds-clock : goal.returns-then-milliseconds-clock
returns-then-milliseconds-clock c = let a = c.args in
    let s = a.strings.now in
    let m = memory a.words.now s in
    let d = view m in
    let out = a.out.now in
    let room = length out in
    let e : c.clock.result ≡ d.locks.clock = c.clock.ensures.1 s in
    refused_call (clock a.milliseconds room) 2 _ m out
    (clock_back_lem d a.milliseconds room c.if-out-lt-OUTPUT_MINIMUM.false c.if-milliseconds-gt-CLOCK_LIMIT.false
    (omega arith)) refl

pub returns : goal.returns
returns c = let a = c.args in
    let s = a.strings.now in
    let m = memory a.words.now s in
    let d = view m in
    let out = a.out.now in
    let room = length out in
    let e : c.clock.result ≡ d.locks.clock =
    c.clock.ensures.1 s in
    clock_call a.milliseconds room _ m _ out _ c.expire.result
    (clock_taken d a.milliseconds room c.if-out-lt-OUTPUT_MINIMUM.false
    c.if-milliseconds-gt-CLOCK_LIMIT.false (omega arith))
    c.expire.ensures refl

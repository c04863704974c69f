-- `try_cut` meets its contract: the refusals in their order, then the closing.
use mathlib.Core.Path.{refl, sym, ap, ◌∙◌}
use native.Mathlib.Omega.{arith}
use lib.ListN.{length}
use Rattle.model.specs.Place.{Place}
use Rattle.state.specs.View.{memory, view}
use Rattle.model.specs.Interface.{Event.cut}
use Rattle.server.specs.Causes.{unknown, cut_causes, short_room, no_number, not_open_lem, is_open}
use Rattle.server.specs.Events.{refused_call, cut_call}
use Rattle.server.proofs.try_cut.Goals as goal

pub returns-then-out-lt-OUTPUT_MINIMUM : goal.returns-then-out-lt-OUTPUT_MINIMUM
returns-then-out-lt-OUTPUT_MINIMUM c = let a = c.args in
    let s = a.strings.now in
    let m = memory a.words.now s in
    let d = view m in
    let out = a.out.now in
    let room = length out in
    refused_call (cut a.connection room) 6 _ m out (short_room d (cut a.connection room) room (unknown d a.connection)
    (cut_causes d room a.connection) c.if-out-lt-OUTPUT_MINIMUM.true) refl

pub returns-then-connection-ge-CONNECTIONS : goal.returns-then-connection-ge-CONNECTIONS
returns-then-connection-ge-CONNECTIONS c = let a = c.args in
    let s = a.strings.now in
    let m = memory a.words.now s in
    let d = view m in
    let out = a.out.now in
    let room = length out in
    refused_call (cut a.connection room) 0 _ m out (no_number d (cut a.connection room) room a.connection (cut_causes d room a.connection)
    c.if-out-lt-OUTPUT_MINIMUM.false c.if-connection-ge-CONNECTIONS.true) refl

pub returns-then-not-is_open : goal.returns-then-not-is_open
returns-then-not-is_open c = let a = c.args in
    let s = a.strings.now in
    let m = memory a.words.now s in
    let d = view m in
    let out = a.out.now in
    let room = length out in
    refused_call (cut a.connection room) 0 _ m out (not_open_lem d (cut a.connection room) room a.connection (cut_causes d room a.connection)
    c.if-out-lt-OUTPUT_MINIMUM.false (omega arith)
    (c.is_open.ensures ∙ c.if-not-is_open.true)) refl

pub returns : goal.returns
returns c = let a = c.args in
    let s = a.strings.now in
    let m = memory a.words.now s in
    let d = view m in
    let out = a.out.now in
    let room = length out in
    cut_call a.connection c.slot-i.result room _ m _ out _
    c.close_place.result (is_open d (cut a.connection room) room a.connection (cut_causes d room a.connection)
    c.if-out-lt-OUTPUT_MINIMUM.false (omega arith)
    (c.is_open.ensures
    ∙ c.if-not-is_open.false))
    (ap (λ (p : Place). p.slot) (c.place_of.ensures.found s) ∙ sym c.slot-i.ensures) c.close_place.ensures.0
    refl c.close_place.ensures.1

-- `hislip_deliver` meets its contract: a message, a piece of a header, bytes to skip, then the refusals, the last first.
use mathlib.Core.Path.{ap, ◌∙◌}
use Prim.Native.Nat.{◌-◌}
use lib.ListN.{length}
use Rattle.model.specs.Interface.{Event.delivery, Outcome.more_needed, Reply.took}
use Rattle.model.specs.State.{connection_at}
use Rattle.state.specs.Ready.{ready_none, ready_open, unready_left}
use Rattle.state.specs.View.{memory, rest_of, view}
use Rattle.sessions.specs.Did.{did_nothing, numbers_of}
use Rattle.delivery.specs.Scanning.{message_received, short_received}
use Rattle.server.specs.Calls.{refused_delivery, taken_delivery}
use Rattle.server.specs.Causes.{unknown, delivery_causes, short_room, no_number, not_open_lem, is_open}
use borrow.Author.Rules.{rules}
use Rattle.server.proofs.hislip_deliver.Goals as goal

pub returns-then-bytes-ge-HEADER : goal.returns-then-bytes-ge-HEADER
returns-then-bytes-ge-HEADER c = let a = c.args in
    let m = memory a.words.now a.strings.now in
    let d = view m in
    let bs = a.bytes.now in
    let room = length a.out.now in
    let x = connection_at (rest_of a.words.now) a.connection in
    let r = c.is_ready.ensures ∙ c.if-is_ready.true in
    taken_delivery a.connection bs room _ m _ a.out.now _
    (is_open d (delivery a.connection bs room) room a.connection (delivery_causes d room a.connection bs) c.if-out-ge-OUTPUT_MINIMUM.true c.if-connection-lt-CONNECTIONS.true (ready_open x r))
    (message_received d a.connection bs _ m _ a.out.now _ (ready_none x r) c.if-bytes-ge-HEADER.true c.deliver_message.ensures)

pub returns-then-is_ready : goal.returns-then-is_ready
returns-then-is_ready c = let a = c.args in
    let m = memory a.words.now a.strings.now in
    let d = view m in
    let bs = a.bytes.now in
    let room = length a.out.now in
    let x = connection_at (rest_of a.words.now) a.connection in
    let r = c.is_ready.ensures ∙ c.if-is_ready.true in
    taken_delivery a.connection bs room _ m _ a.out.now _
    (is_open d (delivery a.connection bs room) room a.connection (delivery_causes d room a.connection bs) c.if-out-ge-OUTPUT_MINIMUM.true c.if-connection-lt-CONNECTIONS.true (ready_open x r))
    (short_received d a.connection bs _ m _ a.out.now _ (ready_none x r) c.if-bytes-ge-HEADER.false
    (did_nothing (16 - length bs) (took more_needed 0 0) _ _ _ (ap numbers_of c.more_needed.ensures)))

pub deliver_remainder-requires : goal.deliver_remainder-requires
deliver_remainder-requires c = let a = c.args in
    let x = connection_at (rest_of a.words.now) a.connection in
    (search rules, unready_left x (c.is_ready.ensures ∙ c.if-is_ready.false) (c.is_open.ensures ∙ c.if-is_open.true))

pub returns-then-is_open : goal.returns-then-is_open
returns-then-is_open c = let a = c.args in
    let m = memory a.words.now a.strings.now in
    let d = view m in
    let bs = a.bytes.now in
    let room = length a.out.now in
    taken_delivery a.connection bs room _ m _ a.out.now _
    (is_open d (delivery a.connection bs room) room a.connection (delivery_causes d room a.connection bs) c.if-out-ge-OUTPUT_MINIMUM.true c.if-connection-lt-CONNECTIONS.true
    (c.is_open.ensures ∙ c.if-is_open.true))
    (c.deliver_remainder.ensures a.strings.now a.out.now)

pub returns-then-connection-lt-CONNECTIONS : goal.returns-then-connection-lt-CONNECTIONS
returns-then-connection-lt-CONNECTIONS c = let a = c.args in
    let m = memory a.words.now a.strings.now in
    let d = view m in
    let bs = a.bytes.now in
    let room = length a.out.now in
    refused_delivery (delivery a.connection bs room) 0 _ m a.out.now
    (not_open_lem d (delivery a.connection bs room) room a.connection (delivery_causes d room a.connection bs) c.if-out-ge-OUTPUT_MINIMUM.true c.if-connection-lt-CONNECTIONS.true
    (c.is_open.ensures ∙ c.if-is_open.false)) c.refuse.ensures

pub returns-then-out-ge-OUTPUT_MINIMUM : goal.returns-then-out-ge-OUTPUT_MINIMUM
returns-then-out-ge-OUTPUT_MINIMUM c = let a = c.args in
    let m = memory a.words.now a.strings.now in
    let d = view m in
    let bs = a.bytes.now in
    let room = length a.out.now in
    refused_delivery (delivery a.connection bs room) 0 _ m a.out.now
    (no_number d (delivery a.connection bs room) room a.connection (delivery_causes d room a.connection bs) c.if-out-ge-OUTPUT_MINIMUM.true c.if-connection-lt-CONNECTIONS.false)
    c.refuse-then-out-ge-OUTPUT_MINIMUM.ensures

pub returns : goal.returns
returns c = let a = c.args in
    let m = memory a.words.now a.strings.now in
    let d = view m in
    let bs = a.bytes.now in
    let room = length a.out.now in
    refused_delivery (delivery a.connection bs room) 6 _ m a.out.now
    (short_room d (delivery a.connection bs room) room (unknown d a.connection) (delivery_causes d room a.connection bs) c.if-out-ge-OUTPUT_MINIMUM.false) c.refuse-2.ensures

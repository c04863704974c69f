-- `try_open` meets its contract: the refusals in their order, then the connection is open.
use mathlib.Core.Path.{refl, ◌∙◌}
use mathlib.Core.List.{[]}
use native.Mathlib.Omega.{arith}
use Rattle.state.specs.View.{memory, view}
use Rattle.model.specs.Interface.{Event.opening}
use Rattle.exchanges.specs.Events.{opening_finishes}
use Rattle.server.specs.Events.{refused_call, taken_call, open_no_number, open_already, open_taken, empty_buffer, empty_output}
use Rattle.server.proofs.try_open.Goals as goal

pub returns-then-connection-ge-CONNECTIONS : goal.returns-then-connection-ge-CONNECTIONS
returns-then-connection-ge-CONNECTIONS c = let a = c.args in
    let s = a.strings.now in
    let m = memory a.words.now s in
    let d = view m in
    refused_call (opening a.connection) 0 _ m [] (open_no_number d a.connection c.if-connection-ge-CONNECTIONS.true) refl

pub returns-then-is_open : goal.returns-then-is_open
returns-then-is_open c = let a = c.args in
    let s = a.strings.now in
    let m = memory a.words.now s in
    let d = view m in
    refused_call (opening a.connection) 1 _ m [] (open_already d a.connection (omega arith)
    (c.is_open.ensures ∙ c.if-is_open.true)) refl

pub returns : goal.returns
returns c = let a = c.args in
    let s = a.strings.now in
    let m = memory a.words.now s in
    let d = view m in
    taken_call (opening a.connection) _ [] _ m _ [] [] (open_taken d a.connection (omega arith)
    (c.is_open.ensures ∙ c.if-is_open.false)) (opening_finishes d a.connection)
    (c.open_connection.ensures.0 s) (empty_buffer []) (empty_output _ refl) (c.open_connection.ensures.1 s)

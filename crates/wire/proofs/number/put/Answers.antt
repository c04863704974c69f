-- `number::put` meets its contract: what is turned round and stored lowest byte first stands highest first.
use Rattle.std.proofs.Common.{◌<◌, length, ◌∙◌, arith}
use Rattle.std.proofs.lemmas.List.Edits.{paste_more}
use Rattle.wire.specs.Field.{field, length_field}
use Rattle.wire.specs.Splice.{paste_splice}
use Rattle.wire.proofs.Numbers.{byte_is}
use Rattle.wire.proofs.number.put.Goals as goal

pub loop-i-preserved : goal.loop-i-preserved
loop-i-preserved g c = let a = c.args in
    let l = c.loop-i in
    let f = field g.row.N a.x in
    let r : l.i < length f = rw (length_field g.row.N a.x) (omega arith) in
    let b = byte_is f g.row.N l.i l.left (omega arith) l.invariant.1 r in
    (rw (l.invariant.0, b.0) (paste_more a.out.now a.at f l.i 0 (omega arith) r), b.1)

pub returns : goal.returns
returns g c = let a = c.args in
    c.loop-i.invariant.0 ∙ paste_splice a.out.now a.at (field g.row.N a.x) c.loop-i.i (omega (arith, length_field g.row.N a.x))

-- `number::number` meets its contract: eight bytes of which those before the N are 0 say what the N say.
use Rattle.std.proofs.Common.{◌-◌, ◌<◌, length, drop, sym, ◌∙◌, get_or-drop, length-drop, arith, rules}
use Rattle.std.proofs.lemmas.List.Edits.{paste_more, paste_none}
use Rattle.wire.proofs.Numbers.{at_the_end, number_at_lt, zeros}
use Rattle.wire.proofs.number.number.Goals as goal

pub loop-k-preserved : goal.loop-k-preserved
loop-k-preserved g c = let a = c.args in
    let i = c.loop-k.k in
    let d = drop a.at a.s.now in
    let l : i < length d = simp length-drop (omega arith) in
    rw (c.loop-k.invariant, sym (get_or-drop a.at a.s.now i 0)) (paste_more (zeros 8) (8 - g.row.N) d i 0 (omega arith) l)

pub returns-clause-value : goal.returns-clause-value
returns-clause-value g c = let a = c.args in
    c.from_be_bytes.ensures ∙ at_the_end a.s.now a.at g.row.N c.loop-k.k c.loop-k.bytes (omega arith) (omega arith) (omega arith) (omega arith) c.loop-k.invariant

pub returns-clause-bound : goal.returns-clause-bound
returns-clause-bound g c = let a = c.args in
    let e = c.from_be_bytes.ensures ∙ at_the_end a.s.now a.at g.row.N c.loop-k.k c.loop-k.bytes (omega arith) (omega arith) (omega arith) (omega arith) c.loop-k.invariant in
    rw e (number_at_lt a.s.now a.at g.row.N (omega arith) (λ i. search rules))

-- `put_step` meets its contract: what was read, written one behind the other.
use Rattle.std.proofs.Common.{◌≡◌, ◌+◌, ◌<◌, ℕ, List, length, get_or, set, drop, replicate, sym, ap, ◌∙◌, get_or-drop, length-drop, arith}
use Rattle.std.proofs.Math.Seq.{length-slice, paste}
use Rattle.std.proofs.lemmas.List.Edits.{paste_more}
use Rattle.moves.specs.Moves.{read_more, all_read, all_written}
use Rattle.moves.proofs.put_step.Goals as goal

-- one byte more is read, from its place in the part
byte_read : (n : ℕ) (s b : List ℕ) (i k j : ℕ) → b ≡ paste (replicate n 0) 0 (drop i s) k → j ≡ i + k → k < n → i + k < length s
    → set b k (get_or s j 0) ≡ paste (replicate n 0) 0 (drop i s) (k + 1)
byte_read n s b i k j e f h r =
    let l : k < length (drop i s) = simp length-drop (omega arith) in
    rw (e, f, sym (get_or-drop i s k 0)) (read_more n (drop i s) k h l)

pub loop-k-preserved : goal.loop-k-preserved
loop-k-preserved g c = let a = c.args in
    byte_read g.row.N a.src.now c.loop-k.bytes a.i c.loop-k.k _ c.loop-k.invariant (omega arith) (omega arith) (omega arith)

pub loop-j-preserved : goal.loop-j-preserved
loop-j-preserved g c = let a = c.args in
    let e = all_read g.row.N a.src.now c.loop-k.bytes a.i c.loop-k.k (omega arith) (omega arith) (omega arith) c.loop-k.invariant in
    let n = ap length e ∙ length-slice a.i (a.i + g.row.N) a.src.now (omega arith) in
    rw c.loop-j.invariant (paste_more a.book.now (a.at + a.i) c.loop-k.bytes c.loop-j.j 0 (omega arith) (omega (arith, n)))

pub returns : goal.returns
returns g c = let a = c.args in
    let e = all_read g.row.N a.src.now c.loop-k.bytes a.i c.loop-k.k (omega arith) (omega arith) (omega arith) c.loop-k.invariant in
    all_written g.row.N a.book.now a.at a.src.now c.loop-k.bytes c.loop-j.book a.i c.loop-j.j (omega arith) (omega arith) (omega arith) e c.loop-j.invariant

-- `bytes::goes_on` meets its contract. The invariant: comparing what is left says what the whole comparison says.
use Rattle.std.specs.Prelude.{◌≡◌, ◌+◌, drop}
use Rattle.scpi.specs.Words.{starts, part}
use Rattle.scpi.proofs.bytes.goes_on.Given as goal

abbrev pub invariant-loop-k : goal.invariant-loop-k
invariant-loop-k l = starts (part (l.a + l.k) l.e l.p) (drop (l.i + l.k) l.c) ≡ starts (part l.a l.e l.p) (drop l.i l.c)

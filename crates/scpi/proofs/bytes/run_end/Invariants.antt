-- `bytes::run_end` meets its contract. The invariant: what is left of the run, from i on, ends where the whole run does.
use Rattle.std.specs.Prelude.{◌≡◌, ◌+◌, drop}
use Rattle.scpi.specs.Words.{leading}
use Rattle.scpi.proofs.bytes.run_end.Given as goal

abbrev pub invariant-loop-i : goal.invariant-loop-i
invariant-loop-i l = l.i + leading l.low l.high (drop l.i l.p) ≡ l.at + leading l.low l.high (drop l.at l.p)

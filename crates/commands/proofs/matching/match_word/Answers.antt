-- `matching::match_word` meets its contract.
use Prim.Native.Nat.{◌+◌}
use native.Mathlib.Omega.{arith}
use borrow.Author.Rules.{rules}
use Rattle.scpi.specs.Scans.{word_on}
use Rattle.commands.proofs.matching.match_word.Goals as goal

pub returns : goal.returns
returns c = let e = c.run_end-end in
    let m = c.run_end-m in
    let a = c.args in
    record {
      caps = m.result;
      onward = omega (arith, m.ensures.0, e.ensures.0);
      inside = omega (arith, e.ensures.1);
      caps_end = m.ensures.0;
      read = λ l.
          (word_on a.p.now (a.at + 1) m.result m.ensures.0 e.result (omega (arith, m.ensures.0, c.if-m-at.false)) m.ensures.1
          e.ensures.0 e.ensures.1).3;
      word = λ l. (e.ensures.1, e.ensures.0, c.step-on.ensures);
    }

-- `crc::feed_ones` meets its contract. The invariant: what is left, fed to the register as it is, gives what the whole gives.
use mathlib.Core.Path.{refl, sym, ◌∙◌}
use native.Mathlib.Omega.{arith}
use Rattle.crc.specs.Feed.{feed_next, feed_last}
use borrow.Author.Rules.{rules}
use Rattle.crc.proofs.feed_ones.Goals as goal

-- the bytes end before the seventh
pub returns-then-i-bytes : goal.returns-then-i-bytes
returns-then-i-bytes c = let a = c.args in
    sym (feed_last c.loop-i.x a.bytes.now c.loop-i.i (omega arith)) ∙ c.loop-i.invariant.1

pub loop-i-preserved : goal.loop-i-preserved
loop-i-preserved c = let a = c.args in
    (search rules, rw c.step-x.ensures (sym (feed_next c.loop-i.x a.bytes.now c.loop-i.i (omega arith))) ∙ c.loop-i.invariant.1)

-- there are seven
pub returns : goal.returns
returns c = let a = c.args in
    sym (feed_last c.loop-i.x a.bytes.now c.loop-i.i (omega arith)) ∙ c.loop-i.invariant.1

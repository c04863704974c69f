-- `judge` meets its contract: whatever was read, piece by piece, the reading that stands is the definition's.
use Rattle.std.proofs.Common.{arith}
use Rattle.verify.specs.Judged.{begun, faulty, on, short_piece}
use Rattle.verify.proofs.judge.Goals as goal

pub loop-init : goal.loop-init
loop-init g c = begun _ _ _ c.begin-r.ensures c.requires.0

pub returns-then-is_some : goal.returns-then-is_some
returns-then-is_some g c =
    faulty _ _ _ _ _ c.loop.invariant (omega (arith, c.loop-test.true)) _
    (short_piece _ _ (omega (arith, c.read.auto.buf, c.loop.auto.piece, c.requires.2)))
    _ _ _ c.feed-r.ensures

pub loop-preserved : goal.loop-preserved
loop-preserved g c =
    on _ _ _ _ _ c.loop.invariant (omega (arith, c.loop-test.true)) _
    (short_piece _ _ (omega (arith, c.read.auto.buf, c.loop.auto.piece, c.requires.2)))
    _ _ _ c.feed-r.ensures _ (omega arith)

-- `examples::text::frames` ends, since each frame ends behind its begin.
use Rattle.std.proofs.Common.{◌-◌}
use Rattle.examples.proofs.text.frames.Given as goal

abbrev pub decreases-loop-at : goal.decreases-loop-at
decreases-loop-at g l = l.end - l.at

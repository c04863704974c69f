-- `replay::feed` meets its contract.
use mathlib.Core.Path.{◌≡◌}
use lib.ListN.{length}
use Rattle.state.specs.View.{memory}
use Rattle.replay.proofs.Turns.{Feeding}
use Rattle.replay.proofs.feed.Given as goal

abbrev pub invariant-loop-rest : goal.invariant-loop-rest
invariant-loop-rest l =
    Feeding l.initial.s l.s l.initial.buf l.buf (memory l.initial.words l.initial.strings) (memory l.words l.strings) l.piece l.rest
    × (length l.out ≡ length l.initial.out) × (length l.buf ≡ length l.initial.buf)

abbrev pub decreases-loop-rest : goal.decreases-loop-rest
decreases-loop-rest l = length l.rest

-- `matching::member` meets its contract. The invariant: the words that were passed have no place.
use Rattle.std.specs.Prelude.{ℕ, ◌*◌, ◌≤◌}
use Rattle.commands.specs.Sets.{On}
use Rattle.commands.proofs.matching.member.Given as goal

abbrev pub invariant-loop-k : goal.invariant-loop-k
invariant-loop-k l = (j : ℕ) → On l.s j → 64 * l.k ≤ j

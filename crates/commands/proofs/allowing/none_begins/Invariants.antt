-- `allowing::none_begins` meets its contract. The invariant: where nothing was found, none of the places that were asked opens a line.
use Rattle.std.specs.Prelude.{◌≡◌, ℕ, false, ◌+◌}
use Rattle.commands.specs.Refusing.{Shut}
use Rattle.commands.proofs.allowing.none_begins.Given as goal

abbrev pub invariant-loop-k : goal.invariant-loop-k
invariant-loop-k l = l.found ≡ false → (g : ℕ) → Shut l.text l.f g l.at (l.at + l.k)

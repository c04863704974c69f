-- `allowing::window_is_shut` meets its contract. The invariant: where nothing was found, none of the places that were asked opens a line.
use Rattle.std.specs.Prelude.{◌≡◌, false, ◌+◌}
use Rattle.commands.specs.Refusing.{Shut}
use Rattle.commands.proofs.allowing.window_is_shut.Given as goal

abbrev pub invariant-loop-k : goal.invariant-loop-k
invariant-loop-k l = l.found ≡ false → Shut l.text l.f l.g l.at (l.at + l.k)

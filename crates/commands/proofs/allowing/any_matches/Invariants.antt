-- `allowing::any_matches` meets its contract. The invariant: the lines behind the next newline allow what the whole list allows, and a line that may match begins there.
use mathlib.Core.Path.{◌≡◌}
use mathlib.Core.Bool.{true}
use mathlib.Core.Logic.{◌↔◌}
use Prim.Native.Nat.{◌+◌, ◌-◌, ◌≤◌, ◌<◌}
use lib.ListN.{length, drop}
use Rattle.commands.specs.Lists.{Allows, lines_of}
use Rattle.commands.specs.Refusing.{opens, behind}
use Rattle.commands.proofs.allowing.any_matches.Given as goal

abbrev pub invariant-loop-at : goal.invariant-loop-at
invariant-loop-at l = (l.at ≤ length l.text) × (l.at + 1 < length l.text → opens l.text l.at l.f l.g ≡ true) × (Allows (lines_of l.text) l.c ↔ Allows (behind (drop l.at l.text)) l.c)

abbrev pub decreases-loop-at : goal.decreases-loop-at
decreases-loop-at l = length l.text - l.at

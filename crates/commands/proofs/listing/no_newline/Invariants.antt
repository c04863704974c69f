-- `listing::no_newline` meets its contract. The invariant: where nothing was found, the line goes on behind the places that were asked.
use Rattle.std.specs.Prelude.{◌≡◌, false, ◌+◌, drop}
use Rattle.commands.specs.Lists.{line_length}
use Rattle.commands.proofs.listing.no_newline.Given as goal

abbrev pub invariant-loop-k : goal.invariant-loop-k
invariant-loop-k l = l.found ≡ false → l.at + line_length (drop l.at l.s) ≡ l.at + l.k + line_length (drop (l.at + l.k) l.s)

-- `listing::no_newline` meets its contract. The invariant: where nothing was found, the line goes on behind the places that were asked.
use Rattle.std.proofs.Common.{rules}
use Rattle.commands.specs.Lines.{line_clear}
use Rattle.commands.proofs.listing.no_newline.Goals as goal

pub loop-k-preserved : goal.loop-k-preserved
loop-k-preserved c = let a = c.args in
    let l = c.loop-k in
    λ e. line_clear a.s.now a.at l.k l.found (search rules) e l.invariant

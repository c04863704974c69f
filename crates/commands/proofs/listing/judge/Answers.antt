-- `listing::judge` meets its contract: too long, or ruled by its patterns.
use Rattle.std.proofs.Common.{sym, subst, ℕ, ◌≤◌}
use Rattle.commands.specs.Lists.{Judged, lines_of}
use Rattle.commands.specs.Rulings.{Ruled, ruled_few}
use Rattle.commands.proofs.listing.judge.Goals as goal

pub returns : goal.returns
returns c = let n = c.line_count in
    let s = c.args.text.now in
    subst (λ (j : Judged). Ruled (lines_of s) j) (sym c.first_bad.ensures) (ruled_few (lines_of s) (subst (λ (x : ℕ). x ≤ 32) n.ensures c.if-line_count-gt-MOST_PATTERNS.false))

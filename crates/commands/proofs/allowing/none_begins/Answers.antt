-- `allowing::none_begins` meets its contract. The invariant: where nothing was found, none of the places that were asked opens a line.
use Rattle.std.proofs.Common.{sym, ap, ◌∙◌, Bool, ◌||◌}
use Rattle.commands.specs.Refusing.{bare_more}
use Rattle.commands.proofs.allowing.none_begins.Goals as goal

pub loop-k-preserved : goal.loop-k-preserved
loop-k-preserved c = let a = c.args in
    let l = c.loop-k in
    λ e. bare_more a.text.now a.f a.at l.k l.found (ap (λ (t : Bool). l.found || t) (sym c.begins_here-found.ensures) ∙ e) l.invariant

-- `channels::clear_place` meets its contract: the home, then the word of the row.
use mathlib.Core.Path.{sym, subst}
use mathlib.Core.List.{List}
use Prim.Native.Nat.{ℕ}
use Rattle.state.specs.Channels.{cleared_by}
use Rattle.state.specs.Closing.{Cleared, place_cleared}
use borrow.Author.Rules.{rules}
use Rattle.state.proofs.channels.clear_place.Goals as goal

pub returns : goal.returns
returns c = let a = c.args in
    let l = c.leave_home.ensures in
    let e = c.set_row.ensures in
    let x = cleared_by a.w.now _ _ a.i a.f l.0 e (search rules) (search rules) l.1 (search rules) (search rules) in
    (x.0, x.1, subst (λ (y : List ℕ). Cleared a.w.now y a.i a.f) (sym e) (place_cleared a.w.now _ a.i a.f (search rules) (search rules) (search rules) l.2))

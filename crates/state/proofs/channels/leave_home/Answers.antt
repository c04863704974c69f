-- `channels::leave_home` meets its contract: there is no connection, its home is another, or its home is wiped.
use mathlib.Core.Path.{sym, ap, subst, ◌∙◌}
use mathlib.Core.List.{List, []}
use Prim.Native.Nat.{ℕ}
use Rattle.state.specs.Channels.{free_still, home_cleared}
use Rattle.state.specs.Closing.{LeftHome, left_wiped}
use Rattle.state.specs.View.{memory, row_word, view}
use borrow.Author.Rules.{rules}
use Rattle.state.proofs.channels.leave_home.Goals as goal

pub returns : goal.returns
returns c = let a = c.args in
    let p = c.requires in
    let w = a.w.now in
    let x = c.row-c.result in
    let e = c.set_home.ensures in
    let q = sym c.home.ensures ∙ c.if-home-home_in.false ∙ c.home_in.ensures in
    let r = c.row-c.ensures in (
      λ s. ap (λ (y : List ℕ). view (memory y s)) e ∙ home_cleared w s a.i a.f (search rules) (search rules) p.3 (search rules) (search rules) x (search rules) q,
      ap (λ (y : List ℕ). row_word y a.i 0) e ∙ free_still w [] a.i a.f (search rules) (search rules) p.3 (search rules) (search rules) x (search rules) q,
      subst (λ (y : List ℕ). LeftHome w y a.i a.f) (sym e) (left_wiped w a.i a.f x (search rules) (search rules) (sym r) q),
    )

-- `channels::open_session` meets its contract: four stores.
use Rattle.state.specs.Channels.{opened_by, opened_in_order}
use borrow.Author.Rules.{rules}
use Rattle.state.proofs.channels.open_session.Goals as goal

pub returns : goal.returns
returns c = let a = c.args in
    let p = c.requires in
    let e₁ = c.set_row.ensures in
    let e₂ = c.set_row-2.ensures in
    let e₃ = c.set_row-3.ensures in (
      λ s. opened_by a.w.now _ _ _ _ s a.i a.n a.c _ e₁ e₂ e₃ c.set_home.ensures c.home_in.ensures (search rules)
          (search rules) p.1 (search rules) p.3,
      λ s. opened_in_order a.w.now _ _ _ _ s a.i a.n a.c _ e₁ e₂ e₃
          c.set_home.ensures c.home_in.ensures (search rules) (search rules) p.1 (search rules) p.3,
    )

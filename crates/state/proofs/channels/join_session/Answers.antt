-- `channels::join_session` meets its contract: two stores.
use Rattle.state.specs.Channels.{joined_by, joined_in_order}
use borrow.Author.Rules.{rules}
use Rattle.state.proofs.channels.join_session.Goals as goal

pub returns : goal.returns
returns c = let a = c.args in
    let p = c.requires in
    let e = c.set_row.ensures in (
      λ s. joined_by a.w.now _ _ s a.i a.c _ e c.set_home.ensures c.home_in.ensures (search rules) (search rules) p.1 (search rules)
          p.3,
      λ s. joined_in_order a.w.now _ _ s a.i a.c _ e c.set_home.ensures c.home_in.ensures (search rules) (search rules)
          p.1 (search rules) p.3,
    )

-- `channels::close_session` meets its contract: the slot is free, and what is left of it is not seen.
use mathlib.Core.Path.{ap, ◌∙◌}
use mathlib.Core.List.{List}
use Prim.Native.Nat.{ℕ}
use Rattle.state.specs.Channels.{session_freed}
use Rattle.state.specs.Closing.{closed_in_order}
use Rattle.state.specs.View.{memory, view}
use borrow.Author.Rules.{rules}
use Rattle.state.proofs.channels.close_session.Goals as goal

pub returns : goal.returns
returns c = let a = c.args in
    let e = c.set_row.ensures in
    let w = a.w.now in (
      λ s. c.clear_place-2.ensures.0 s ∙ c.clear_place.ensures.0 s ∙ ap (λ (y : List ℕ). view (memory y s)) e ∙ session_freed a.w.now s a.i (search rules) (search rules),
      λ s. closed_in_order w _ _ _ s a.i e (search rules) (search rules) c.clear_place.ensures.2 c.clear_place-2.ensures.2,
    )

-- `holders::row_at` meets its contract: a word for each field.
use mathlib.Core.Path.{ap}
use Rattle.model.specs.State.{Entry, at}
use Rattle.state.specs.View.{locks_of}
use Rattle.questions.specs.Holders.{row_read}
use Rattle.questions.proofs.holders.row_at.Goals as goal

pub returns : goal.returns
returns c = let a = c.args in
    λ s. row_read (at (locks_of a.w.now s).entries a.i) _ _ _ _ _ c.is_exclusive.result c.is_sharing.result
    (ap (λ (e : Entry). e.number) (c.entry-session.ensures.0 s))
    c.word_of-exclusive.ensures
    (c.is_exclusive.ensures s)
    c.word_of-shared.ensures
    (c.is_sharing.ensures s)
    (ap (λ (e : Entry). e.locks_granted.granted_at) (c.order-granted_at.ensures.0 s))
    (ap (λ (e : Entry). e.locks_granted.grants) (c.order-grants.ensures.0 s))

-- `opening::initialize_verdict` meets its contract: the sub-address, then the number of sessions.
use mathlib.Core.Path.{refl, ◌∙◌}
use Rattle.state.specs.View.{memory, view}
use Rattle.checks.specs.Opening.{open_address, open_full, open_session}
use Rattle.checks.proofs.opening.initialize_verdict.Goals as goal

pub returns-then-not-is_sub_address : goal.returns-then-not-is_sub_address
returns-then-not-is_sub_address c = let a = c.args in
    λ s m n l. open_address (view (memory a.w.now s)) 0 m n l a.payload.now refl (c.is_sub_address.ensures ∙ c.if-not-is_sub_address.true)

pub returns-then-is_full : goal.returns-then-is_full
returns-then-is_full c = let a = c.args in
    λ s m n l. open_full (view (memory a.w.now s)) 0 m n l a.payload.now refl
    (c.is_sub_address.ensures ∙ c.if-not-is_sub_address.false) (c.is_full.ensures s ∙ c.if-is_full.true)

pub returns : goal.returns
returns c = let a = c.args in
    λ s m n l. open_session (view (memory a.w.now s)) 0 m n l a.payload.now refl
    (c.is_sub_address.ensures ∙ c.if-not-is_sub_address.false) (c.is_full.ensures s ∙ c.if-is_full.false)

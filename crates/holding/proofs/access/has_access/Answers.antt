-- `access::has_access` meets its contract: the tests of the code, in their order.
use mathlib.Core.Path.{sym, ◌∙◌}
use Rattle.holding.specs.Access.{access_open, access_shared, access_taken}
use Rattle.state.specs.View.{locks_of}
use Rattle.holding.proofs.access.has_access.Goals as goal

pub returns-then-not-nobody_exclusive : goal.returns-then-not-nobody_exclusive
returns-then-not-nobody_exclusive c = let a = c.args in
    λ s. access_taken (locks_of a.w.now s).entries a.i _ (c.nobody_exclusive.ensures s ∙ c.if-not-nobody_exclusive.true) (c.is_exclusive.ensures s)

pub returns-then-nobody_shares : goal.returns-then-nobody_shares
returns-then-nobody_shares c = let a = c.args in
    λ s. access_open (locks_of a.w.now s).entries a.i
    (c.nobody_exclusive.ensures s ∙ c.if-not-nobody_exclusive.false)
    (c.nobody_shares.ensures s ∙ c.if-nobody_shares.true)
    ∙ sym c.if-nobody_shares.true

pub returns-else-nobody_shares : goal.returns-else-nobody_shares
returns-else-nobody_shares c = let a = c.args in
    λ s. access_shared (locks_of a.w.now s).entries a.i _
    (c.nobody_exclusive.ensures s ∙ c.if-not-nobody_exclusive.false)
    (c.nobody_shares.ensures s ∙ c.if-nobody_shares.false) (c.is_sharing.ensures s)

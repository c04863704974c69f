-- `request::decide` meets its contract: the ways of the rule that are left.
use mathlib.Core.Path.{refl, ◌∙◌}
use Rattle.locks.specs.Asking.{decided_denied, decided_granted, decided_queued, has_place, met_none}
use Rattle.grants.specs.Granting.{given_noted}
use Rattle.holding.specs.Outcome.{met_one}
use Rattle.state.specs.View.{locks_of, memory, view}
use borrow.Author.Rules.{rules}
use Rattle.locks.proofs.request.decide.Goals as goal

pub give_asked-requires : goal.give_asked-requires
give_asked-requires c = (
  search rules,
  search rules,
  c.may_give.ensures
      ∙ c.if-may_give.true,
)

pub returns-then-may_give : goal.returns-then-may_give
returns-then-may_give c = let a = c.args in
    let p = c.put_answer-r.ensures in
    let g = c.give_asked.ensures in
    let n = c.note_grant.ensures in
    met_one _ _ _ _ _ _ _ _ _ (decided_granted (locks_of a.w.now a.strings.now) a.i a.string.now a.timeout
    (c.may_give.ensures
    ∙ c.if-may_give.true))
    (given_noted (view (memory a.w.now a.strings.now)) _ _ a.i a.string.now g.0 (n.0 _)) (p.1 a.strings.now) p.0 (search rules) (λ t. n.1 _ (g.1 t))

pub returns-then-cannot_wait : goal.returns-then-cannot_wait
returns-then-cannot_wait c = let a = c.args in
    let p = c.put_answer.ensures in
    let s = a.strings.now in
    met_one _ _ _ _ _ _ _ _ _ (decided_denied (locks_of a.w.now a.strings.now) a.i a.string.now a.timeout
    (c.may_give.ensures
    ∙ c.if-may_give.false)
    (c.cannot_wait.ensures s ∙ c.if-cannot_wait.true)) refl (p.1 s)
    p.0 (search rules) (λ t. t)

pub wait-requires : goal.wait-requires
wait-requires c = let a = c.args in
    let s = a.strings.now in (
      search rules,
      search rules,
      has_place a.timeout (locks_of a.w.now s).waiting
          (c.cannot_wait.ensures s ∙ c.if-cannot_wait.false),
      c.requires.3,
    )

pub returns : goal.returns
returns c = let a = c.args in
    met_none _ _ _ _ _ _ (decided_queued (locks_of a.w.now a.strings.now) a.i a.string.now a.timeout
    (c.may_give.ensures ∙ c.if-may_give.false)
    (c.cannot_wait.ensures a.strings.now ∙ c.if-cannot_wait.false)) c.wait.ensures.0
    c.wait.ensures.1

-- `request::request_lock` meets its contract: answered 3, or decided.
use mathlib.Core.Path.{refl, sym, ◌∙◌}
use Rattle.locks.specs.Asking.{able_idle, able_short, request_decided, request_invalid}
use Rattle.holding.specs.Outcome.{met_is, met_one}
use Rattle.state.specs.View.{locks_of}
use borrow.Author.Rules.{rules}
use Rattle.locks.proofs.request.request_lock.Goals as goal

pub returns-then-is_invalid : goal.returns-then-is_invalid
returns-then-is_invalid c = let a = c.args in
    let p = c.put_answer.ensures in
    met_one _ _ _ _ _ _ _ _ _ (request_invalid (locks_of a.w.now a.strings.now) a.i a.string.now a.timeout
    (c.is_invalid.ensures a.strings.now a.string.now refl
    ∙ c.if-is_invalid.true)) refl (p.1 a.strings.now) p.0 (search rules) (λ t. t)

pub decide-requires : goal.decide-requires
decide-requires c = let a = c.args in
    let u = c.is_invalid.ensures a.strings.now a.string.now refl ∙ c.if-is_invalid.false in
    (search rules, search rules, able_short (locks_of a.w.now a.strings.now) a.i a.string.now u, able_idle (locks_of a.w.now a.strings.now) a.i a.string.now u)

pub returns : goal.returns
returns c = let a = c.args in
    let u = c.is_invalid.ensures a.strings.now a.string.now refl ∙ c.if-is_invalid.false in
    met_is _ _ _ _ _ _ _ _ (sym (request_decided (locks_of a.w.now a.strings.now) a.i a.string.now a.timeout u)) c.decide.ensures

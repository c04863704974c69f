-- `deliver::apply` meets its contract: what each verdict does is what the function called for it does.
use mathlib.Core.Path.{◌≡◌, refl, ap}
use Rattle.std.proofs.Common.{⊎_elim}
use Rattle.checks.specs.declared.verdict.Verdict.TheVariants.{More, Acts}
use mathlib.Core.List.{[]}
use Rattle.wire.specs.Frame.{bytes_of}
use Rattle.model.specs.Interface.{Reply.took, Outcome.more_needed, Outcome.held, Outcome.ignored}
use Rattle.sessions.specs.Did.{numbers_of, did_nothing, did_plainly}
use Rattle.sessions.specs.Replies.{nothing_said}
use Rattle.state.specs.View.{memory, view}
use Rattle.delivery.specs.Verdicts.{fatal_done, error_done, closed_done, ignored_done, held_done, more_done}
use Rattle.delivery.proofs.deliver.apply.Goals as goal

pub returns-in-Error : goal.returns-in-Error
returns-in-Error c = let a = c.args in
    λ ro x e f g. rw c.in-Error.is (error_done (view (memory a.w.now a.strings.now)) a.c a.i x ro _ _ _ _ _ c.in-Error.code
    a.taken a.left e f a.moves g _ _
    (c.count_refused.ensures.0 a.strings.now)
    (c.count_refused.ensures.1 a.strings.now) (c.send_error.ensures a.strings.now))

pub returns-in-Fatal : goal.returns-in-Fatal
returns-in-Fatal c = let a = c.args in
    λ ro x e f g. rw c.in-Fatal.is (fatal_done (view (memory a.w.now a.strings.now)) a.c a.i x ro _ _ _ _ _ c.in-Fatal.code c.send_fatal.ensures)

pub returns-in-Closed : goal.returns-in-Closed
returns-in-Closed c = let a = c.args in
    λ ro x e f g. rw c.in-Closed.is (closed_done (view (memory a.w.now a.strings.now)) a.c a.i x ro _ _ _ _ _ c.close_silently.ensures)

pub returns-in-Ignored : goal.returns-in-Ignored
unfolding bytes_of
returns-in-Ignored c = let a = c.args in
    let d = view (memory a.w.now a.strings.now) in
    λ ro x e f g. rw c.in-Ignored.is (ignored_done d a.c a.i x ro _ _ _ _ _ a.taken e
    (did_plainly d (took ignored a.taken 0) d.rest [] _ _ _ _ _ (ap numbers_of c.quiet.ensures) refl (nothing_said a.out.now) refl (λ t. t)))

pub returns-in-Held : goal.returns-in-Held
returns-in-Held c = let a = c.args in
    λ ro x e f g. rw c.in-Held.is (held_done (view (memory a.w.now a.strings.now)) a.c a.i x ro _ _ _ _ _
    (did_nothing 0 (took held 0 0) _ _ _ (ap numbers_of c.quiet-in-Held.ensures)))

pub returns : goal.returns
returns c = let a = c.args in
    λ ro x e f g. ⊎_elim
    (λ (q : a.v ≡ More). rw q (more_done (view (memory a.w.now a.strings.now)) a.c a.i x ro _ _ _ _ _ (did_nothing 0 (took more_needed 0 0) _ _ _ (ap numbers_of c.more_needed.ensures))))
    (λ (q : a.v ≡ Acts). absurd (c.requires.3 q))
    c.in-More.is

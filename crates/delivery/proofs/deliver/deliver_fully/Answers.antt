-- `deliver::deliver_fully` meets its contract: the verdict, and what was done by it.
use mathlib.Core.Path.{refl, ap}
use Rattle.checks.specs.Verdicts.{message, verdict_meant}
use Rattle.model.specs.Checks.{Verdict.v_held, judged}
use Rattle.model.specs.Place.{Role.r_synchronous}
use Rattle.model.specs.Scan.{Scan.whole}
use Rattle.model.specs.State.{exchange_at}
use Rattle.state.specs.View.{memory, rest_of, view}
use Rattle.sessions.specs.Did.{did_nothing, numbers_of}
use Rattle.model.specs.Interface.{Reply.took, Outcome.held}
use Rattle.delivery.specs.Numbering.{moved_whole}
use Rattle.delivery.specs.Verdicts.{acts_done, by_verdict, held_done}
use Rattle.delivery.proofs.deliver.deliver_fully.Goals as goal

pub returns-in-Acts : goal.returns-in-Acts
returns-in-Acts c = let a = c.args in
    let d = view (memory a.w.now a.strings.now) in
    let h = message a.kind a.code a.param a.len in
    acts_done d a.c a.i h a.payload.now r_synchronous _ _ _ _ _ (judged r_synchronous d a.i h a.payload.now)
    (c.in-Acts.ensures a.strings.now (λ j z. refl)) (c.act_synchronous.ensures a.payload.now)

pub returns-in-Held : goal.returns-in-Held
returns-in-Held c = let a = c.args in
    let d = view (memory a.w.now a.strings.now) in
    let h = message a.kind a.code a.param a.len in
    let x = whole h a.payload.now in
    by_verdict d a.c a.i x r_synchronous _ _ _ _ _ (judged r_synchronous d a.i h a.payload.now) v_held (c.in-Held.ensures a.strings.now (λ j z. refl))
    (held_done d a.c a.i x r_synchronous _ _ _ _ _ (did_nothing 0 (took held 0 0) _ _ _ (ap numbers_of c.quiet.ensures)))

pub returns : goal.returns
returns c = let a = c.args in
    let v = c.whole_verdict_at in
    let d = view (memory a.w.now a.strings.now) in
    let h = message a.kind a.code a.param a.len in
    by_verdict d a.c a.i (whole h a.payload.now) r_synchronous _ _ _ _ _ (judged r_synchronous d a.i h a.payload.now) (verdict_meant v.result)
    (v.ensures a.strings.now (λ j z. refl))
    (c.apply-told.ensures r_synchronous (whole h a.payload.now) refl refl
    (moved_whole h (exchange_at (rest_of a.w.now) a.i) r_synchronous a.payload.now _
    (c.carries-moves.ensures.moves a.code a.len)))

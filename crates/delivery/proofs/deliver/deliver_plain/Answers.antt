-- `deliver::deliver_plain` meets its contract: checks and effect of a command, with nothing due.
use mathlib.Core.Path.{◌≡◌, refl, ap, ◌∙◌}
use Rattle.checks.specs.Verdicts.{message, verdict_meant}
use Rattle.checks.specs.Synchronous.{list_passed}
use Rattle.model.specs.Checks.{Verdict.v_acts, Verdict.v_held, judged}
use Rattle.model.specs.Place.{Role.r_synchronous}
use Rattle.model.specs.Scan.{Scan.whole}
use Rattle.model.specs.State.{exchange_at}
use Rattle.state.specs.View.{memory, rest_of, view}
use Rattle.sessions.specs.Did.{did_nothing, numbers_of}
use Rattle.model.specs.Interface.{Reply.took, Outcome.held}
use Rattle.delivery.specs.Numbering.{moved_whole}
use Rattle.delivery.specs.Verdicts.{acts_done, by_verdict, held_done}
use Rattle.delivery.proofs.deliver.deliver_plain.Goals as goal

pub returns-in-Acts : goal.returns-in-Acts
returns-in-Acts c = let a = c.args in
    let d = view (memory a.w.now a.strings.now) in
    let h = message a.kind a.code a.param a.len in
    let e : judged r_synchronous d a.i h a.payload.now ≡ v_acts = list_passed d a.i a.kind a.code a.param a.len a.payload.now
    c.requires.7 ∙ c.in-Acts.ensures a.strings.now a.payload.now in
    acts_done d a.c a.i h a.payload.now r_synchronous _ _ _ _ _ (judged r_synchronous d a.i h a.payload.now)
    e (c.act_plainly.ensures a.strings.now a.payload.now a.c)

pub returns-in-Held : goal.returns-in-Held
returns-in-Held c = let a = c.args in
    let d = view (memory a.w.now a.strings.now) in
    let h = message a.kind a.code a.param a.len in
    let x = whole h a.payload.now in
    let e : judged r_synchronous d a.i h a.payload.now ≡ v_held = list_passed d a.i a.kind a.code a.param a.len a.payload.now c.requires.7
    ∙ c.in-Held.ensures a.strings.now a.payload.now in
    by_verdict d a.c a.i x r_synchronous _ _ _ _ _ (judged r_synchronous d a.i h a.payload.now) v_held e
    (held_done d a.c a.i x r_synchronous _ _ _ _ _ (did_nothing 0 (took held 0 0) _ _ _ (ap numbers_of c.quiet.ensures)))

pub returns : goal.returns
returns c = let a = c.args in
    let v = c.synchronous_verdict in
    let d = view (memory a.w.now a.strings.now) in
    let h = message a.kind a.code a.param a.len in
    let e : judged r_synchronous d a.i h a.payload.now ≡ verdict_meant v.result = list_passed d a.i a.kind a.code a.param a.len a.payload.now
    c.requires.7 ∙ v.ensures a.strings.now a.payload.now in
    by_verdict d a.c a.i (whole h a.payload.now) r_synchronous _ _ _ _ _ (judged r_synchronous d a.i h a.payload.now) (verdict_meant v.result) e
    (c.apply-told.ensures r_synchronous (whole h a.payload.now) refl refl
    (moved_whole h (exchange_at (rest_of a.w.now) a.i) r_synchronous a.payload.now _
    (c.carries-moves.ensures.moves a.code a.len)))

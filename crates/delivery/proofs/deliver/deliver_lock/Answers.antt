-- `deliver::deliver_lock` meets its contract: the checks, and what it does.
use mathlib.Core.Path.{refl}
use Rattle.checks.specs.Verdicts.{message, verdict_meant}
use Rattle.model.specs.Checks.{judged}
use Rattle.model.specs.Place.{Role.r_asynchronous}
use Rattle.model.specs.Scan.{Scan.whole}
use Rattle.state.specs.View.{memory, view}
use Rattle.delivery.specs.Verdicts.{acts_done, by_verdict}
use Rattle.delivery.proofs.deliver.deliver_lock.Goals as goal

pub returns-in-Acts : goal.returns-in-Acts
returns-in-Acts c = let a = c.args in
    let d = view (memory a.w.now a.strings.now) in
    let h = message 4 a.code a.param a.len in
    acts_done d a.c a.i h a.payload.now r_asynchronous _ _ _ _ _ (judged r_asynchronous d a.i h a.payload.now)
    (c.in-Acts.ensures a.payload.now a.param) c.act_lock.ensures

pub returns : goal.returns
returns c = let a = c.args in
    let v = c.asynchronous_verdict in
    let d = view (memory a.w.now a.strings.now) in
    let h = message 4 a.code a.param a.len in
    by_verdict d a.c a.i (whole h a.payload.now) r_asynchronous _ _ _ _ _ (judged r_asynchronous d a.i h a.payload.now) (verdict_meant v.result)
    (v.ensures a.payload.now a.param)
    (c.apply-told.ensures r_asynchronous (whole h a.payload.now) refl refl refl)

-- `deliver::deliver_kind` meets its contract: the verdict, and what was done by it.
use mathlib.Core.Path.{refl}
use Rattle.checks.specs.Verdicts.{message, verdict_meant}
use Rattle.model.specs.Checks.{judged}
use Rattle.model.specs.Scan.{Scan.whole}
use Rattle.model.specs.State.{exchange_at}
use Rattle.state.specs.Search.{place_meant}
use Rattle.state.specs.View.{memory, rest_of, view}
use Rattle.delivery.specs.Numbering.{moved_whole}
use Rattle.delivery.specs.Verdicts.{acts_done, by_verdict, done_at}
use Rattle.delivery.proofs.deliver.deliver_kind.Goals as goal

pub returns-in-Acts : goal.returns-in-Acts
returns-in-Acts c = let a = c.args in
    let d = view (memory a.w.now a.strings.now) in
    let h = message a.kind a.code a.param a.len in
    let q = place_meant a.place in
    acts_done d a.c q.slot h a.payload.now q.role _ _ _ _ _ (judged q.role d q.slot h a.payload.now)
    (c.in-Acts.ensures a.strings.now (λ j z. refl)) c.act.ensures

pub returns : goal.returns
returns c = let a = c.args in
    let v = c.whole_verdict_at in
    let d = view (memory a.w.now a.strings.now) in
    let h = message a.kind a.code a.param a.len in
    let q = place_meant a.place in
    let x = whole h a.payload.now in
    by_verdict d a.c q.slot x q.role _ _ _ _ _ (judged q.role d q.slot h a.payload.now) (verdict_meant v.result)
    (v.ensures a.strings.now (λ j z. refl))
    (done_at d a.c q.slot c.slot.result x q.role _ _ _ _ _ (verdict_meant v.result) c.carries-moves.result c.slot.ensures (c.apply-told.ensures q.role x refl refl)
    (moved_whole h (exchange_at (rest_of a.w.now) q.slot) q.role a.payload.now _
    (c.carries-moves.ensures.moves a.code a.len)))

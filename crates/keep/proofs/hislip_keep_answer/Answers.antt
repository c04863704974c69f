-- `hislip_keep_answer` meets its contract: the plain call on the bytes shown that count, then the entry of that.
use mathlib.Core.Path.{refl, ap, ◌∙◌}
use mathlib.Core.Bool.{not}
use mathlib.Core.List.{◌∷◌, ◌++◌}
use Prim.Native.Nat.{ℕ}
use native.Mathlib.Omega.{arith}
use lib.Dec.{eqb}
use lib.ListN.{length, length-take}
use Rattle.wire.specs.Field.{field}
use Rattle.model.specs.Interface.{Event, Event.answer}
use Rattle.state.specs.View.{memory}
use Rattle.keep.specs.Keeping.{looked}
use Rattle.entries.specs.Parts.{met}
use Rattle.keep.specs.Calls.{replied_again, told_answer, answered_first_lem, row_is, answer_is, answer_within, body_kept}
use Rattle.keep.proofs.hislip_keep_answer.Goals as goal

pub slice_bounds-s-end : goal.slice_bounds-s-end
slice_bounds-s-end c = simp length-take (omega (arith, c.min-n.ensures))

pub row-row-requires : goal.row-row-requires
row-row-requires c = simp length-take (omega (arith, c.min-n.ensures))

pub overflow_add-e : goal.overflow_add-e
overflow_add-e c = omega (arith, c.min-n.ensures)

pub slice_bounds-row-end : goal.slice_bounds-row-end
slice_bounds-row-end c = omega (
  arith,
  c.min-n.ensures,
  c.row-row.ensures.0,
)

pub slice_bounds-keep_entry-end-2 : goal.slice_bounds-keep_entry-end-2
slice_bounds-keep_entry-end-2 c = simp length-take (omega (
  arith,
  c.min-n.ensures,
  c.row-row.ensures.0,
))

pub slice_bounds-keep_entry-end-3 : goal.slice_bounds-keep_entry-end-3
slice_bounds-keep_entry-end-3 c = let a = c.args in
    let m = memory a.words.now a.strings.now in
    let p = a.payload.now in
    let end = not (eqb a.end 0) in
    let sh = a.shown.now in
    let room = length a.out.now in
    let e : Event = answer a.session p end sh room in
    let q = c.min-n.ensures in
    let g = answered_first_lem a.session p end sh room _ q c.hislip_answer-r.ensures in
    let t = told_answer m _ (looked e) a.out.now _ refl _ g in
    omega (arith, t.inside)

pub slice_bounds-keep_entry-end-4 : goal.slice_bounds-keep_entry-end-4
slice_bounds-keep_entry-end-4 c = let a = c.args in
    let m = memory a.words.now a.strings.now in
    let p = a.payload.now in
    let end = not (eqb a.end 0) in
    let sh = a.shown.now in
    let room = length a.out.now in
    let e : Event = answer a.session p end sh room in
    let q = c.min-n.ensures in
    let g = answered_first_lem a.session p end sh room _ q c.hislip_answer-r.ensures in
    let t = told_answer m _ (looked e) a.out.now _ refl _ g in
    simp length-take (omega (arith, t.inside))

pub keep_entry-told-requires : goal.keep_entry-told-requires
keep_entry-told-requires c = let a = c.args in
    let m = memory a.words.now a.strings.now in
    let p = a.payload.now in
    let end = not (eqb a.end 0) in
    let sh = a.shown.now in
    let room = length a.out.now in
    let e : Event = answer a.session p end sh room in
    let q = c.min-n.ensures in
    let g = answered_first_lem a.session p end sh room _ q c.hislip_answer-r.ensures in
    let t = told_answer m _ (looked e) a.out.now _ refl _ g in
    let h = c.three-head.ensures
    ∙ ap (λ (i : ℕ). 4 ∷ (field 4 a.session ++ (field 1 i ++ field 4 (length p))))
    c.bit.ensures in
    let r = row_is _ sh _ _ q c.row-row.ensures.1 in
    λ z. answer_within m a.session p end sh room _ q _ _ _ t _ _ h r z

pub returns : goal.returns
returns c = let a = c.args in
    let m = memory a.words.now a.strings.now in
    let p = a.payload.now in
    let end = not (eqb a.end 0) in
    let sh = a.shown.now in
    let room = length a.out.now in
    let e : Event = answer a.session p end sh room in
    let q = c.min-n.ensures in
    let g = answered_first_lem a.session p end sh room _ q c.hislip_answer-r.ensures in
    let t = told_answer m _ (looked e) a.out.now _ refl _ g in
    let h = c.three-head.ensures
    ∙ ap (λ (i : ℕ). 4 ∷ (field 4 a.session ++ (field 1 i ++ field 4 (length p))))
    c.bit.ensures in
    let r = row_is _ sh _ _ q c.row-row.ensures.1 in
    (replied_again c.from.ensures.0 g, body_kept m e _ _ _ t _ _ _ _ _ _ (answer_is m a.session p end sh room _ q _ _ _ t _ _ h r) (met c.keep_entry-told.ensures c.from.ensures.1))

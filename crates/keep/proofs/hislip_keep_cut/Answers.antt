-- `hislip_keep_cut` meets its contract: the plain call, then the entry of its event.
use mathlib.Core.Path.{refl}
use native.Mathlib.Omega.{arith}
use lib.ListN.{length, length-take}
use Rattle.model.specs.Interface.{Event, Event.cut}
use Rattle.state.specs.View.{memory}
use Rattle.entries.specs.Parts.{met}
use Rattle.keep.specs.Calls.{told_done, cut_head, numbers_are, numbers_within, body_kept, called_again}
use Rattle.keep.proofs.hislip_keep_cut.Goals as goal

pub slice_bounds-keep_numbers-end-2 : goal.slice_bounds-keep_numbers-end-2
slice_bounds-keep_numbers-end-2 c = let a = c.args in
    let m = memory a.words.now a.strings.now in
    let e : Event = cut a.connection (length a.out.now) in
    let t = told_done m _ e a.out.now _ refl _ c.hislip_cut-r.ensures in
    omega (arith, t.inside)

pub slice_bounds-keep_numbers-end-3 : goal.slice_bounds-keep_numbers-end-3
slice_bounds-keep_numbers-end-3 c = let a = c.args in
    let m = memory a.words.now a.strings.now in
    let e : Event = cut a.connection (length a.out.now) in
    let t = told_done m _ e a.out.now _ refl _ c.hislip_cut-r.ensures in
    simp length-take (omega (arith, t.inside))

pub keep_numbers-told-requires : goal.keep_numbers-told-requires
keep_numbers-told-requires c = let a = c.args in
    let m = memory a.words.now a.strings.now in
    let e : Event = cut a.connection (length a.out.now) in
    let t = told_done m _ e a.out.now _ refl _ c.hislip_cut-r.ensures in
    λ z. numbers_within m e _ _ _ t _ (cut_head a.connection (length a.out.now) c.one-head.ensures) z

pub returns : goal.returns
returns c = let a = c.args in
    let m = memory a.words.now a.strings.now in
    let e : Event = cut a.connection (length a.out.now) in
    let t = told_done m _ e a.out.now _ refl _ c.hislip_cut-r.ensures in (
      called_again c.from.ensures.0 c.hislip_cut-r.ensures,
      body_kept m e _ _ _ t _ _ _ _ _ _
          (numbers_are m e _ _ _ t _ (cut_head a.connection (length a.out.now)
          c.one-head.ensures)) (met c.keep_numbers-told.ensures c.from.ensures.1),
    )

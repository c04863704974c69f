-- `hislip_keep_deliver` meets its contract: the plain call on the first bytes, then the entry of that.
use mathlib.Core.Path.{refl}
use native.Mathlib.Omega.{arith}
use lib.ListN.{length, length-take}
use Rattle.model.specs.Interface.{Event, Event.delivery}
use Rattle.state.specs.View.{memory}
use Rattle.keep.specs.Keeping.{looked}
use Rattle.entries.specs.Parts.{met}
use Rattle.keep.specs.Calls.{delivered_again, told_delivery, delivered_first, delivery_is, delivery_within, body_kept}
use Rattle.keep.proofs.hislip_keep_deliver.Goals as goal

pub slice_bounds-shown-end : goal.slice_bounds-shown-end
slice_bounds-shown-end c = simp length-take (omega (arith, c.min-n.ensures))

pub slice_bounds-keep_delivery-end : goal.slice_bounds-keep_delivery-end
slice_bounds-keep_delivery-end c = let a = c.args in
    let m = memory a.words.now a.strings.now in
    let bs = a.bytes.now in
    let room = length a.out.now in
    let e : Event = delivery a.connection bs room in
    let q = c.min-n.ensures in
    let g = delivered_first a.connection bs room _ q c.hislip_deliver-r.ensures in
    let t = told_delivery m _ (looked e) a.out.now _ refl _ g in
    omega (arith, t.inside)

pub slice_bounds-keep_delivery-end-2 : goal.slice_bounds-keep_delivery-end-2
slice_bounds-keep_delivery-end-2 c = let a = c.args in
    let m = memory a.words.now a.strings.now in
    let bs = a.bytes.now in
    let room = length a.out.now in
    let e : Event = delivery a.connection bs room in
    let q = c.min-n.ensures in
    let g = delivered_first a.connection bs room _ q c.hislip_deliver-r.ensures in
    let t = told_delivery m _ (looked e) a.out.now _ refl _ g in
    simp length-take (omega (arith, t.inside))

pub keep_delivery-told-requires : goal.keep_delivery-told-requires
keep_delivery-told-requires c = let a = c.args in
    let m = memory a.words.now a.strings.now in
    let bs = a.bytes.now in
    let room = length a.out.now in
    let e : Event = delivery a.connection bs room in
    let q = c.min-n.ensures in
    let g = delivered_first a.connection bs room _ q c.hislip_deliver-r.ensures in
    let t = told_delivery m _ (looked e) a.out.now _ refl _ g in
    λ z. delivery_within m a.connection bs room _ q _ _ _ t z

pub returns : goal.returns
returns c = let a = c.args in
    let m = memory a.words.now a.strings.now in
    let bs = a.bytes.now in
    let room = length a.out.now in
    let e : Event = delivery a.connection bs room in
    let q = c.min-n.ensures in
    let g = delivered_first a.connection bs room _ q c.hislip_deliver-r.ensures in
    let t = told_delivery m _ (looked e) a.out.now _ refl _ g in
    (delivered_again c.from.ensures.0 g, body_kept m e _ _ _ t _ _ _ _ _ _ (delivery_is m a.connection bs room _ q _ _ _ t) (met c.keep_delivery-told.ensures c.from.ensures.1))

-- `deliver::deliver_message` meets its contract: the prologue, the length, whether the payload is here.
use mathlib.Core.Path.{◌≡◌, refl, sym, ap, ◌∙◌}
use mathlib.Core.Bool.{true, false}
use Prim.Native.Nat.{ℕ, ◌+◌, ◌-◌}
use native.Mathlib.Omega.{arith}
use lib.ListN.{length}
use Rattle.wire.specs.declared.Header.{Header}
use Rattle.wire.specs.Message.{header, prologue, payload_of}
use Rattle.checks.specs.Verdicts.{verdict_meant}
use Rattle.sessions.specs.Did.{did_nothing, numbers_of}
use Rattle.model.specs.Interface.{Reply.took, Outcome.more_needed, delivery_answer}
use Rattle.model.specs.Scan.{Scan.wrong, Scan.long, Scan.part, Scan.whole, fresh_scan}
use Rattle.model.specs.Place.{place_of}
use Rattle.model.specs.State.{exchange_at}
use Rattle.state.specs.Search.{place_meant}
use Rattle.state.specs.View.{locks_of, memory, rest_of, view}
use Rattle.delivery.specs.Numbering.{moved_long, left_part}
use Rattle.delivery.specs.Scanning.{at_place, length_field, on_scan, only_more, scan_wrong, scan_long, scan_part, scan_whole, wrong_done, whole_done, long_done, part_done, part_more}
use Rattle.delivery.specs.Verdicts.{done_at}
use borrow.Author.Rules.{rules}
use Rattle.delivery.proofs.deliver.deliver_message.Goals as goal

pub returns-then-not-has_prologue : goal.returns-then-not-has_prologue
returns-then-not-has_prologue c = let a = c.args in
    let s = a.strings.now in
    let bs = a.bytes.now in
    let d = view (memory a.w.now s) in
    let p = c.place_of-place in
    let q = place_meant p.result in
    at_place d a.c (place_of (locks_of a.w.now s).entries a.c) q _ _ _ _ _ 0 (length bs) (fresh_scan bs) (p.ensures.found s)
    (on_scan d a.c q.slot _ _ _ _ _ 0 (length bs) q.role (fresh_scan bs) wrong
    (scan_wrong bs c.requires.1 (sym c.has_prologue.ensures ∙ c.if-not-has_prologue.true))
    (wrong_done d a.c q.slot _ _ _ _ _ 0 (length bs) q.role (rw (sym c.slot.ensures) c.send_fatal.ensures)))

pub returns-then-len-gt-PAYLOAD : goal.returns-then-len-gt-PAYLOAD
returns-then-len-gt-PAYLOAD c = let a = c.args in
    let s = a.strings.now in
    let bs = a.bytes.now in
    let d = view (memory a.w.now s) in
    let n = c.number-len in
    let el : (header bs).len ≡ n.result = length_field bs ∙ sym n.ensures.value in
    let h = c.header_at-h.result in
    let eh : h ≡ header bs = c.header_at-h.ensures in
    let en : h.len ≡ n.result = ap (λ (y : Header). y.len) eh ∙ el in
    let t : prologue bs ≡ true = sym c.has_prologue.ensures ∙ c.if-not-has_prologue.false in
    let p = c.place_of-place-then-len-gt-PAYLOAD in
    let q = place_meant p.result in
    let v = c.long_verdict_at-v in
    at_place d a.c (place_of (locks_of a.w.now s).entries a.c) q _ _ _ _ _ 0 (length bs) (fresh_scan bs) (p.ensures.found s)
    (on_scan d a.c q.slot _ _ _ _ _ 0 (length bs) q.role (fresh_scan bs) (long h)
    (scan_long bs c.requires.1 t
    (omega (arith, el, c.if-len-gt-PAYLOAD.true)) ∙ ap long (sym eh))
    (long_done d a.c q.slot _ _ _ _ _ 0 (length bs) q.role h (verdict_meant v.result) v.ensures.told
    (done_at d a.c q.slot c.slot-then-len-gt-PAYLOAD.result (long h) q.role _ _ _ _ _ (verdict_meant v.result) c.carries-moves.result c.slot-then-len-gt-PAYLOAD.ensures
    (c.apply-told.ensures q.role (long h) refl en)
    (moved_long h (exchange_at (rest_of a.w.now) q.slot) q.role _ (c.carries-moves.ensures.moves h.code h.len)))))

pub returns-in-More : goal.returns-in-More
returns-in-More c = let a = c.args in
    let s = a.strings.now in
    let bs = a.bytes.now in
    let d = view (memory a.w.now s) in
    let n = c.number-len in
    let el : (header bs).len ≡ n.result = length_field bs ∙ sym n.ensures.value in
    let h = c.header_at-h-then-bytes-end.result in
    let eh : h ≡ header bs = c.header_at-h-then-bytes-end.ensures in
    let en : h.len ≡ n.result = ap (λ (y : Header). y.len) eh ∙ el in
    let t : prologue bs ≡ true = sym c.has_prologue.ensures ∙ c.if-not-has_prologue.false in
    let p = c.place_of-place-then-bytes-end in
    let q = place_meant p.result in
    at_place d a.c (place_of (locks_of a.w.now s).entries a.c) q _ _ _ _ _ 0 (length bs) (fresh_scan bs) (p.ensures.found s)
    (on_scan d a.c q.slot _ _ _ _ _ 0 (length bs) q.role (fresh_scan bs) (part h)
    (scan_part bs c.requires.1 t (omega (arith, el, c.if-len-gt-PAYLOAD.false))
    (omega (arith, el, c.if-bytes-end.true)) ∙ ap part (sym eh))
    (part_more d a.c q.slot _ _ _ _ _ 0 (length bs) q.role h (c.in-More.ensures.told h.code h.param h.len)
    (did_nothing (16 + h.len - length bs) (took more_needed 0 0) _ _ _
    (ap numbers_of c.more_needed.ensures ∙ ap (λ (k : ℕ). delivery_answer (took more_needed 0 0) 0 (16 + k - length bs)) (sym en)))))

pub returns-then-bytes-end : goal.returns-then-bytes-end
returns-then-bytes-end c = let a = c.args in
    let s = a.strings.now in
    let bs = a.bytes.now in
    let d = view (memory a.w.now s) in
    let n = c.number-len in
    let el : (header bs).len ≡ n.result = length_field bs ∙ sym n.ensures.value in
    let h = c.header_at-h-then-bytes-end.result in
    let eh : h ≡ header bs = c.header_at-h-then-bytes-end.ensures in
    let t : prologue bs ≡ true = sym c.has_prologue.ensures ∙ c.if-not-has_prologue.false in
    let p = c.place_of-place-then-bytes-end in
    let q = place_meant p.result in
    let v = c.partial_verdict_at in
    at_place d a.c (place_of (locks_of a.w.now s).entries a.c) q _ _ _ _ _ 0 (length bs) (fresh_scan bs) (p.ensures.found s)
    (on_scan d a.c q.slot _ _ _ _ _ 0 (length bs) q.role (fresh_scan bs) (part h)
    (scan_part bs c.requires.1 t (omega (arith, el, c.if-len-gt-PAYLOAD.false))
    (omega (arith, el, c.if-bytes-end.true)) ∙ ap part (sym eh))
    (part_done d a.c q.slot _ _ _ _ _ 0 (length bs) q.role h (verdict_meant v.result) (v.ensures.told h.code h.param h.len)
    (λ z. c.in_default.not-More (only_more v.result z))
    (done_at d a.c q.slot c.slot-then-bytes-end.result (part h) q.role _ _ _ _ _ (verdict_meant v.result) false c.slot-then-bytes-end.ensures
    (c.apply-told-then-bytes-end.ensures q.role (part h) refl refl) (left_part h (exchange_at (rest_of a.w.now) q.slot) q.role))))

pub deliver_whole-requires : goal.deliver_whole-requires
deliver_whole-requires c = let bs = c.args.bytes.now in
    let n = c.number-len in
    let el : (header bs).len ≡ n.result = length_field bs ∙ sym n.ensures.value in
    let p = c.place_of-place-2 in
    (search rules, c.requires.1, omega (arith, el, c.if-len-gt-PAYLOAD.false), omega (arith, el, c.if-bytes-end.false), search rules, p.ensures.found, p.ensures.inside, p.ensures.unshown)

pub returns : goal.returns
returns c = let a = c.args in
    let s = a.strings.now in
    let bs = a.bytes.now in
    let d = view (memory a.w.now s) in
    let n = c.number-len in
    let el : (header bs).len ≡ n.result = length_field bs ∙ sym n.ensures.value in
    let t : prologue bs ≡ true = sym c.has_prologue.ensures ∙ c.if-not-has_prologue.false in
    let p = c.place_of-place-2 in
    let q = place_meant p.result in
    at_place d a.c (place_of (locks_of a.w.now s).entries a.c) q _ _ _ _ _ 0 (length bs) (fresh_scan bs) (p.ensures.found s)
    (on_scan d a.c q.slot _ _ _ _ _ 0 (length bs) q.role (fresh_scan bs) (whole (header bs) (payload_of (header bs) bs))
    (scan_whole bs c.requires.1 t (omega (arith, el, c.if-len-gt-PAYLOAD.false)) (omega (arith, el, c.if-bytes-end.false)))
    (whole_done d a.c q.slot _ _ _ _ _ 0 (length bs) q.role (header bs) (payload_of (header bs) bs) c.deliver_whole.ensures))

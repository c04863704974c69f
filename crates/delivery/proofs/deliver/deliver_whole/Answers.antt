-- `deliver::deliver_whole` meets its contract: the function for each place has it as its own, of the header read and the payload behind it.
use mathlib.Core.Path.{◌≡◌, sym, ap, subst, ◌∙◌}
use native.Mathlib.Omega.{arith}
use lib.ListN.{length-take, length-drop}
use Rattle.wire.specs.declared.Header.{Header}
use Rattle.wire.specs.Message.{header}
use Rattle.model.specs.Place.{Place, Role.r_asynchronous, Role.r_synchronous}
use Rattle.state.specs.Search.{IsWithin, place_meant}
use Rattle.state.specs.View.{memory, view}
use Rattle.delivery.specs.Acting.{second_connection_lem}
use Rattle.delivery.specs.Verdicts.{of_bytes}
use borrow.Author.Rules.{rules}
use Rattle.delivery.proofs.deliver.deliver_whole.Goals as goal

pub returns-in-OnSynchronous : goal.returns-in-OnSynchronous
returns-in-OnSynchronous c = let a = c.args in
    let x = c.header_at-h in
    rw c.in-OnSynchronous.is
    (of_bytes (view (memory a.w.now a.strings.now)) a.c c.in-OnSynchronous.i x.result a.bytes.now r_synchronous _ _ _ _ _ x.ensures c.deliver_synchronous.ensures)

pub deliver_asynchronous-requires : goal.deliver_asynchronous-requires
deliver_asynchronous-requires c = let a = c.args in
    let q = c.requires in
    let x = c.header_at-h in
    let el : (header a.bytes.now).len ≡ x.result.len = ap (λ (y : Header). y.len) (sym x.ensures) in
    let e = c.in-OnAsynchronous.is in (
      search rules,
      omega (arith, el, q.2),
      simp (length-take, length-drop) (omega (arith, el, q.3)),
      search rules,
      λ s. ap (λ (k : Place). k.slot) (q.5 s ∙ ap place_meant e),
      subst IsWithin e q.6,
      λ s. second_connection_lem a.w.now s a.c c.in-OnAsynchronous.i (q.5 s ∙ ap place_meant e),
    )

pub returns-in-OnAsynchronous : goal.returns-in-OnAsynchronous
returns-in-OnAsynchronous c = let a = c.args in
    let x = c.header_at-h in
    rw c.in-OnAsynchronous.is
    (of_bytes (view (memory a.w.now a.strings.now)) a.c c.in-OnAsynchronous.i x.result a.bytes.now r_asynchronous _ _ _ _ _ x.ensures c.deliver_asynchronous.ensures)

pub returns : goal.returns
returns c = let a = c.args in
    let x = c.header_at-h in
    let q = place_meant a.place in
    of_bytes (view (memory a.w.now a.strings.now)) a.c q.slot x.result a.bytes.now q.role _ _ _ _ _ x.ensures c.deliver_kind-told.ensures

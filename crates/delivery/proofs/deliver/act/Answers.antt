-- `deliver::act` meets its contract: each place has its function; what that requires, the verdict has tested.
use mathlib.Core.Path.{◌≡◌, subst}
use Rattle.std.specs.Prelude.{List, ℕ}
use Rattle.checks.specs.Verdicts.{message}
use Rattle.model.specs.Checks.{Verdict.v_acts, judged}
use Rattle.state.specs.declared.search.Place.{Place as Found}
use Rattle.state.specs.Search.{IsWithin, place_meant}
use Rattle.state.specs.View.{memory, view}
use Rattle.delivery.specs.Acting.{size_eight, slot_free, slot_half, slot_named}
use borrow.Author.Rules.{rules}
use Rattle.delivery.proofs.deliver.act.Goals as goal

pub act_asynchronous-requires : goal.act_asynchronous-requires
act_asynchronous-requires c = let a = c.args in
    let q = c.requires in
    let s = a.strings.now in
    let h = message a.kind a.code a.param a.len in
    let p = a.payload.now in
    let e = c.in-OnAsynchronous.is in
    let passed = subst (λ (x : Found). judged (place_meant x).role (view (memory a.w.now s)) (place_meant x).slot h p ≡ v_acts) e (q.6 s) in
    (subst IsWithin e q.4, search rules, search rules, q.2, search rules, λ k. size_eight h p passed k)

pub act_opening-requires : goal.act_opening-requires
act_opening-requires c = let a = c.args in
    let q = c.requires in
    let h = message a.kind a.code a.param a.len in
    let p = a.payload.now in
    let e = c.in-Nowhere.is in
    let passed = λ (t : List ℕ). subst (λ (x : Found). judged (place_meant x).role (view (memory a.w.now t)) (place_meant x).slot h p ≡ v_acts) e (q.6 t) in (
      search rules,
      search rules,
      search rules,
      λ t k. slot_free a.w.now t h p (passed t) k,
      λ t k. slot_named a.w.now t h p (passed t) k,
      λ t k. slot_half a.w.now t h p (passed t) k,
      q.7 e,
    )

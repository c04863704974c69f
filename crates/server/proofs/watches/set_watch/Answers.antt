-- `watches::set_watch` meets its contract: the refusals in their order, then the watch is set.
use mathlib.Core.Path.{◌≡◌, refl, sym, subst, ◌∙◌}
use mathlib.Core.Bool.{false}
use mathlib.Core.List.{[]}
use Prim.Native.Nat.{ℕ}
use Rattle.std.proofs.Common.{Result, Err}
use Rattle.readings.specs.Watch.{limits, refused}
use Rattle.model.specs.State.{slot_of_number}
use Rattle.model.specs.Interface.{Event.setting, Setting.watch}
use Rattle.state.specs.View.{memory, view}
use Rattle.exchanges.specs.Events.{watch_finishes}
use Rattle.sessions.specs.declared.refusal.Refusal.{Refusal}
use Rattle.sessions.specs.declared.refusal.Refusal.TheVariants.{NoSuchSession}
use Rattle.server.specs.Answers.{watch_nobody, watch_bad, watch_taken}
use Rattle.server.specs.Events.{Called, done_told, refused_call, taken_call, empty_buffer, empty_output}
use borrow.Author.Rules.{rules}
use Rattle.server.proofs.watches.set_watch.Goals as goal

pub returns-in_err-i : goal.returns-in_err-i
returns-in_err-i c = let a = c.args in
    let s = a.strings.now in
    let m = memory a.words.now s in
    let l = limits a.new in
    let q = c.in_err-i.ensures s in
    let e : c.from_residual.result ≡ Err NoSuchSession = search (rules, q.refused) in
    subst (λ (r : Result ℕ Refusal). Called (setting (watch a.session l)) (done_told r) m m [] []) (sym e)
    (refused_call (setting (watch a.session l)) 7 _ m []
    (watch_nobody (view m) a.session (slot_of_number (view m).locks.entries a.session) l refl q.missing) refl)

pub returns-then-is_refused : goal.returns-then-is_refused
returns-then-is_refused c = let a = c.args in
    let s = a.strings.now in
    let m = memory a.words.now s in
    let l = limits a.new in
    let q = c.in_ok-i.ensures s in
    refused_call (setting (watch a.session l)) 9 _ m [] (watch_bad (view m) a.session c.in_ok-i.i l q.found q.lives
    (sym c.is_refused.ensures ∙ c.if-is_refused.true)) refl

pub arm-requires : goal.arm-requires
arm-requires c = let a = c.args in
    let e : refused (limits a.new) ≡ false = sym c.is_refused.ensures ∙ c.if-is_refused.false in
    ((c.in_ok-i.ensures []).within, e)

pub returns : goal.returns
returns c = let a = c.args in
    let s = a.strings.now in
    let m = memory a.words.now s in
    let l = limits a.new in
    let i = c.in_ok-i.i in
    let q = c.in_ok-i.ensures s in
    let e : refused l ≡ false = sym c.is_refused.ensures ∙ c.if-is_refused.false in
    taken_call (setting (watch a.session l)) _ [] _ m _ [] [] (watch_taken (view m) a.session i l q.found q.lives e)
    (watch_finishes (view m) a.session i l q.found)
    (c.arm.ensures.0 s) (empty_buffer []) (empty_output _ refl) (c.arm.ensures.1 s)

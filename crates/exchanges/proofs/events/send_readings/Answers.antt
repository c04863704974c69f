-- `events::send_readings` meets its contract: the answer, its readings, and the request for service of a first trip.
use mathlib.Core.Path.{◌≡◌, sym, ◌∙◌}
use mathlib.Core.List.{[]}
use Prim.Native.Nat.{◌+◌, ◌≤◌}
use lib.ListN.{length}
use Rattle.exchanges.specs.Events.{answer_long, sends_answer, sends_request}
use Rattle.state.specs.View.{memory, view}
use borrow.Author.Rules.{rules}
use Rattle.exchanges.proofs.events.send_readings.Goals as goal

pub returns-then-not-sense : goal.returns-then-not-sense
returns-then-not-sense c = let a = c.args in
    let n = c.send_answer-n in
    let x = c.sense in (
      λ s. sends_answer (view (memory a.w.now s)) _ _ a.i a.«end» a.payload.now a.out.now _ n.result (n.ensures.0 s) (x.ensures.1 s)
          (sym x.ensures.0 ∙ c.if-not-sense.true),
      λ s t. x.ensures.2 s (n.ensures.1 s t),
    )

-- behind the answer there is room
pub put_request-requires : goal.put_request-requires
put_request-requires c = let a = c.args in
    let n = c.send_answer-n in
    let l : n.result ≡ 17 + length a.payload.now = answer_long (view (memory a.w.now [])) _ a.i a.«end» a.payload.now a.out.now _ n.result (n.ensures.0 []) in
    search (rules, l)

pub overflow_add-result : goal.overflow_add-result
overflow_add-result c = let a = c.args in
    let n = c.send_answer-n in
    let l : n.result ≡ 17 + length a.payload.now = answer_long (view (memory a.w.now [])) _ a.i a.«end» a.payload.now a.out.now _ n.result (n.ensures.0 []) in
    search (rules, l)

pub returns : goal.returns
returns c = let a = c.args in
    let n = c.send_answer-n in
    let x = c.sense in
    let h : 17 + length a.payload.now ≤ length a.out.now = search rules in (
      λ s. sends_request (view (memory a.w.now s)) _ _ a.i a.«end» a.payload.now a.out.now _ n.result (n.ensures.0 s) (x.ensures.1 s)
          (sym x.ensures.0 ∙ c.if-not-sense.false) _ h (c.put_request.ensures s),
      λ s t. x.ensures.2 s (n.ensures.1 s t),
    )

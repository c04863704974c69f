-- `hislip_answer` meets its contract: the refusals in their order, then the answer, sent or withheld.
use Rattle.server.specs.Answers.{answer_short_room, answer_refused, answer_call}
use mathlib.Core.Path.{refl, ◌∙◌}
use mathlib.Core.Bool.{not}
use lib.Dec.{eqb}
use lib.ListN.{length}
use Rattle.model.specs.Interface.{Event.answer}
use Rattle.model.specs.State.{slot_of_number}
use Rattle.state.specs.View.{memory, view}
use Rattle.server.specs.Events.{refused_answer, refused_by_lem}
use borrow.Author.Rules.{rules}
use Rattle.server.proofs.hislip_answer.Goals as goal

pub returns-then-out-lt-OUTPUT_MINIMUM : goal.returns-then-out-lt-OUTPUT_MINIMUM
returns-then-out-lt-OUTPUT_MINIMUM c = let a = c.args in
    let w = a.words.now in
    let s = a.strings.now in
    let m = memory w s in
    let d = view m in
    let p = a.payload.now in
    let sh = a.shown.now in
    let out = a.out.now in
    let room = length out in
    let end = not (eqb a.end 0) in
    refused_answer (answer a.session p end sh room) 6 _ m out
    (answer_short_room d a.session (slot_of_number d.locks.entries a.session) p end sh room refl c.if-out-lt-OUTPUT_MINIMUM.true) c.replied.ensures

pub returns-then-refusal-ne0 : goal.returns-then-refusal-ne0
returns-then-refusal-ne0 c = let a = c.args in
    let w = a.words.now in
    let s = a.strings.now in
    let m = memory w s in
    let d = view m in
    let p = a.payload.now in
    let sh = a.shown.now in
    let out = a.out.now in
    let room = length out in
    let end = not (eqb a.end 0) in
    let i = c.slot_of_number-i.result in
    let found = c.slot_of_number-i.ensures.1 s in
    let q = answer_refused d a.session i p end sh room found c.if-out-lt-OUTPUT_MINIMUM.false ∙ c.answer_refusal-refusal.ensures.0 s in
    refused_by_lem (answer a.session p end sh room) c.answer_refusal-refusal.result _ m out c.if-refusal-ne0.true q c.replied-then-refusal-ne0.ensures

-- not refused: the slot is one, and the payload no longer than allowed
pub give_answer-requires : goal.give_answer-requires
give_answer-requires c = let h = c.answer_refusal-refusal.ensures.1 c.if-refusal-ne0.false in
    search (rules, h.0, h.1)

pub returns : goal.returns
returns c = let a = c.args in
    let w = a.words.now in
    let s = a.strings.now in
    let m = memory w s in
    let d = view m in
    let p = a.payload.now in
    let sh = a.shown.now in
    let out = a.out.now in
    let room = length out in
    let end = not (eqb a.end 0) in
    let i = c.slot_of_number-i.result in
    let found = c.slot_of_number-i.ensures.1 s in
    let q = answer_refused d a.session i p end sh room found
    c.if-out-lt-OUTPUT_MINIMUM.false
    ∙ c.answer_refusal-refusal.ensures.0 s in
    answer_call a.session i p end sh room _ m _ out _ found (q ∙ c.if-refusal-ne0.false)
    (c.give_answer.ensures.0 s)
    (c.give_answer.ensures.1 s)

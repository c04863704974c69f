-- `watched::hislip_readings` meets its contract: no such slot, a free one, a session's, seen or not.
use borrow.Author.Tests.{not-true, not-false}
use Rattle.std.proofs.Common.{refl}
use Rattle.readings.specs.Record.{recorded}
use Rattle.model.specs.State.{at}
use Rattle.state.specs.View.{memory, view, locks_of}
use Rattle.state.specs.Search.{number_read}
use Rattle.questions.specs.Found.{not_there, not_live, is_live}
use Rattle.questions.specs.Asking.{nobody_told, none_told, some_told}
use Rattle.questions.proofs.watched.hislip_readings.Goals as goal
use Rattle.questions.proofs.watched.hislip_readings.Goals.{then-i-ge-SESSION_LIMIT-via-then-i-ge-SESSION_LIMIT, then-i-ge-SESSION_LIMIT-via-else-i-ge-SESSION_LIMIT+then-entry-eq0}

pub returns-then-i-ge-SESSION_LIMIT : goal.returns-then-i-ge-SESSION_LIMIT
returns-then-i-ge-SESSION_LIMIT c = let a = c.args in
    let w = a.words.now in
    let s = a.strings.now in
    let f = c.slot_of_number-i in
    let e = at (locks_of w s).entries f.result in
    elim c.then-i-ge-SESSION_LIMIT.branch [
      | then-i-ge-SESSION_LIMIT-via-then-i-ge-SESSION_LIMIT b ↦
          nobody_told (view (memory w s)) a.session f.result (f.ensures.1 s) _ (not_there w s f.result b.if-i-ge-SESSION_LIMIT.true) c.no_readings.ensures
      | then-i-ge-SESSION_LIMIT-via-else-i-ge-SESSION_LIMIT+then-entry-eq0 b ↦
          let r = b.entry in
          nobody_told (view (memory w s)) a.session f.result (f.ensures.1 s) _
          (not_live e r.result (number_read e r.result (r.ensures.0 s)) b.if-entry-eq0.true) c.no_readings.ensures
    ]

pub returns-then-not-told : goal.returns-then-not-told
unfolding recorded
returns-then-not-told c = let a = c.args in
    let w = a.words.now in
    let s = a.strings.now in
    let f = c.slot_of_number-i in
    let e = at (locks_of w s).entries f.result in
    let r = c.entry in
    let x = c.record_at-told in
    none_told (view (memory w s)) a.session f.result (f.ensures.1 s) _ (recorded x.result)
    (is_live e r.result (number_read e r.result (r.ensures.0 s)) c.if-entry-eq0.false) x.ensures
    (not-true _ c.if-not-told.true) c.no_readings-then-not-told.ensures

pub returns : goal.returns
unfolding recorded
returns c = let a = c.args in
    let w = a.words.now in
    let s = a.strings.now in
    let f = c.slot_of_number-i in
    let e = at (locks_of w s).entries f.result in
    let r = c.entry in
    let x = c.record_at-told in
    some_told (view (memory w s)) a.session f.result (f.ensures.1 s) _ (recorded x.result)
    (is_live e r.result (number_read e r.result (r.ensures.0 s)) c.if-entry-eq0.false) x.ensures
    (not-false _ c.if-not-told.false) refl

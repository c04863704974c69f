-- `tables::entry` meets its contract: the law of the table, at this place; a connection confirmed, test by test.
use mathlib.Core.Path.{sym, ap, ◌∙◌}
use native.Mathlib.Omega.{arith}
use Rattle.state.specs.Change.{entry_told}
use Rattle.state.specs.Confirmed.{field_number, field_free, field_past, field_stray, field_shown}
use Rattle.state.specs.View.{field_of, home_of, row_word}
use borrow.Author.Rules.{rules}
use Rattle.state.proofs.tables.entry.Goals as goal

pub returns-then-f-eq-NUMBER : goal.returns-then-f-eq-NUMBER
returns-then-f-eq-NUMBER c = let a = c.args in
    let w = a.w.now in
    entry_told w a.i a.f c.row-v.result (search rules) (search rules)
    (c.row-v.ensures ∙ ap (row_word w a.i) c.if-f-eq-NUMBER.true ∙ sym (field_number w a.i) ∙ ap (field_of w a.i) (sym c.if-f-eq-NUMBER.true))

pub returns-then-row-eq0 : goal.returns-then-row-eq0
returns-then-row-eq0 c = let a = c.args in
    let w = a.w.now in
    entry_told w a.i a.f 255 (search rules) (search rules)
    (sym (field_free w a.i a.f c.if-f-eq-NUMBER.false (sym c.row.ensures ∙ c.if-row-eq0.true)))

pub returns-then-v-ge-CONNECTION_NUMBERS : goal.returns-then-v-ge-CONNECTION_NUMBERS
returns-then-v-ge-CONNECTION_NUMBERS c = let a = c.args in
    let w = a.w.now in
    entry_told w a.i a.f 255 (search rules) (search rules)
    (sym (field_past w a.i a.f c.if-f-eq-NUMBER.false (omega (arith, c.row-v.ensures, c.if-v-ge-CONNECTION_NUMBERS.true))))

pub returns-then-home-home_in : goal.returns-then-home-home_in
returns-then-home-home_in c = let a = c.args in
    let w = a.w.now in
    let r = c.row-v.ensures in
    entry_told w a.i a.f 255 (search rules) (search rules)
    (sym (field_stray w a.i a.f c.if-f-eq-NUMBER.false
    (λ q. c.if-home-home_in.true (c.home.ensures ∙ ap (home_of w) r ∙ q ∙ sym c.home_in.ensures))))

pub returns : goal.returns
returns c = let a = c.args in
    let w = a.w.now in
    let r = c.row-v in
    entry_told w a.i a.f r.result (search rules) (search rules)
    (r.ensures
    ∙ sym (field_shown w a.i a.f c.if-f-eq-NUMBER.false
    (λ q. c.if-row-eq0.false (c.row.ensures ∙ q))
    (omega (arith, r.ensures, c.if-v-ge-CONNECTION_NUMBERS.false))
    (ap (home_of w) (sym r.ensures) ∙ sym c.home.ensures ∙ c.if-home-home_in.false ∙ c.home_in.ensures)))

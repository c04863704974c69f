-- The proof of the cycle of calls {bracket, path}: path reading and bracket reading call each other.
-- A path at n = bytes left + depth left has the measure 2n, and a bracket 2n + 1: behind "[" both have fallen, and a bracket reads its row at the same place and depth.
use Rattle.std.proofs.Common.{rules, subst, arith, ◌≡◌, ◌-◌}
use Rattle.scpi.specs.Answers.{says_yes, says_no}
use Rattle.scpi.specs.Grammar.{bad}
use Rattle.scpi.specs.Scans.{PathRead, BracketRead, path_deep, word_then, word_bad, bracket_then, bracket_bad, opened_out}
use Rattle.scpi.specs.Scans.{row_none, row_bad, row_out, row_closed, row_open, shallower, outer, not_deep}
use Rattle.scpi.proofs.checking.+bracket_path.Goals.{bracket-then-at-p-via-then-at-p, bracket-then-at-p-via-else-at-p+then-not-is_item}
use Rattle.scpi.proofs.checking.+bracket_path.Goals.{bracket-else-i-p-via-then-i-p+else-p-i-eq93, bracket-else-i-p-via-else-i-p}
use Rattle.scpi.proofs.checking.+bracket_path.Goals as goal

pub bracket-returns-then-at-p : goal.bracket-returns-then-at-p
bracket-returns-then-at-p t c = let a = c.args in
    elim c.then-at-p.branch [
      | bracket-then-at-p-via-then-at-p w ↦ opened_out (7 - a.left) a.p.now a.at w.if-at-p.true
      | bracket-then-at-p-via-else-at-p+then-not-is_item w ↦
          row_none (7 - a.left) a.p.now a.at (search rules) (says_no w.is_item.result w.is_item.ensures w.if-not-is_item.true)
    ]

pub bracket-returns-in_err-i : goal.bracket-returns-in_err-i
bracket-returns-in_err-i t c = let a = c.args in
    let e : bad c.in_err-i.field-0.0.place ≡ c.from_residual.result = search rules in
    subst (BracketRead (7 - a.left) a.p.now a.at) e
    (row_bad (7 - a.left) a.p.now a.at (search rules) (says_yes c.is_item.result c.is_item.ensures c.if-not-is_item.false) c.in_err-i.field-0.0.place
    (rw (shallower a.left (search rules)) at c.in_err-i.ensures))

pub bracket-returns-then-p-i-eq93 : goal.bracket-returns-then-p-i-eq93
bracket-returns-then-p-i-eq93 t c = let a = c.args in
    row_closed (7 - a.left) a.p.now a.at (search rules) (says_yes c.is_item.result c.is_item.ensures c.if-not-is_item.false) c.in_ok-i.i
    (rw (shallower a.left (search rules)) at c.in_ok-i.ensures) c.if-i-p.true c.if-p-i-eq93.true

pub bracket-returns-else-i-p : goal.bracket-returns-else-i-p
bracket-returns-else-i-p t c = let a = c.args in
    let item = says_yes c.is_item.result c.is_item.ensures c.if-not-is_item.false in
    let row = (rw (shallower a.left (search rules)) at c.in_ok-i.ensures) in
    elim c.else-i-p.branch [
      | bracket-else-i-p-via-then-i-p+else-p-i-eq93 w ↦ row_open (7 - a.left) a.p.now a.at (search rules) item c.in_ok-i.i row w.if-i-p.true w.if-p-i-eq93.false
      | bracket-else-i-p-via-else-i-p w ↦ row_out (7 - a.left) a.p.now a.at (search rules) item c.in_ok-i.i row w.if-i-p.false
    ]

pub path-returns-in_err-e-in-58 : goal.path-returns-in_err-e-in-58
path-returns-in_err-e-in-58 t c = let a = c.args in
    let e : bad c.in_err-e-in-58.field-0.0.place ≡ c.from_residual.result = search rules in
    subst (PathRead (8 - a.left) a.p.now a.at) e
    (word_bad (8 - a.left) a.p.now a.at (search rules) c.in-58.is c.in_err-e-in-58.field-0.0.place c.in_err-e-in-58.ensures)

pub path-returns-in_ok-e-in-58 : goal.path-returns-in_ok-e-in-58
path-returns-in_ok-e-in-58 t c = let a = c.args in
    word_then (8 - a.left) a.p.now a.at (search rules) c.in-58.is c.in_ok-e-in-58.e c.in_ok-e-in-58.ensures c.path.result c.path.ensures

pub path-returns-in-91 : goal.path-returns-in-91
path-returns-in-91 t c = let a = c.args in
    path_deep (8 - a.left) a.p.now a.at (search rules) c.in-91.is (omega arith)

pub path-returns-in_err-e-in-91-2 : goal.path-returns-in_err-e-in-91-2
path-returns-in_err-e-in-91-2 t c = let a = c.args in
    let e : bad c.in_err-e-in-91-2.field-0.0.place ≡ c.from_residual-in_err-e-in-91-2.result = search rules in
    subst (PathRead (8 - a.left) a.p.now a.at) e
    (bracket_bad (8 - a.left) a.p.now a.at (search rules) c.in-91.is (not_deep a.left c.if-left-eq0.false) c.in_err-e-in-91-2.field-0.0.place
    (rw (outer a.left (search rules) c.if-left-eq0.false) at c.in_err-e-in-91-2.ensures))

pub path-returns-in_ok-e-in-91-2 : goal.path-returns-in_ok-e-in-91-2
path-returns-in_ok-e-in-91-2 t c = let a = c.args in
    bracket_then (8 - a.left) a.p.now a.at (search rules) c.in-91.is (not_deep a.left c.if-left-eq0.false) c.in_ok-e-in-91-2.e
    (rw (outer a.left (search rules) c.if-left-eq0.false) at c.in_ok-e-in-91-2.ensures) c.path-in-91-2.result c.path-in-91-2.ensures

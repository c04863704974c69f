-- The proof of the cycle of calls {match_bracket, match_path}: path reading and bracket reading call each other.
-- A path at n = bytes left + depth left has the measure 2n, and a bracket 2n + 1: behind "[" both have fallen, and a bracket reads its row at the
-- same place and depth. The loop's invariant: what is walked from the item on is walked from the first on.
use Rattle.std.proofs.Common.{rules, arith, subst, ◌≡◌, ◌+◌, ◌-◌, ◌≤◌, ◌<◌, length, Option, None}
use Rattle.scpi.specs.Answers.{says_yes, says_no}
use Rattle.scpi.specs.Scans.{shallower, outer, not_deep}
use Rattle.commands.specs.declared.matching.Walk.{Walk}
use Rattle.commands.specs.Walks.{Walked, ItemAt, Leads, to_of, set_of, walked_bad, leads_word, leads_bracket, leads_end, item_open, bracket_close, bracket_open}
use Rattle.commands.proofs.matching.+match_bracket_match_path.Goals as goal

pub match_bracket-returns-then-not-closes : goal.match_bracket-returns-then-not-closes
match_bracket-returns-then-not-closes t c = let a = c.args in
    let w = c.in_ok-w in
    bracket_open (7 - a.left) a.p.now a.at a.c.now a.s w.w.at w.w.on (search rules)
    (rw (shallower a.left (search rules)) at w.ensures) (says_no c.closes.result c.closes.ensures c.if-not-closes.true)

pub match_bracket-returns : goal.match_bracket-returns
match_bracket-returns t c = let a = c.args in
    let w = c.in_ok-w in
    bracket_close (7 - a.left) a.p.now a.at a.c.now a.s w.w.at w.w.on (search rules)
    (rw (shallower a.left (search rules)) at w.ensures) c.union-on.result c.union-on.ensures
    (says_yes c.closes.result c.closes.ensures c.if-not-closes.false)

pub match_path-returns-in_err-w : goal.match_path-returns-in_err-w
match_path-returns-in_err-w t c = let l = c.loop-w in
    let a = c.args in
    let i : ItemAt a.left a.p.now l.w.at = says_yes c.begins_item.result c.begins_item.ensures c.loop-w-test.true in
    let n = length a.p.now + 1 in
    let leads : Leads (8 - a.left) a.p.now a.at a.c.now a.s n l.w.on = leads_word (8 - a.left) a.p.now a.at a.c.now a.s l.w.at l.w.on l.invariant.2 i.0 n l.w.on c.if-p-w-eq58.true c.in_err-w.ensures in
    let e : None ≡ c.from_residual.result = search rules in
    subst (λ (r : Option Walk). Walked (8 - a.left) a.p.now a.at a.c.now a.s (to_of a.p.now r) (set_of a.s r)) e
    (walked_bad (8 - a.left) a.p.now a.at a.c.now a.s l.w.on a.s
    (leads_end a.left a.p.now a.at a.c.now a.s n l.w.on (search rules) (omega arith) (λ x. omega (arith, x.0)) leads))

pub match_path-loop-w-preserved-then-p-w-eq58 : goal.match_path-loop-w-preserved-then-p-w-eq58
match_path-loop-w-preserved-then-p-w-eq58 t c = let l = c.loop-w in
    let a = c.args in
    let i : ItemAt a.left a.p.now l.w.at = says_yes c.begins_item.result c.begins_item.ensures c.loop-w-test.true in
    let w = c.in_ok-w in
    let n : l.w.at < w.w.at = w.ensures.onward in (
      omega (arith, l.invariant.0),
      w.ensures.inside,
      leads_word (8 - a.left) a.p.now a.at a.c.now a.s l.w.at l.w.on l.invariant.2 i.0 w.w.at w.w.on c.if-p-w-eq58.true w.ensures,
    )

pub match_path-returns-in_err-w-2 : goal.match_path-returns-in_err-w-2
match_path-returns-in_err-w-2 t c = let l = c.loop-w in
    let a = c.args in
    let i : ItemAt a.left a.p.now l.w.at = says_yes c.begins_item.result c.begins_item.ensures c.loop-w-test.true in
    let o = item_open a.left a.p.now l.w.at i c.if-p-w-eq58.false in
    let z : 0 < a.left = o.1 in
    let d : 7 - (a.left - 1) ≡ 8 - a.left = outer a.left (search rules) (λ e. omega arith) in
    let n = length a.p.now + 1 in
    let leads : Leads (8 - a.left) a.p.now a.at a.c.now a.s n l.w.on = leads_bracket (8 - a.left) a.p.now a.at a.c.now a.s l.w.at l.w.on l.invariant.2 i.0 n l.w.on o.0
    (not_deep a.left (λ e. omega arith)) (rw d at c.in_err-w-2.ensures) in
    let e : None ≡ c.from_residual-in_err-w-2.result = search rules in
    subst (λ (r : Option Walk). Walked (8 - a.left) a.p.now a.at a.c.now a.s (to_of a.p.now r) (set_of a.s r)) e
    (walked_bad (8 - a.left) a.p.now a.at a.c.now a.s l.w.on a.s
    (leads_end a.left a.p.now a.at a.c.now a.s n l.w.on (search rules) (omega arith) (λ x. omega (arith, x.0)) leads))

pub match_path-loop-w-preserved : goal.match_path-loop-w-preserved
match_path-loop-w-preserved t c = let l = c.loop-w in
    let a = c.args in
    let i : ItemAt a.left a.p.now l.w.at = says_yes c.begins_item.result c.begins_item.ensures c.loop-w-test.true in
    let w = c.in_ok-w-2 in
    let o = item_open a.left a.p.now l.w.at i c.if-p-w-eq58.false in
    let z : 0 < a.left = o.1 in
    let n : l.w.at + 1 ≤ w.w.at = w.ensures.onward in
    let d : 7 - (a.left - 1) ≡ 8 - a.left = outer a.left (search rules) (λ e. omega arith) in (
      omega (arith, l.invariant.0),
      w.ensures.inside,
      leads_bracket (8 - a.left) a.p.now a.at a.c.now a.s l.w.at l.w.on l.invariant.2 i.0 w.w.at w.w.on o.0
          (not_deep a.left (λ e. omega arith)) (rw d at w.ensures),
    )

pub match_path-returns : goal.match_path-returns
match_path-returns t c = let l = c.loop-w in
    let a = c.args in
    leads_end a.left a.p.now a.at a.c.now a.s l.w.at l.w.on (search rules) l.invariant.1
    (says_no c.begins_item.result c.begins_item.ensures c.loop-w-test.false) l.invariant.2

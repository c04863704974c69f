-- `matching::match_whole` meets its contract.
use Rattle.std.proofs.Common.{arith, sym, ◌∙◌, ◌+◌, length}
use Rattle.commands.specs.Landing.{landing_origin}
use Rattle.commands.specs.Places.{origin, origin_on}
use Rattle.commands.specs.Whole.{says_other, says_none, path_refused, matches_plain, matches_asked, matches_none}
use Rattle.commands.proofs.matching.match_whole.Goals as goal

pub returns-then-m-eq0 : goal.returns-then-m-eq0
returns-then-m-eq0 c = let a = c.args in
    path_refused a.p.now a.c.now c.requires.2 (says_none a.p.now a.c.now (sym c.if-m-eq0.true ∙ c.run_end-m.ensures.0))

pub returns-then-not-goes_on : goal.returns-then-not-goes_on
returns-then-not-goes_on c = let a = c.args in
    path_refused a.p.now a.c.now c.requires.2
    (says_other a.p.now a.c.now c.run_end-m.result c.run_end-m.ensures.0 (sym c.goes_on.ensures ∙ c.if-not-goes_on.true))

pub returns-in_default : goal.returns-in_default
returns-in_default c = let a = c.args in
    matches_none a.p.now a.c.now c.run_end-m.result c.run_end-e.result origin c.spread_on-t.result (length a.p.now + 1) c.spread_on-t.result
    c.run_end-m.ensures.0 c.run_end-e.ensures.0 c.run_end-e.ensures.1 origin_on (landing_origin _ _ a.c.now c.spread_on-t.result c.spread_on-t.ensures)
    c.in_default.ensures c.requires.0 (omega (arith, c.if-m-eq0.false)) c.requires.2 (λ x. omega arith) (λ x y. omega arith)

pub returns-then-i-p : goal.returns-then-i-p
returns-then-i-p c = let a = c.args in
    matches_plain a.p.now a.c.now c.run_end-m.result c.run_end-e.result origin c.spread_on-t.result c.in-Some.w.at c.in-Some.w.on
    c.run_end-m.ensures.0 c.run_end-e.ensures.0 c.run_end-e.ensures.1 origin_on (landing_origin _ _ a.c.now c.spread_on-t.result c.spread_on-t.ensures)
    c.in-Some.ensures c.requires.0 (omega (arith, c.if-m-eq0.false)) c.requires.2 c.if-i-p.true c.holds.result c.holds.ensures

pub returns-then-i-p-2 : goal.returns-then-i-p-2
returns-then-i-p-2 c = let a = c.args in
    matches_none a.p.now a.c.now c.run_end-m.result c.run_end-e.result origin c.spread_on-t.result c.in-Some.w.at c.in-Some.w.on
    c.run_end-m.ensures.0 c.run_end-e.ensures.0 c.run_end-e.ensures.1 origin_on (landing_origin _ _ a.c.now c.spread_on-t.result c.spread_on-t.ensures)
    c.in-Some.ensures c.requires.0 (omega (arith, c.if-m-eq0.false)) c.requires.2 c.if-i-p.false (λ x y. omega (arith, c.if-i-p-2.true))

pub returns-then-p-i-ne63 : goal.returns-then-p-i-ne63
returns-then-p-i-ne63 c = let a = c.args in
    matches_none a.p.now a.c.now c.run_end-m.result c.run_end-e.result origin c.spread_on-t.result c.in-Some.w.at c.in-Some.w.on
    c.run_end-m.ensures.0 c.run_end-e.ensures.0 c.run_end-e.ensures.1 origin_on (landing_origin _ _ a.c.now c.spread_on-t.result c.spread_on-t.ensures)
    c.in-Some.ensures c.requires.0 (omega (arith, c.if-m-eq0.false)) c.requires.2 c.if-i-p.false (λ x y. c.if-p-i-ne63.true y)

pub returns : goal.returns
returns c = let a = c.args in
    matches_asked a.p.now a.c.now c.run_end-m.result c.run_end-e.result origin c.spread_on-t.result c.in-Some.w.at c.in-Some.w.on
    c.run_end-m.ensures.0 c.run_end-e.ensures.0 c.run_end-e.ensures.1 origin_on (landing_origin _ _ a.c.now c.spread_on-t.result c.spread_on-t.ensures)
    c.in-Some.ensures c.requires.0 (omega (arith, c.if-m-eq0.false)) c.requires.2 (omega (arith, c.if-i-p-2.false)) c.if-p-i-ne63.false c.asked.result c.asked.ensures

-- `matching::step` meets its contract. The invariant: what has landed, and what will from the places that are left, is what lands.
use Rattle.scpi.specs.Words.{part}
use Rattle.commands.specs.Landing.{landing_first, landing_more, landing_last}
use Rattle.commands.proofs.matching.step.Goals as goal

pub loop-i-preserved : goal.loop-i-preserved
loop-i-preserved c = let l = c.loop-i in
    let a = c.args in
    landing_more (part a.a a.m a.p.now) (part a.a a.e a.p.now) a.c.now a.s.now l.on l.left c.without-rest.result
    c.spread-more.result c.in-Some.i c.without-rest.ensures.0 c.spread-more.ensures l.invariant

pub returns : goal.returns
returns c = let l = c.loop-i in
    let a = c.args in
    landing_last (part a.a a.m a.p.now) (part a.a a.e a.p.now) a.c.now a.s.now l.on l.left c.in_default.ensures l.invariant

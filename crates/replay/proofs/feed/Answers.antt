-- `replay::feed` meets its contract.
use mathlib.Core.Path.{refl, sym, ◌∙◌}
use borrow.Author.Tests.{eqb-true}
use Rattle.replay.proofs.Turns.{none_fed, fed_stays, all_fed, fed_more}
use Rattle.replay.proofs.feed.Goals as goal

pub loop-rest-init : goal.loop-rest-init
loop-rest-init c = (none_fed _ _ _ _ c.requires.0, refl, refl)

pub loop-rest-preserved : goal.loop-rest-preserved
loop-rest-preserved c =
    let i = c.loop-rest.invariant in (
      fed_more _ _ _ _ _ _ _ _ i.0 _ _ c.split_at.ensures.by_index.0 _ _ _ c.turn-s.ensures,
      c.turn-s.auto.out ∙ i.1,
      c.turn-s.auto.buf ∙ i.2,
    )

pub returns-after-loop-rest : goal.returns-after-loop-rest
returns-after-loop-rest c = fed_stays _ _ _ _ _ _ _ _ c.loop-rest.invariant.0 c.loop-rest-test.ensures

pub returns-else-not-is_empty : goal.returns-else-not-is_empty
returns-else-not-is_empty c = all_fed _ _ _ _ _ _ _ _ c.loop-rest.invariant.0 (eqb-true _ 0 (sym c.if-not-is_empty.ensures))

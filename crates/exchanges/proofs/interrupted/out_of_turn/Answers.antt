-- `interrupted::out_of_turn` meets its contract: by the mode.
use native.Mathlib.Omega.{arith}
use mathlib.Core.Path.{◌∙◌}
use Rattle.exchanges.specs.Interrupted.{interrupting_turn, overlap_turn}
use Rattle.state.specs.View.{memory, view}
use borrow.Author.Rules.{rules}
use Rattle.exchanges.proofs.interrupted.out_of_turn.Goals as goal

pub returns-then-is_overlap : goal.returns-then-is_overlap
returns-then-is_overlap c = let a = c.args in (
  search rules,
  λ s. overlap_turn (view (memory a.w.now s)) a.i a.id _ _ (c.set_exchange.ensures.0 s)
      (c.is_overlap.ensures ∙ c.if-is_overlap.true),
  λ s. c.set_exchange.ensures.1 s (omega arith),
)

pub returns : goal.returns
returns c = let a = c.args in
    let x = c.interrupt-end in (
      x.ensures.0,
      λ s. interrupting_turn (view (memory a.w.now s)) a.i a.id _ _ _ _ _ (x.ensures.1 s) (c.set_exchange-2.ensures.0 s)
          (c.is_overlap.ensures
          ∙ c.if-is_overlap.false),
      λ s t. c.set_exchange-2.ensures.1 s (omega arith) (x.ensures.2 s t),
    )

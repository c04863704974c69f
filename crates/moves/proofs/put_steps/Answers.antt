-- `put_steps` meets its contract: the bytes before i are in place.
use Rattle.std.proofs.Common.{List, ℕ, ◌+◌, refl, ap, ◌∙◌, arith, rules}
use Rattle.moves.specs.Moves.{moved, moved_moved, none_left, some_left}
use Rattle.moves.proofs.put_steps.Goals as goal

pub loop-i-init : goal.loop-i-init
loop-i-init c = (omega arith, omega arith, none_left _ _ _ _ _ refl)

pub loop-i-preserved : goal.loop-i-preserved
loop-i-preserved c = let l = c.loop-i in
    let a = c.args in (
      omega arith,
      omega arith,
      c.put_step.ensures
          ∙ ap (λ (z : List ℕ). moved z a.at a.src.now l.i (l.i + 16)) l.invariant.2
          ∙ moved_moved a.book.now a.at a.src.now (search rules) 0 l.i (l.i + 16) (omega arith) (omega arith) (omega arith),
    )

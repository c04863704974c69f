-- `rmt::left_by` meets its contract: a product of two flags.
use Prim.Native.Nat.{◌*◌, ◌-◌, ◌≤◌}
use lib.Dec.{eqb}
use Rattle.sessions.specs.Synchronous.{both_on, both_small}
use borrow.Author.Rules.{rules}
use Rattle.exchanges.proofs.rmt.left_by.Goals as goal

pub overflow_mul-result : goal.overflow_mul-result
overflow_mul-result c = let h : c.same_number-available.result * (1 - c.same_number-delivered.result) ≤ 1 =
    rw (c.same_number-available.ensures.0, c.same_number-delivered.ensures.0)
    (both_small (eqb c.args.word 1) (eqb c.from.result 1)) in
    search (rules, h)

pub returns : goal.returns
returns c = (
  rw (c.same_number-available.ensures.0, c.same_number-delivered.ensures.0, c.from.ensures)
      (both_on (eqb c.args.word 1) (eqb c.args.code 1)),
  rw (c.same_number-available.ensures.0, c.same_number-delivered.ensures.0) (both_small (eqb c.args.word 1) (eqb c.from.result 1)),
)

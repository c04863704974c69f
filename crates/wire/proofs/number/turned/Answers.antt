-- `number::turned` meets its contract. The invariant: so many bytes are turned round, and the others are left.
use Rattle.std.proofs.Common.{◌≡◌, refl, arith, lit<}
use Rattle.wire.specs.Field.{field, low_first}
use Rattle.wire.proofs.Numbers.{turn_more, left_more, below_more, below_fits}
use Rattle.wire.proofs.number.turned.Goals as goal

pub loop-init : goal.loop-init
unfolding low_first field
loop-init g c = (lit< tt, omega arith, refl)

pub overflow_mul-y : goal.overflow_mul-y
overflow_mul-y g c = let h = below_fits c.loop.counter c.loop.y (omega arith) c.loop.invariant.0 in omega (arith, h)

pub overflow_add-y : goal.overflow_add-y
overflow_add-y g c = let h = below_fits c.loop.counter c.loop.y (omega arith) c.loop.invariant.0 in omega (arith, h)

pub loop-preserved : goal.loop-preserved
loop-preserved g c = let l = c.loop in
    let i = l.invariant in (
      below_more l.counter l.y l.left i.0,
      left_more l.counter c.args.x l.left i.1,
      turn_more l.counter c.args.x l.y l.left i.1 i.2,
    )

-- `number::turned` meets its contract. The invariant: so many bytes are turned round, and the others are left.
use Rattle.std.proofs.Common.{◌≡◌, ◌<◌, ◌/◌, ◌^◌}
use Rattle.wire.specs.Field.{field, low_first}
use Rattle.wire.proofs.number.turned.Given as goal

abbrev pub invariant-loop : goal.invariant-loop
invariant-loop g l = (l.y < 256 ^ l.counter) × (l.left ≡ l.x / 256 ^ l.counter) × (low_first l.counter l.y ≡ field l.counter l.x)

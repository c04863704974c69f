-- `heads::triple` meets its contract: the bytes of a number are a field.
use Rattle.std.proofs.Common.{refl, ◌∙◌}
use Rattle.wire.specs.Field.{field}
use Rattle.entries.specs.Parts.{bytes_field}
use Rattle.entries.proofs.heads.triple.Goals as goal

pub returns : goal.returns
unfolding field
returns c = rw (c.from.ensures, c.to_be_bytes.ensures ∙ bytes_field c.args.x, c.to_be_bytes-2.ensures ∙ bytes_field c.args.y, c.to_be_bytes-3.ensures ∙ bytes_field c.args.z) refl

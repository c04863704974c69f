-- `heads::one` meets its contract: the bytes of a number are a field.
use Rattle.std.proofs.Common.{refl, ◌∙◌}
use Rattle.wire.specs.Field.{field}
use Rattle.entries.specs.Parts.{bytes_field}
use Rattle.entries.proofs.heads.one.Goals as goal

pub returns : goal.returns
unfolding field
returns c = rw (c.from.ensures, c.to_be_bytes.ensures ∙ bytes_field c.args.x) refl

use Rattle.std.proofs.Common.{refl}
use Rattle.schema.specs.Messages.{profile, scope, resource}
use Rattle.operations.proofs.Renumbered.{parts-outline}
use Rattle.operations.proofs.outlines_give_parts.Goals as goal

pub returns : goal.returns
returns c v ms = parts-outline v resource scope profile refl refl ms

use Rattle.std.proofs.Common.{arith}
use Rattle.schema_laws.proofs.Types.{typed_any_read_back}
use Rattle.any_value.specs.Views.{any_view}
use Rattle.any_value.proofs.writing.encode_value.Goals as goal

pub returns-clause-back : goal.returns-clause-back
returns-clause-back c = typed_any_read_back (any_view c.args.value.now) c.in_default.ensures.typed (omega (arith, c.requires))

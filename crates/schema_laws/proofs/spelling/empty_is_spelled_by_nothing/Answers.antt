use Rattle.std.proofs.Common.{ap, length}
use Rattle.schema_laws.proofs.GrowthOfLists.{spells_nothing}
use Rattle.schema_laws.proofs.spelling.empty_is_spelled_by_nothing.Goals as goal

pub returns : goal.returns
returns c = λ s. ap length (spells_nothing s)

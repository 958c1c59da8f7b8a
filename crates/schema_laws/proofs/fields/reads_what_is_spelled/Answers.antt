use Rattle.std.proofs.Common.{subst}
use Rattle.schema.specs.Spelling.{Spells}
use Rattle.schema_laws.proofs.FieldLists.{traced, spelled, placed, unplaced}
use Rattle.schema_laws.proofs.fields.reads_what_is_spelled.Goals as goal

pub returns : goal.returns
returns c = record {
  traced = λ base bytes ps. (spelled base bytes ps, traced ps base bytes);
  places = λ base bytes fs. (placed fs base bytes, λ r. subst (Spells bytes) r.2 (unplaced r.0 base bytes r.1));
}

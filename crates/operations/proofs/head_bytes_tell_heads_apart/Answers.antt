use Rattle.std.proofs.Common.{refl}
use Rattle.schema.specs.Messages.{scope, resource, scope_profiles}
use Rattle.schema_laws.proofs.Lawfulness.{lawful_from}
use Rattle.operations.specs.Heads.{head_shape}
use Rattle.operations.proofs.Apart.{same-texts, same-heads, record-head}
use Rattle.operations.proofs.head_bytes_tell_heads_apart.Goals as goal

pub returns : goal.returns
returns c = record {
  resources = λ r s a b. (same-heads resource r s, λ e. same-texts resource tt (lawful_from (head_shape resource) refl) r s a b e.0 e.1);
  scopes = λ r s a b. (same-heads scope r s, λ e. same-texts scope tt (lawful_from (head_shape scope) refl) r s a b e.0 e.1);
  records = record-head resource scope_profiles;
}

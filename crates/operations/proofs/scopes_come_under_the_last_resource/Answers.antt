use Rattle.std.proofs.Common.{refl, ◌++◌}
use Rattle.parts.specs.Records.{held}
use Rattle.operations.specs.Seams.{same_head, joined_under}
use Rattle.operations.proofs.Joining.{held-holding, joining-none, joining-between}
use Rattle.operations.proofs.scopes_come_under_the_last_resource.Goals as goal

pub returns : goal.returns
returns c = record {
  first = λ b. refl;
  last = joining-none same_head joined_under;
  between = joining-between same_head joined_under;
  resource_head = λ r s. refl;
  scopes = λ r s. held-holding r (held r ++ held s);
}

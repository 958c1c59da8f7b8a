use Rattle.operations.proofs.HeadPlaces.{flat-placed, same-resource, same-scope, resource-head, scope-head}
use Rattle.operations.proofs.places_tell_heads.Goals as goal

pub returns : goal.returns
returns c = record {
  placed = flat-placed;
  resources = same-resource;
  scopes = same-scope;
  heads = λ rs e h. (resource-head rs e h, scope-head rs e h);
}

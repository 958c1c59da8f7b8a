use Rattle.std.proofs.Common.{ap}
use Rattle.operations.specs.Flat.{FlatProfile}
use Rattle.draft_contents.proofs.FlatPositions.{alone_means, element_there, index_within}
use Rattle.draft_contents.proofs.laws.one_profile_is_an_element.Goals as goal

pub returns : goal.returns
returns c = record {
  within = index_within;
  resource_place = λ m pos e i. ap (λ (x : FlatProfile). x.resource_place) (element_there m pos i e);
  scope_place = λ m pos e i. ap (λ (x : FlatProfile). x.scope_place) (element_there m pos i e);
  means = λ m pos e i. alone_means m pos i e;
}

use Rattle.std.proofs.Common.{List, None, Some, map, subst, take}
use Rattle.schema.specs.Messages.{scope_profiles}
use Rattle.schema.specs.Shape.{Value}
use Rattle.otlp_msg.specs.Message.{profiles_in_scopes}
use Rattle.prof_rec.specs.Views.{resource_profiles_view}
use Rattle.split_merge.specs.Places.{IsScopeOf, profiles_in_records}
use Rattle.split_merge.proofs.Numbers.{below_seen, first_numbers, none_here, scopes_of}
use Rattle.split_merge.proofs.places.first_position.Goals as goal

pub returns-in-Some : goal.returns-in-Some
returns-in-Some c =
    let records = c.args.records.now in
    let rs = map resource_profiles_view records in
    let at = c.loop-resource.resource in
    let e = scopes_of records at c.loop-resource-test.true c.index-records-resource.result c.index-records-resource.is c.as_slice.result.now c.as_slice.ensures in
    let s = subst (λ (ss : List (Value scope_profiles)). IsScopeOf ss (profiles_in_scopes (take 0 ss)) (Some c.in-Some.scope)) e c.in-Some.ensures in
    c.position.ensures rs (profiles_in_records (take c.args.from rs))
    (first_numbers rs c.args.from at (below_seen resource_profiles_view records at c.loop-resource-test.true) c.loop-resource.invariant c.in-Some.scope s)

pub loop-resource-preserved : goal.loop-resource-preserved
loop-resource-preserved c =
    let records = c.args.records.now in
    let rs = map resource_profiles_view records in
    let at = c.loop-resource.resource in
    let e = scopes_of records at c.loop-resource-test.true c.index-records-resource.result c.index-records-resource.is c.as_slice.result.now c.as_slice.ensures in
    let s = subst (λ (ss : List (Value scope_profiles)). IsScopeOf ss (profiles_in_scopes (take 0 ss)) None) e c.in_default.ensures in
    none_here rs c.args.from at (below_seen resource_profiles_view records at c.loop-resource-test.true) c.loop-resource.invariant s

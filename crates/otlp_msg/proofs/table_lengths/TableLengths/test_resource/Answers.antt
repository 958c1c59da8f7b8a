use Rattle.std.proofs.Common.{map, refl, ◌∙◌}
use Rattle.schema.specs.Messages.{scope_profiles}
use Rattle.prof_rec.specs.Views.{scope_profiles_view}
use Rattle.otlp_msg.specs.Lengths.{lengths_view}
use Rattle.otlp_msg.specs.Walk.{scope_spots, within}
use Rattle.otlp_msg.proofs.Places.{placed_at}
use Rattle.otlp_msg.proofs.Walks.{each_walked, goes_on_seen, stops_seen, ends_seen}
use Rattle.otlp_msg.proofs.table_lengths.TableLengths.test_resource.Goals as goal

pub test_scope-requires : goal.test_scope-requires
test_scope-requires c =
    placed_at scope_profiles scope_profiles_view c.args.group.now.scope_profiles c.as_slice-element-items.result.now c.loop-scope.scope c.element-item.result c.as_slice-element-items.ensures c.requires.1.1 c.loop-scope-test.true c.element-item.is

pub returns-in-Err : goal.returns-in-Err
returns-in-Err c =
    let len = lengths_view c.args.self.now in
    let spots_of = scope_spots c.args.resource in
    let scopes = c.args.group.now.scope_profiles in
    stops_seen (λ i v. within len (spots_of i v)) scope_profiles_view scopes c.as_slice-element-items.result.now
    c.loop-scope.scope c.element-item.result c.test_scope.result c.in-Err.refusal c.as_slice-element-items.ensures c.loop-scope-test.true c.element-item.is c.loop-scope.invariant
    c.test_scope.ensures c.in-Err.is
    ∙ each_walked len (λ i v. within len (spots_of i v)) spots_of (λ i v. refl) 0 (map scope_profiles_view scopes)

pub loop-scope-preserved : goal.loop-scope-preserved
loop-scope-preserved c =
    goes_on_seen (λ i v. within (lengths_view c.args.self.now) (scope_spots c.args.resource i v)) scope_profiles_view c.as_slice-element-items.result.now
    c.loop-scope.scope c.element-item.result c.test_scope.result c.loop-scope-test.true c.element-item.is c.loop-scope.invariant c.test_scope.ensures c.in_default.is

pub returns : goal.returns
returns c =
    let len = lengths_view c.args.self.now in
    let spots_of = scope_spots c.args.resource in
    let scopes = c.args.group.now.scope_profiles in
    ends_seen (λ i v. within len (spots_of i v)) scope_profiles_view scopes c.as_slice-element-items.result.now
    c.loop-scope.scope c.as_slice-element-items.ensures c.loop-scope-test.false c.loop-scope.invariant
    ∙ each_walked len (λ i v. within len (spots_of i v)) spots_of (λ i v. refl) 0 (map scope_profiles_view scopes)

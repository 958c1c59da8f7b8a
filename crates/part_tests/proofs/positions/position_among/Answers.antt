use Rattle.std.proofs.Common.{◌<◌, List, arith, get_or, length, subst}
use Rattle.schema.specs.Messages.{scope_profiles}
use Rattle.schema.specs.Shape.{Value, empty}
use Rattle.prof_rec.specs.Views.{resource_profiles_view, scope_profiles_view}
use Rattle.split_merge.proofs.Numbers.{below_seen, profiles_of_scope, scopes_of}
use Rattle.part_tests.proofs.positions.position_among.Goals as goal

pub returns : goal.returns
returns c =
    let records = c.args.records.now in
    let pos = c.args.pos in
    let scopes = c.as_slice-scopes.result.now in
    let a : pos.resource < length records = omega (arith, c.if-resource-records.false) in
    let b : pos.scope < length scopes = omega (arith, c.if-scope-scopes.false) in
    let e = scopes_of records pos.resource a c.index-records-resource.result c.index-records-resource.is scopes c.as_slice-scopes.ensures in
    let n = profiles_of_scope scopes pos.scope b c.index-scopes-scope.result c.index-scopes-scope.is in
    record {
      resource = below_seen resource_profiles_view records pos.resource a;
      scope = subst (λ (ss : List (Value scope_profiles)). pos.scope < length ss) e (below_seen scope_profiles_view scopes pos.scope b);
      profile = subst (λ (ss : List (Value scope_profiles)). pos.profile < length (get_or ss pos.scope (empty scope_profiles)).1.0) e (omega (arith, n, c.len.ensures, c.if-pos-len.false));
    }

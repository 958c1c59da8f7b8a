use Rattle.std.proofs.Common.{◌+◌, ◌<◌, ◌≤◌, IfOk, List, None, Some, arith, length, map, subst, sym, take}
use Rattle.schema.specs.Messages.{scope_profiles}
use Rattle.schema.specs.Shape.{Value}
use Rattle.otlp_msg.specs.Message.{profiles_in_scopes}
use Rattle.prof_rec.specs.Views.{resource_profiles_view}
use Rattle.draft_contents.specs.Singles.{flat_index, scope_at}
use Rattle.split_merge.specs.Places.{IsPositionOf, IsScopeOf}
use Rattle.split_merge.proofs.Numbers.{next_profile, next_record, next_scope, profiles_here, scope_below, scopes_are}
use Rattle.split_merge.proofs.places.next_position.Goals as goal

pub bounds-scopes-scope : goal.bounds-scopes-scope
bounds-scopes-scope c =
    scope_below c.args.records.now c.args.pos c.requires c.index-records-resource.result c.index-records-resource.is c.as_slice-scopes.result.now c.as_slice-scopes.ensures

pub returns-then-profile-len : goal.returns-then-profile-len
returns-then-profile-len c =
    let rs = map resource_profiles_view c.args.records.now in
    let pos = c.args.pos in
    let n =
    profiles_here c.args.records.now pos c.requires c.index-records-resource.result c.index-records-resource.is c.as_slice-scopes.result.now c.as_slice-scopes.ensures
    c.index-scopes-scope.result c.index-scopes-scope.is in
    let l : pos.profile + 1 < length (scope_at rs pos).1.0 = omega (arith, n, c.len.ensures, c.if-profile-len.true) in
    c.position.ensures rs (flat_index rs pos + 1) (next_profile rs pos c.requires l)

pub returns-in-Some : goal.returns-in-Some
returns-in-Some c =
    let rs = map resource_profiles_view c.args.records.now in
    let pos = c.args.pos in
    let n =
    profiles_here c.args.records.now pos c.requires c.index-records-resource.result c.index-records-resource.is c.as_slice-scopes.result.now c.as_slice-scopes.ensures
    c.index-scopes-scope.result c.index-scopes-scope.is in
    let l : length (scope_at rs pos).1.0 ≤ pos.profile + 1 = omega (arith, n, c.len.ensures, c.if-profile-len.false) in
    let e = scopes_are c.args.records.now pos c.requires c.index-records-resource.result c.index-records-resource.is c.as_slice-scopes.result.now c.as_slice-scopes.ensures in
    let s = subst (λ (ss : List (Value scope_profiles)). IsScopeOf ss (profiles_in_scopes (take (pos.scope + 1) ss)) (Some c.in-Some.next)) (sym e) c.in-Some.ensures in
    c.position-in-Some.ensures rs (flat_index rs pos + 1) (next_scope rs pos c.requires c.in-Some.next l s)

pub returns-in-None : goal.returns-in-None
returns-in-None c =
    let rs = map resource_profiles_view c.args.records.now in
    let pos = c.args.pos in
    let n =
    profiles_here c.args.records.now pos c.requires c.index-records-resource.result c.index-records-resource.is c.as_slice-scopes.result.now c.as_slice-scopes.ensures
    c.index-scopes-scope.result c.index-scopes-scope.is in
    let l : length (scope_at rs pos).1.0 ≤ pos.profile + 1 = omega (arith, n, c.len.ensures, c.if-profile-len.false) in
    let e = scopes_are c.args.records.now pos c.requires c.index-records-resource.result c.index-records-resource.is c.as_slice-scopes.result.now c.as_slice-scopes.ensures in
    let s = subst (λ (ss : List (Value scope_profiles)). IsScopeOf ss (profiles_in_scopes (take (pos.scope + 1) ss)) None) (sym e) c.in-None.ensures in
    subst (λ n. IfOk c.first_position.result (IsPositionOf rs n)) (next_record rs pos c.requires l s) c.first_position.ensures

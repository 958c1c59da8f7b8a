use Rattle.std.proofs.Common.{◌≡◌, ◌∙◌, length, map, sym}
use Rattle.std.proofs.lemmas.Bool.{eqb-true}
use Rattle.prof_rec.specs.Views.{scope_profiles_view}
use Rattle.split_merge.proofs.Numbers.{below_seen, empty_scope, profiles_of_scope}
use Rattle.split_merge.proofs.places.first_scope.Goals as goal

pub loop-scope-preserved : goal.loop-scope-preserved
loop-scope-preserved c =
    let scopes = c.args.scopes.now in
    let at = c.loop-scope.scope in
    let s = c.index-scopes-scope.result in
    let none : length s.profiles ≡ 0 = eqb-true (length s.profiles) 0 (sym c.is_empty.ensures ∙ c.if-not-is_empty.false) in
    empty_scope (map scope_profiles_view scopes) c.args.from at (below_seen scope_profiles_view scopes at c.loop-scope-test.true)
    (profiles_of_scope scopes at c.loop-scope-test.true s c.index-scopes-scope.is ∙ none) c.loop-scope.invariant

use Rattle.std.proofs.Common.{◌≡◌, map, take}
use Rattle.prof_rec.specs.Views.{scope_profiles_view}
use Rattle.otlp_msg.specs.Message.{profiles_in_scopes}
use Rattle.split_merge.proofs.places.first_scope.Given as goal

abbrev pub invariant-loop-scope : goal.invariant-loop-scope
invariant-loop-scope l =
    profiles_in_scopes (take l.scope (map scope_profiles_view l.scopes)) ≡ profiles_in_scopes (take l.from (map scope_profiles_view l.scopes))

use Rattle.std.proofs.Common.{sym, subst}
use Rattle.schema.specs.Messages.{resource_profiles}
use Rattle.meaning.specs.Canonical.{records as records_of}
use Rattle.prof_rec.specs.Views.{profile_view, resource_profiles_view, scope_profiles_view}
use Rattle.renumber.specs.Entries.{IsPart}
use Rattle.renumber.specs.Walk.{WalkedEach}
use Rattle.renumber.proofs.Parts.{part_rows}
use Rattle.draft_contents.specs.Singles.{coming}
use Rattle.draft_contents.specs.declared.incoming.Incoming.{Incoming}
use Rattle.draft_contents.proofs.Alone.{alone_walked, profile_part}
use Rattle.draft_contents.proofs.incoming.walk_over.Goals as goal

pub each-requires : goal.each-requires
each-requires g c =
    (part_rows c.args.walk.now.source _ (subst (λ (x : Incoming). IsPart (records_of resource_profiles) c.args.walk.now.source (coming x, tt)) c.in-Records.is c.requires)).0

pub meet-requires : goal.meet-requires
meet-requires g c =
    let s = c.in-Profile.single in
    profile_part c.args.walk.now.source (resource_profiles_view s.resource.now) (scope_profiles_view s.scope.now) (profile_view s.profile.now)
    (subst (λ (x : Incoming). IsPart (records_of resource_profiles) c.args.walk.now.source (coming x, tt)) c.in-Profile.is c.requires)

pub returns-in_ok-meet-in-Profile-clause-walked : goal.returns-in_ok-meet-in-Profile-clause-walked
returns-in_ok-meet-in-Profile-clause-walked g c =
    let s = c.in-Profile.single in
    subst (λ (x : Incoming). WalkedEach resource_profiles c.args.walk.now c.meet.new.walk (coming x)) (sym c.in-Profile.is)
    (alone_walked c.args.walk.now c.meet.new.walk (resource_profiles_view s.resource.now) (scope_profiles_view s.scope.now) (profile_view s.profile.now)
    c.in_ok-meet-in-Profile.ensures.walked)

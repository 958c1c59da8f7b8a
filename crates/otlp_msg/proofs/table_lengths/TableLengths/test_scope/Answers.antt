use Rattle.std.proofs.Common.{map, refl, ◌∙◌}
use Rattle.schema.specs.Messages.{profile}
use Rattle.prof_rec.specs.Views.{profile_view}
use Rattle.otlp_msg.specs.declared.path.Holder.TheVariants as holder
use Rattle.otlp_msg.specs.Lengths.{lengths_view}
use Rattle.otlp_msg.specs.Walk.{profile_spots, within}
use Rattle.otlp_msg.proofs.Places.{placed_at}
use Rattle.otlp_msg.proofs.Walks.{each_walked, goes_on_seen, stops_seen, ends_seen, value_walked}
use Rattle.otlp_msg.proofs.table_lengths.TableLengths.test_scope.Goals as goal

pub indexes_within-requires : goal.indexes_within-requires
indexes_within-requires c =
    placed_at profile profile_view c.args.group.now.profiles c.as_slice-element-items.result.now c.loop-profile.profile c.element-item.result c.as_slice-element-items.ensures c.requires.1.1 c.loop-profile-test.true c.element-item.is

pub returns-in-Err : goal.returns-in-Err
returns-in-Err c =
    let len = lengths_view c.args.self.now in
    let spots_of = profile_spots c.args.resource c.args.scope in
    let profiles = c.args.group.now.profiles in
    stops_seen (λ i v. within len (spots_of i v)) profile_view profiles c.as_slice-element-items.result.now
    c.loop-profile.profile c.element-item.result c.indexes_within.result c.in-Err.refusal c.as_slice-element-items.ensures c.loop-profile-test.true c.element-item.is c.loop-profile.invariant
    (c.indexes_within.ensures ∙ value_walked profile len (holder.Profile (record { resource = c.args.resource; scope = c.args.scope; profile = c.loop-profile.profile })) (profile_view c.element-item.result)) c.in-Err.is
    ∙ each_walked len (λ i v. within len (spots_of i v)) spots_of (λ i v. refl) 0 (map profile_view profiles)

pub loop-profile-preserved : goal.loop-profile-preserved
loop-profile-preserved c =
    let len = lengths_view c.args.self.now in
    goes_on_seen (λ i v. within len (profile_spots c.args.resource c.args.scope i v)) profile_view c.as_slice-element-items.result.now
    c.loop-profile.profile c.element-item.result c.indexes_within.result c.loop-profile-test.true c.element-item.is c.loop-profile.invariant
    (c.indexes_within.ensures ∙ value_walked profile len (holder.Profile (record { resource = c.args.resource; scope = c.args.scope; profile = c.loop-profile.profile })) (profile_view c.element-item.result)) c.in_default.is

pub returns : goal.returns
returns c =
    let len = lengths_view c.args.self.now in
    let spots_of = profile_spots c.args.resource c.args.scope in
    let profiles = c.args.group.now.profiles in
    ends_seen (λ i v. within len (spots_of i v)) profile_view profiles c.as_slice-element-items.result.now
    c.loop-profile.profile c.as_slice-element-items.ensures c.loop-profile-test.false c.loop-profile.invariant
    ∙ each_walked len (λ i v. within len (spots_of i v)) spots_of (λ i v. refl) 0 (map profile_view profiles)

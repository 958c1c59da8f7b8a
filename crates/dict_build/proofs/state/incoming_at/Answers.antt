use Rattle.std.proofs.Common.{◌≡◌, List, map, subst}
use Rattle.prof_rec.specs.declared.resource_profiles.ResourceProfiles.{ResourceProfiles}
use Rattle.prof_rec.specs.Views.{resource_profiles_view}
use Rattle.otlp_msg.specs.Checked.{value_of}
use Rattle.draft_contents.specs.Singles.{record_alone, single_record}
use Rattle.dict_build.proofs.Going.{one_coming, one_fits, one_part}
use Rattle.dict_build.proofs.state.incoming_at.Goals as goal

pub returns-clause-coming : goal.returns-clause-coming
returns-clause-coming c =
    let f = c.message-found in
    let single = subst (λ (rs : List ResourceProfiles). single_record c.single_at-single.result ≡ record_alone (map resource_profiles_view rs) c.args.pos) c.as_slice.ensures c.single_at-single.ensures in
    one_coming f.result.now (value_of c.args.message.now) f.ensures.value f.ensures.zeros f.ensures.entries f.ensures.records f.ensures.fits f.ensures.short c.args.pos c.requires
    (single_record c.single_at-single.result) single

pub returns-clause-part : goal.returns-clause-part
returns-clause-part c =
    let f = c.message-found in
    let single = subst (λ (rs : List ResourceProfiles). single_record c.single_at-single.result ≡ record_alone (map resource_profiles_view rs) c.args.pos) c.as_slice.ensures c.single_at-single.ensures in
    one_part f.result.now (value_of c.args.message.now) f.ensures.value f.ensures.zeros f.ensures.entries f.ensures.records f.ensures.fits f.ensures.short c.args.pos c.requires
    (single_record c.single_at-single.result) single

pub returns-clause-fits : goal.returns-clause-fits
returns-clause-fits c =
    let f = c.message-found in
    let single = subst (λ (rs : List ResourceProfiles). single_record c.single_at-single.result ≡ record_alone (map resource_profiles_view rs) c.args.pos) c.as_slice.ensures c.single_at-single.ensures in
    one_fits f.result.now (value_of c.args.message.now) f.ensures.value f.ensures.zeros f.ensures.entries f.ensures.records f.ensures.fits f.ensures.short c.args.pos c.requires
    (single_record c.single_at-single.result) single

use Rattle.std.proofs.Common.{ap, ◌∙◌, map, sym}
use Rattle.otlp_msg.specs.Message.{Message, records_of}
use Rattle.prof_rec.specs.Views.{resource_profiles_view}
use Rattle.split_merge.proofs.AllProfiles.{none_in_message}
use Rattle.split_merge.proofs.places.first_from.Goals as goal

pub loop-message-preserved : goal.loop-message-preserved
loop-message-preserved c =
    let x = c.index-messages-message.result in
    none_in_message c.args.messages.now c.args.from c.loop-message.message c.loop-message-test.true x c.index-messages-message.is (map resource_profiles_view c.as_slice.result.now)
    (ap (map resource_profiles_view) c.as_slice.ensures ∙ ap (λ (m : Message). records_of m) c.message-found.ensures.value) c.in-Ok.first c.in_default.is c.in-Ok.ensures c.loop-message.invariant

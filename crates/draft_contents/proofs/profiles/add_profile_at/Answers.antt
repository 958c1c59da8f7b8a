use Rattle.std.proofs.Common.{subst, IfErr, OnOk}
use Rattle.otlp_msg.specs.Checked.{value_of}
use Rattle.otlp_msg.specs.Message.{Message, message_limit}
use Rattle.draft_contents.specs.Contents.{contents}
use Rattle.draft_contents.specs.Draft.{IsFaultOfPlaced, StandsForPlaced}
use Rattle.draft_contents.specs.Singles.{single_record}
use Rattle.draft_contents.proofs.Drafts.{found_alone, found_message, found_source, single_part, single_records}
use Rattle.draft_contents.proofs.profiles.add_profile_at.Goals as goal

pub add_within_limit-requires-clause-source : goal.add_within_limit-requires-clause-source
add_within_limit-requires-clause-source g c =
    (found_source c.as_slice.result.now c.message-found.result.now (value_of c.args.message.now)
    (found_message c.as_slice.result.now c.message-found.result.now (value_of c.args.message.now) c.as_slice.ensures c.message-found.ensures.value) c.message-found.ensures.zeros
    c.message-found.ensures.entries c.message-found.ensures.records c.message-found.ensures.fits c.message-found.ensures.short).0

pub add_within_limit-requires-clause-parts : goal.add_within_limit-requires-clause-parts
add_within_limit-requires-clause-parts g c =
    single_records c.as_slice.result.now c.message-found.result.now (value_of c.args.message.now)
    (found_message c.as_slice.result.now c.message-found.result.now (value_of c.args.message.now) c.as_slice.ensures c.message-found.ensures.value) c.message-found.ensures.zeros
    c.message-found.ensures.entries c.message-found.ensures.records c.message-found.ensures.fits c.message-found.ensures.short c.args.pos (single_record c.single_at-single.result)
    c.requires.position c.single_at-single.ensures

pub add_within_limit-requires-clause-fits : goal.add_within_limit-requires-clause-fits
add_within_limit-requires-clause-fits g c =
    (single_part c.as_slice.result.now c.message-found.result.now (value_of c.args.message.now)
    (found_message c.as_slice.result.now c.message-found.result.now (value_of c.args.message.now) c.as_slice.ensures c.message-found.ensures.value) c.message-found.ensures.zeros
    c.message-found.ensures.entries c.message-found.ensures.records c.message-found.ensures.fits c.message-found.ensures.short c.args.pos (single_record c.single_at-single.result)
    c.requires.position c.single_at-single.ensures).fits

pub returns-clause-ok : goal.returns-clause-ok
returns-clause-ok g c =
    subst
    (λ (m : Message). OnOk c.add_within_limit.result
    (StandsForPlaced c.args.joining (contents c.args.tables.now c.args.records.now) (contents c.add_within_limit.new.tables c.add_within_limit.new.records) m))
    (found_alone c.as_slice.result.now c.message-found.result.now (value_of c.args.message.now) c.args.pos (single_record c.single_at-single.result)
    (found_message c.as_slice.result.now c.message-found.result.now (value_of c.args.message.now) c.as_slice.ensures c.message-found.ensures.value) c.single_at-single.ensures)
    c.add_within_limit.ensures.ok

pub returns-clause-fault : goal.returns-clause-fault
returns-clause-fault g c =
    subst (λ (m : Message). IfErr c.add_within_limit.result (IsFaultOfPlaced message_limit c.args.joining (contents c.args.tables.now c.args.records.now) m))
    (found_alone c.as_slice.result.now c.message-found.result.now (value_of c.args.message.now) c.args.pos (single_record c.single_at-single.result)
    (found_message c.as_slice.result.now c.message-found.result.now (value_of c.args.message.now) c.as_slice.ensures c.message-found.ensures.value) c.single_at-single.ensures)
    c.add_within_limit.ensures.fault

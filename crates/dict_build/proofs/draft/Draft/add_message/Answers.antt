use Rattle.std.proofs.Common.{subst, IfErr, OnOk}
use Rattle.otlp_msg.specs.Checked.{value_of}
use Rattle.otlp_msg.specs.Message.{Message}
use Rattle.draft_contents.specs.Contents.{contents}
use Rattle.draft_contents.specs.Draft.{IsFaultOfJoined, StandsForJoined}
use Rattle.draft_contents.specs.declared.incoming.Joining.TheVariants.{Seam}
use Rattle.draft_contents.proofs.Drafts.{found_fits, found_message, found_source, still_stands}
use Rattle.dict_build.proofs.draft.Draft.add_message.Goals as goal

pub add_within_limit-requires-clause-source : goal.add_within_limit-requires-clause-source
add_within_limit-requires-clause-source g c =
    (found_source c.as_slice.result.now c.message-found.result.now (value_of c.args.message.now)
    (found_message c.as_slice.result.now c.message-found.result.now (value_of c.args.message.now) c.as_slice.ensures c.message-found.ensures.value) c.message-found.ensures.zeros
    c.message-found.ensures.entries c.message-found.ensures.records c.message-found.ensures.fits c.message-found.ensures.short).0

pub add_within_limit-requires-clause-parts : goal.add_within_limit-requires-clause-parts
add_within_limit-requires-clause-parts g c =
    (found_source c.as_slice.result.now c.message-found.result.now (value_of c.args.message.now)
    (found_message c.as_slice.result.now c.message-found.result.now (value_of c.args.message.now) c.as_slice.ensures c.message-found.ensures.value) c.message-found.ensures.zeros
    c.message-found.ensures.entries c.message-found.ensures.records c.message-found.ensures.fits c.message-found.ensures.short).1

pub add_within_limit-requires-clause-fits : goal.add_within_limit-requires-clause-fits
add_within_limit-requires-clause-fits g c =
    found_fits c.as_slice.result.now c.message-found.result.now (value_of c.args.message.now)
    (found_message c.as_slice.result.now c.message-found.result.now (value_of c.args.message.now) c.as_slice.ensures c.message-found.ensures.value) c.message-found.ensures.fits

pub returns-clause-ok : goal.returns-clause-ok
returns-clause-ok g c =
    rw (← c.self.view_is)
    (subst
    (λ (m : Message). OnOk c.add_within_limit.result
    (StandsForJoined (contents c.self.inside.tables c.self.inside.records) (contents c.add_within_limit.new.tables c.add_within_limit.new.records) m))
    (found_message c.as_slice.result.now c.message-found.result.now (value_of c.args.message.now) c.as_slice.ensures c.message-found.ensures.value) c.add_within_limit.ensures.ok)

pub returns-clause-fault : goal.returns-clause-fault
returns-clause-fault g c =
    rw (← c.self.view_is)
    (subst (λ (m : Message). IfErr c.add_within_limit.result (IsFaultOfJoined (contents c.self.inside.tables c.self.inside.records) m))
    (found_message c.as_slice.result.now c.message-found.result.now (value_of c.args.message.now) c.as_slice.ensures c.message-found.ensures.value) c.add_within_limit.ensures.fault)

pub invariant_of-self : goal.invariant_of-self
invariant_of-self g c =
    still_stands c.add_within_limit.result Seam (contents c.self.inside.tables c.self.inside.records) (contents c.add_within_limit.new.tables c.add_within_limit.new.records)
    (value_of c.args.message.now) c.self.invariant (subst
    (λ (m : Message). OnOk c.add_within_limit.result
    (StandsForJoined (contents c.self.inside.tables c.self.inside.records) (contents c.add_within_limit.new.tables c.add_within_limit.new.records) m))
    (found_message c.as_slice.result.now c.message-found.result.now (value_of c.args.message.now) c.as_slice.ensures c.message-found.ensures.value) c.add_within_limit.ensures.ok)
    c.add_within_limit.ensures.same

pub returns-clause-same : goal.returns-clause-same
returns-clause-same g c = rw (← c.self.view_is) c.add_within_limit.ensures.same

pub returns-clause-grown : goal.returns-clause-grown
returns-clause-grown g c = rw (← c.self.view_is) c.add_within_limit.ensures.grown

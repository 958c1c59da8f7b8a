use Rattle.std.proofs.Common.{◌≡◌, List, subst, sym, arith}
use Rattle.schema.specs.Fits.{Fits}
use Rattle.schema.specs.Messages.{resource_profiles, envelope}
use Rattle.schema.specs.Shape.{Value}
use Rattle.otlp_msg.specs.Checked.{value_of}
use Rattle.otlp_msg.specs.Message.{Message}
use Rattle.draft_contents.specs.Adding.{message_with}
use Rattle.draft_contents.specs.Contents.{contents}
use Rattle.draft_contents.specs.Draft.{IsFaultOfPlaced, StandsWithin}
use Rattle.draft_contents.specs.Repeats.{AreKnown}
use Rattle.draft_contents.specs.Singles.{alone, coming, joining_of}
use Rattle.draft_contents.specs.declared.incoming.Joining.{Joining}
use Rattle.dict_build.proofs.Going.{added_state, few_unmet, goes_nowhere, goes_with, one_alone, start_kept, still_seen, still_state}
use Rattle.dict_build.proofs.state.add_at.Goals as goal

pub put_or_go_back-requires-clause-part : goal.put_or_go_back-requires-clause-part
put_or_go_back-requires-clause-part g c = c.incoming_at-incoming.ensures.part c.args.state.now.walk.source c.requires.state.walk.dictionary

pub put_or_go_back-requires-clause-fits : goal.put_or_go_back-requires-clause-fits
put_or_go_back-requires-clause-fits g c =
    let w = c.args.state.now in
    let m : Message = value_of w.message.now in
    subst (λ (n : Message). Fits envelope n) (sym (one_alone m c.args.pos (coming c.incoming_at-incoming.result) w.walk.source c.incoming_at-incoming.ensures.coming c.requires.state.walk.dictionary))
    c.incoming_at-incoming.ensures.fits

pub put_or_go_back-requires-clause-known : goal.put_or_go_back-requires-clause-known
put_or_go_back-requires-clause-known g c =
    let w = c.args.state.now in
    subst (λ (xs : List (Value resource_profiles)). AreKnown c.known_heads-known.result w.records xs) (sym c.incoming_at-incoming.ensures.coming)
    (c.known_heads-known.ensures w.records (value_of w.message.now) c.requires.state.heads)

pub returns-in-Ok-clause-ok : goal.returns-in-Ok-clause-ok
returns-in-Ok-clause-ok g c =
    let w = c.args.state.now in
    let m : Message = value_of w.message.now in
    let e : message_with (coming c.incoming_at-incoming.result) w.walk.source ≡ alone m c.args.pos = one_alone m c.args.pos (coming c.incoming_at-incoming.result) w.walk.source
    c.incoming_at-incoming.ensures.coming c.requires.state.walk.dictionary in
    let d = contents w.walk.keys w.records in
    let d' = contents c.put_or_go_back.new.walk.keys c.put_or_go_back.new.records in
    subst (λ (how : Joining). StandsWithin c.args.limit how d d' (alone m c.args.pos)) c.incoming_at-incoming.ensures.joining
    (subst (λ (n : Message). StandsWithin c.args.limit (joining_of c.incoming_at-incoming.result) d d' n) e c.in-Ok.ensures.ok.stands)

pub returns-in-Ok-clause-state : goal.returns-in-Ok-clause-state
returns-in-Ok-clause-state g c =
    let w = c.args.state.now in
    let m : Message = value_of w.message.now in
    added_state m w.start w.walk c.put_or_go_back.new.walk w.records c.put_or_go_back.new.records w.last c.args.pos (joining_of c.incoming_at-incoming.result) c.args.limit
    (coming c.incoming_at-incoming.result) c.incoming_at-incoming.ensures.coming c.requires.state c.in-Ok.ensures.ok c.in-Ok.ensures.grown c.in-Ok.ensures.front

pub returns-in-Ok-clause-kept : goal.returns-in-Ok-clause-kept
returns-in-Ok-clause-kept g c =
    let w = c.args.state.now in
    start_kept (value_of w.message.now) w.start w.walk c.put_or_go_back.new.walk w.records c.put_or_go_back.new.records c.requires.state.grown c.in-Ok.ensures.grown c.in-Ok.ensures.front

pub returns-in-Err-clause-fault : goal.returns-in-Err-clause-fault
returns-in-Err-clause-fault g c =
    let w = c.args.state.now in
    let m : Message = value_of w.message.now in
    let e : message_with (coming c.incoming_at-incoming.result) w.walk.source ≡ alone m c.args.pos = one_alone m c.args.pos (coming c.incoming_at-incoming.result) w.walk.source
    c.incoming_at-incoming.ensures.coming c.requires.state.walk.dictionary in
    let d = contents w.walk.keys w.records in
    subst (λ (how : Joining). IsFaultOfPlaced c.args.limit how d (alone m c.args.pos) c.in-Err.fault) c.incoming_at-incoming.ensures.joining
    (subst (λ (n : Message). IsFaultOfPlaced c.args.limit (joining_of c.incoming_at-incoming.result) d n c.in-Err.fault) e c.in-Err.ensures.fault)

pub returns-in-Err-clause-state : goal.returns-in-Err-clause-state
returns-in-Err-clause-state g c =
    let w = c.args.state.now in
    still_state (value_of w.message.now) w.start w.walk c.put_or_go_back.new.walk w.records c.put_or_go_back.new.records w.last c.requires.state c.in-Err.ensures.same_walk
    c.in-Err.ensures.same_records

pub returns-in-Err-clause-same : goal.returns-in-Err-clause-same
returns-in-Err-clause-same g c =
    let w = c.args.state.now in
    still_seen (value_of w.message.now) w.start w.walk c.put_or_go_back.new.walk w.records c.put_or_go_back.new.records c.in-Err.ensures.same_walk c.in-Err.ensures.same_records

pub returns-in-Ok-clause-grown : goal.returns-in-Ok-clause-grown
returns-in-Ok-clause-grown g c =
    goes_with c.args.state.now.walk c.put_or_go_back.new.walk c.args.state.now.records c.put_or_go_back.new.records c.in-Ok.ensures.grown c.in-Ok.ensures.front

pub returns-in-Err-clause-grown : goal.returns-in-Err-clause-grown
returns-in-Err-clause-grown g c =
    goes_nowhere c.args.state.now.walk c.put_or_go_back.new.walk c.args.state.now.records c.put_or_go_back.new.records c.in-Err.ensures.same_walk c.in-Err.ensures.same_records

pub returns-in-Ok-clause-steps : goal.returns-in-Ok-clause-steps
returns-in-Ok-clause-steps g c = omega (arith, c.put_or_go_back.ensures.steps, few_unmet (value_of c.args.state.now.message.now) c.args.state.now.walk c.requires.state.walk)

pub returns-in-Err-clause-steps : goal.returns-in-Err-clause-steps
returns-in-Err-clause-steps g c = omega (arith, c.put_or_go_back.ensures.steps, few_unmet (value_of c.args.state.now.message.now) c.args.state.now.walk c.requires.state.walk)

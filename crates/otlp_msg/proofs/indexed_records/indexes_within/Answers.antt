use Rattle.std.proofs.Common.{Ok, Err, sym, ◌∙◌}
use Rattle.schema.specs.Messages.{resource_profiles}
use Rattle.prof_rec.specs.Views.{resource_profiles_view}
use Rattle.otlp_msg.specs.Lengths.{lengths_view}
use Rattle.otlp_msg.specs.Views.{message_view}
use Rattle.otlp_msg.specs.Walk.{dictionary_spots, lengths_in, message_spots, resource_spots, within}
use Rattle.otlp_msg.specs.Within.{Passed, each_within}
use Rattle.otlp_msg.proofs.IndexTests.{within_same}
use Rattle.otlp_msg.proofs.Places.{placed_at}
use Rattle.otlp_msg.proofs.Walks.{ends_seen, goes_on_seen, message_walked, records_tell, stops_seen, tables_tell}
use Rattle.otlp_msg.proofs.indexed_records.indexes_within.Goals as goal

pub returns-in-Err : goal.returns-in-Err
returns-in-Err c =
    let m = message_view c.args.message.now in
    let len = lengths_view c.of_dictionary-lengths.result in
    sym (tables_tell (within len (dictionary_spots m.1.0)) (each_within (λ i v. within len (resource_spots i v)) 0 m.0) c.in-Err.refusal (sym c.test_tables.ensures ∙ c.in-Err.is))
    ∙ message_walked len m
    ∙ within_same len (lengths_in m.1.0) c.of_dictionary-lengths.ensures (message_spots m)

pub test_resource-requires : goal.test_resource-requires
test_resource-requires c =
    placed_at resource_profiles resource_profiles_view c.args.message.now.records c.as_slice-element-items.result.now c.loop-resource.resource c.element-item.result c.as_slice-element-items.ensures c.requires.1 c.loop-resource-test.true c.element-item.is

pub loop-resource-preserved : goal.loop-resource-preserved
loop-resource-preserved c =
    goes_on_seen (λ i v. within (lengths_view c.of_dictionary-lengths.result) (resource_spots i v)) resource_profiles_view c.as_slice-element-items.result.now
    c.loop-resource.resource c.element-item.result c.test_resource.result c.loop-resource-test.true c.element-item.is c.loop-resource.invariant c.test_resource.ensures c.in_default-test_resource.is

pub returns-in-Err-test_resource : goal.returns-in-Err-test_resource
returns-in-Err-test_resource c =
    let m = message_view c.args.message.now in
    let len = lengths_view c.of_dictionary-lengths.result in
    let why : Passed = Err c.in-Err-test_resource.refusal in
    sym (records_tell (within len (dictionary_spots m.1.0)) (each_within (λ i v. within len (resource_spots i v)) 0 m.0) why (sym c.test_tables.ensures ∙ c.in_default.is)
    (sym (stops_seen (λ i v. within len (resource_spots i v)) resource_profiles_view c.args.message.now.records c.as_slice-element-items.result.now
    c.loop-resource.resource c.element-item.result c.test_resource.result c.in-Err-test_resource.refusal c.as_slice-element-items.ensures c.loop-resource-test.true c.element-item.is c.loop-resource.invariant
    c.test_resource.ensures c.in-Err-test_resource.is)))
    ∙ message_walked len m
    ∙ within_same len (lengths_in m.1.0) c.of_dictionary-lengths.ensures (message_spots m)

pub returns : goal.returns
returns c =
    let m = message_view c.args.message.now in
    let len = lengths_view c.of_dictionary-lengths.result in
    let done : Passed = Ok tt in
    sym (records_tell (within len (dictionary_spots m.1.0)) (each_within (λ i v. within len (resource_spots i v)) 0 m.0) done (sym c.test_tables.ensures ∙ c.in_default.is)
    (sym (ends_seen (λ i v. within len (resource_spots i v)) resource_profiles_view c.args.message.now.records c.as_slice-element-items.result.now
    c.loop-resource.resource c.as_slice-element-items.ensures c.loop-resource-test.false c.loop-resource.invariant)))
    ∙ message_walked len m
    ∙ within_same len (lengths_in m.1.0) c.of_dictionary-lengths.ensures (message_spots m)

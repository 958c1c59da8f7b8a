use Rattle.std.proofs.Common.{ℕ, List, ◌+◌, ◌^◌, map, take}
use Rattle.schema.specs.Messages.{resource_profiles}
use Rattle.schema.specs.Moved.{moved}
use Rattle.parts.specs.Parts.{RecordPart}
use Rattle.parts.specs.Values.{resource_value_parts}
use Rattle.prof_rec.specs.Views.{resource_profiles_view}
use Rattle.draft_contents.specs.Adding.{resources_moved}
use Rattle.draft_contents.proofs.Rows.{measured_more, record_more}
use Rattle.draft_contents.proofs.Lengths.{record_shorter}
use Rattle.draft_contents.proofs.measure.with_resources.Goals as goal

pub with_resource-requires : goal.with_resource-requires
with_resource-requires g c =
    record_shorter (2 ^ 63) resource_value_parts (moved (g.I.NewIndexes.to c.args.indexes.now) resource_profiles) resource_profiles_view c.args.records.now c.loop-record.record-index c.record-item.result c.loop-record-test.true
    c.record-item.is c.requires

pub loop-record-preserved : goal.loop-record-preserved
loop-record-preserved g c =
    let row : ℕ → List RecordPart = λ n. resources_moved (g.I.NewIndexes.to c.args.indexes.now) (map resource_profiles_view (take n c.args.records.now)) in
    measured_more c.args.totals c.loop-record.sums c.in-Ok.more (row c.loop-record.record-index) (resource_value_parts (moved (g.I.NewIndexes.to c.args.indexes.now) resource_profiles (resource_profiles_view c.record-item.result))) (row (c.loop-record.record-index + 1))
    (record_more (moved (g.I.NewIndexes.to c.args.indexes.now) resource_profiles) resource_profiles_view resource_value_parts c.args.records.now c.loop-record.record-index c.record-item.result c.loop-record-test.true c.record-item.is)
    c.loop-record.invariant c.in-Ok.ensures

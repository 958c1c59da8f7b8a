use Rattle.std.proofs.Common.{ℕ, List, ◌+◌, ◌^◌, map, take}
use Rattle.schema.specs.Messages.{resource_profiles}
use Rattle.schema.specs.Moved.{moved}
use Rattle.parts.specs.Parts.{RecordPart}
use Rattle.parts.specs.Values.{resource_value_parts}
use Rattle.prof_rec.specs.Views.{resource_profiles_view}
use Rattle.key_tables.proofs.Prefixes.{prefix_itself, prefix_over}
use Rattle.draft_contents.specs.Adding.{resources_moved}
use Rattle.draft_contents.proofs.Rows.{none_put, put_more, record_more}
use Rattle.draft_contents.proofs.Lengths.{record_shorter}
use Rattle.draft_contents.proofs.put.put_resources.Goals as goal

pub loop-record-init : goal.loop-record-init
loop-record-init g c = (none_put c.args.records.now, prefix_itself c.args.records.now)

pub put_resource-requires : goal.put_resource-requires
put_resource-requires g c =
    record_shorter (2 ^ 62) resource_value_parts (moved (g.I.NewIndexes.to c.args.indexes.now) resource_profiles) resource_profiles_view c.args.added.now c.loop-record.record-index c.record-item.result c.loop-record-test.true
    c.record-item.is c.requires

pub loop-record-preserved : goal.loop-record-preserved
loop-record-preserved g c =
    let row : ℕ → List RecordPart = λ n. resources_moved (g.I.NewIndexes.to c.args.indexes.now) (map resource_profiles_view (take n c.args.added.now)) in (
      put_more c.args.records.now c.loop-record.records c.put_resource.new.records (row c.loop-record.record-index) (resource_value_parts (moved (g.I.NewIndexes.to c.args.indexes.now) resource_profiles (resource_profiles_view c.record-item.result))) (row (c.loop-record.record-index + 1))
          (record_more (moved (g.I.NewIndexes.to c.args.indexes.now) resource_profiles) resource_profiles_view resource_value_parts c.args.added.now c.loop-record.record-index c.record-item.result c.loop-record-test.true
          c.record-item.is) c.loop-record.invariant.0 c.in_default.ensures.ok,
      prefix_over c.args.records.now c.loop-record.records c.put_resource.new.records c.loop-record.invariant.1 c.in_default.ensures.front,
    )

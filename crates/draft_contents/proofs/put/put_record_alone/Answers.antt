use Rattle.std.proofs.Common.{arith}
use Rattle.schema.specs.Messages.{resource}
use Rattle.schema.specs.Moved.{moved}
use Rattle.schema.specs.Spell.{spell}
use Rattle.schema_laws.proofs.Lengths.{bytes_field_le}
use Rattle.prof_rec.specs.Views.{resource_view}
use Rattle.draft_contents.proofs.put.put_record_alone.Goals as goal

pub begin_resource-requires : goal.begin_resource-requires
begin_resource-requires g c =
    let l = c.requires.0 in
    omega (arith, l, bytes_field_le 1 (spell resource (moved (g.I.NewIndexes.to c.args.indexes.now) resource (resource_view c.args.single.now.resource.now.resource))))

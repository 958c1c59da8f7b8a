use Rattle.std.proofs.Common.{arith}
use Rattle.schema.specs.Messages.{scope}
use Rattle.schema.specs.Moved.{moved}
use Rattle.schema.specs.Spell.{spell}
use Rattle.schema_laws.proofs.Lengths.{bytes_field_le}
use Rattle.prof_rec.specs.Views.{scope_view}
use Rattle.draft_contents.proofs.put.put_scope_alone.Goals as goal

pub begin_scope-requires : goal.begin_scope-requires
begin_scope-requires g c =
    let l = c.requires.0 in omega (arith, l, bytes_field_le 1 (spell scope (moved (g.I.NewIndexes.to c.args.indexes.now) scope (scope_view c.args.single.now.scope.now.scope))))

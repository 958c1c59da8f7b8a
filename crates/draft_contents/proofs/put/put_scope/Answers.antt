use Rattle.std.proofs.Common.{arith}
use Rattle.schema.specs.Messages.{scope}
use Rattle.schema.specs.Moved.{moved}
use Rattle.schema.specs.Spell.{spell}
use Rattle.schema_laws.proofs.Lengths.{bytes_field_le}
use Rattle.prof_rec.specs.Views.{scope_view}
use Rattle.draft_contents.proofs.Rows.{front_still}
use Rattle.draft_contents.proofs.put.put_scope.Goals as goal

pub begin_scope-requires : goal.begin_scope-requires
begin_scope-requires g c =
    let l = c.requires.0 in omega (arith, l, bytes_field_le 1 (spell scope (moved (g.I.NewIndexes.to c.args.indexes.now) scope (scope_view c.args.added.now.scope))))

pub returns-in_err-put_profiles-clause-front : goal.returns-in_err-put_profiles-clause-front
returns-in_err-put_profiles-clause-front g c = front_still c.args.records.now c.begin_scope.new.self c.put_profiles.new.records _ c.in_ok-begin_scope.ensures.ok c.in_err-put_profiles.ensures.front

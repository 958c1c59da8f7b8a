use Rattle.std.proofs.Common.{length, map, ap, arith}
use Rattle.schema.specs.Messages.{resource_profiles}
use Rattle.schema.specs.Moved.{moved}
use Rattle.schema.specs.Spell.{spell}
use Rattle.schema.specs.Texts.{items_text}
use Rattle.prof_rec.specs.Views.{resource_profiles_view}
use Rattle.otlp_msg.proofs.message.MessageRows.rows_len.Goals as goal

pub overflow_add-result : goal.overflow_add-result
overflow_add-result g c =
    omega (
      arith,
      c.requires,
      ap (λ xs. length (items_text 1 (map (spell resource_profiles) (map (moved (g.I.NewIndexes.to c.args.indexes.now) resource_profiles) (map resource_profiles_view xs))))) c.as_slice.ensures,
    )

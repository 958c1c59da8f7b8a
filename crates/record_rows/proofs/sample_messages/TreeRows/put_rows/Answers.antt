use Rattle.std.proofs.Common.{length, map, ap, arith}
use Rattle.schema.specs.Moved.{moved}
use Rattle.schema.specs.Shape.{Shape, Number, Text, One, End, I32}
use Rattle.schema.specs.Spell.{spell}
use Rattle.schema.specs.Texts.{items_text}
use Rattle.record_rows.specs.declared.sample_messages.Leaf.{Leaf}
use Rattle.record_rows.proofs.sample_messages.TreeRows.put_rows.Goals as goal

pub put_messages-requires-clause-room : goal.put_messages-requires-clause-room
put_messages-requires-clause-room g c =
    let leaf : Shape = One 1 (Number I32) (One 2 Text End) in
    omega (
      arith,
      c.requires,
      ap (λ xs. length (items_text 2 (map (spell leaf) (map (moved (g.I.NewIndexes.to c.args.indexes.now) leaf) (map (λ (l : Leaf). (l.count, (l.name, tt))) xs))))) c.as_slice.ensures,
    )

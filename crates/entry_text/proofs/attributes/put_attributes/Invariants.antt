use Rattle.std.proofs.Common.{take}
use Rattle.std.specs.List.{flat_map}
use Rattle.schema.specs.Messages.{attribute}
use Rattle.schema.specs.Shape.{Index, Attributes}
use Rattle.shown.specs.Direct.{meant}
use Rattle.shown.specs.TextLine.{line_text}
use Rattle.shown.specs.ShowText.{attribute_line}
use Rattle.entry_text.proofs.attributes.put_attributes.Given as goal

abbrev pub invariant-loop-index : goal.invariant-loop-index
invariant-loop-index g l =
    g.O.TextOut.Puts (l.initial.out, l.initial.to)
    (flat_map (λ i. line_text (attribute_line l.level (meant (g.D.Meanings.tables l.texts) (Index Attributes attribute) i))) (take l.index-index l.indexes)) (l.out, l.to)

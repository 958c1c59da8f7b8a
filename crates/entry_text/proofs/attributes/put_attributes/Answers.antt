use Rattle.std.proofs.Common.{refl}
use Rattle.schema.specs.Messages.{attribute}
use Rattle.schema.specs.Shape.{Index, Attributes}
use Rattle.shown.specs.Direct.{meant}
use Rattle.shown.specs.TextLine.{line_text}
use Rattle.shown.specs.ShowText.{attribute_line}
use Rattle.line_text.proofs.Following.{put_next}
use Rattle.line_text.proofs.Lines.{put_lines_of}
use Rattle.entry_text.proofs.attributes.put_attributes.Goals as goal

pub loop-index-init : goal.loop-index-init
loop-index-init g c = g.O.TextOut.lawful.none _

pub loop-index-preserved : goal.loop-index-preserved
loop-index-preserved g c =
    put_next g.O.TextOut.Puts g.O.TextOut.lawful (λ i. line_text (attribute_line c.args.level (meant (g.D.Meanings.tables c.args.texts.now) (Index Attributes attribute) i)))
    c.args.indexes.now c.loop-index.index-index _ _ c.loop-index-test.true refl c.loop-index.invariant c.put_attribute.ensures

pub returns : goal.returns
returns g c =
    put_lines_of g.O.TextOut.Puts (attribute_line c.args.level) (meant (g.D.Meanings.tables c.args.texts.now) (Index Attributes attribute)) (λ i. i) c.args.indexes.now
    c.loop-index.index-index c.loop-index-test.false c.loop-index.invariant

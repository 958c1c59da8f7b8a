use Rattle.schema.specs.Shape.{Bytes}
use Rattle.shown.specs.Direct.{meant}
use Rattle.shown.specs.TextLine.{line_text}
use Rattle.shown.specs.ShowText.{entity_line}
use Rattle.line_text.proofs.Following.{put_next}
use Rattle.line_text.proofs.Lines.{put_plain_lines_of}
use Rattle.show_text.proofs.values.put_entities.Goals as goal

pub loop-element-init : goal.loop-element-init
loop-element-init g c = g.O.TextOut.lawful.none _

pub loop-element-preserved : goal.loop-element-preserved
loop-element-preserved g c =
    put_next g.O.TextOut.Puts g.O.TextOut.lawful (λ b. line_text (entity_line b))
    c.args.elements.now c.loop-element.element-index c.element-item.result c.element-item.result c.loop-element-test.true c.element-item.is c.loop-element.invariant c.put_entity.ensures

pub returns : goal.returns
returns g c = λ d.
    put_plain_lines_of g.O.TextOut.Puts entity_line (meant d Bytes) c.args.elements.now
    c.loop-element.element-index c.loop-element-test.false c.loop-element.invariant

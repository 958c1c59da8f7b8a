use Rattle.schema.specs.Messages.{key_value}
use Rattle.any_value.specs.Views.{attribute_view}
use Rattle.shown.specs.Direct.{meant}
use Rattle.shown.specs.TextLine.{line_text}
use Rattle.shown.specs.ShowText.{key_value_line}
use Rattle.line_text.proofs.Following.{put_next}
use Rattle.line_text.proofs.Lines.{put_lines_of}
use Rattle.show_text.proofs.values.put_key_values.Goals as goal

pub loop-pair-init : goal.loop-pair-init
loop-pair-init g c = g.O.TextOut.lawful.none _

pub loop-pair-preserved : goal.loop-pair-preserved
loop-pair-preserved g c =
    put_next g.O.TextOut.Puts g.O.TextOut.lawful (λ p. line_text (key_value_line c.args.level (attribute_view p)))
    c.args.pairs.now c.loop-pair.pair-index c.pair-item.result c.pair-item.result c.loop-pair-test.true c.pair-item.is c.loop-pair.invariant c.put_key_value.ensures

pub returns : goal.returns
returns g c = λ d.
    put_lines_of g.O.TextOut.Puts (key_value_line c.args.level) (meant d (key_value 1)) attribute_view c.args.pairs.now
    c.loop-pair.pair-index c.loop-pair-test.false c.loop-pair.invariant

use Rattle.std.proofs.Common.{refl}
use Rattle.schema.specs.Messages.{line}
use Rattle.dict_rec.specs.Views.{line_view}
use Rattle.shown.specs.Direct.{meant}
use Rattle.shown.specs.TextLine.{line_text}
use Rattle.shown.specs.ShowText.{source_line}
use Rattle.line_text.proofs.Following.{put_next}
use Rattle.line_text.proofs.Lines.{put_lines_of}
use Rattle.entry_text.proofs.stacks.put_source_lines.Goals as goal

pub loop-source-init : goal.loop-source-init
loop-source-init g c = g.O.TextOut.lawful.none _

pub loop-source-preserved : goal.loop-source-preserved
loop-source-preserved g c =
    put_next g.O.TextOut.Puts g.O.TextOut.lawful (λ l. line_text (source_line (meant (g.D.Meanings.tables c.args.texts.now) line (line_view l))))
    c.args.lines.now c.loop-source.source-index _ _ c.loop-source-test.true refl c.loop-source.invariant c.put_source_line.ensures

pub returns : goal.returns
returns g c =
    put_lines_of g.O.TextOut.Puts source_line (meant (g.D.Meanings.tables c.args.texts.now) line) line_view c.args.lines.now
    c.loop-source.source-index c.loop-source-test.false c.loop-source.invariant

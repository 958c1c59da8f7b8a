use Rattle.std.proofs.Common.{map, sym}
use Rattle.schema.specs.Messages.{sample}
use Rattle.prof_rec.specs.SampleRefs.{sample_of}
use Rattle.prof_rec.specs.Views.{sample_view}
use Rattle.shown.specs.Direct.{meant}
use Rattle.shown.specs.TextLine.{line_text, lines_text}
use Rattle.shown.specs.ShowText.{attribute_line, sample_line}
use Rattle.shown.proofs.Appended.{sample-text}
use Rattle.line_text.proofs.Following.{put_as, then_put}
use Rattle.show_text.proofs.samples.put_sample.Goals as goal

pub returns : goal.returns
returns g c =
    let puts = g.O.TextOut.Puts in let laws = g.O.TextOut.lawful in
    let s = meant (g.D.Meanings.tables c.args.texts.now) sample (sample_view (sample_of c.args.sample.now)) in
    put_as puts _ _ _ _ (sym (sample-text c.args.place s))
    (then_put puts laws (line_text (sample_line c.args.place s)) c.put_sample_line.ensures (then_put puts laws (lines_text (map (attribute_line 4) s.1.1.0)) c.put_attributes.ensures (c.put_stack.ensures)))

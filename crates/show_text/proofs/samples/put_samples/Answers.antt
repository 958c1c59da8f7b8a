use Rattle.std.proofs.Common.{sym, arith}
use Rattle.std.proofs.lemmas.Option.{get_or_from_slice_get}
use Rattle.schema.specs.Messages.{sample}
use Rattle.prof_rec.specs.SampleRefs.{sample_of}
use Rattle.prof_rec.specs.Views.{sample_view}
use Rattle.shown.specs.Direct.{meant}
use Rattle.shown.specs.ShowText.{sample_lines}
use Rattle.line_text.proofs.Lines.{put_next_numbered, put_numbered_of}
use Rattle.show_text.proofs.samples.put_samples.Goals as goal

pub loop-place-init : goal.loop-place-init
loop-place-init g c = g.O.TextOut.lawful.none _

pub loop-place-preserved : goal.loop-place-preserved
loop-place-preserved g c =
    put_next_numbered g.O.TextOut.Puts g.O.TextOut.lawful sample_lines (λ x. meant (g.D.Meanings.tables c.args.texts.now) sample (sample_view x))
    c.args.samples.now c.loop-place.place (sample_of c.at.result) (sample_of c.at.result) (omega (arith, c.loop-place-test.true, c.len-place-end.ensures)) (sym (get_or_from_slice_get c.args.samples.now c.loop-place.place (sample_of c.at.result) (sample_of c.at.result) c.at.ensures)) c.loop-place.invariant c.put_sample.ensures

pub returns : goal.returns
returns g c =
    put_numbered_of g.O.TextOut.Puts sample_lines (meant (g.D.Meanings.tables c.args.texts.now) sample) sample_view c.args.samples.now c.loop-place.place (omega (arith, c.loop-place-test.false, c.len-place-end.ensures)) c.loop-place.invariant

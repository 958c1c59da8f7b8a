use Rattle.std.proofs.Common.{codes, map}
use Rattle.std.specs.Fmt.{decimal, signed_decimal}
use Rattle.schema.specs.Messages.{sample}
use Rattle.schema.specs.Shape.{Number, Fixed, I64}
use Rattle.prof_rec.specs.SampleRefs.{sample_of}
use Rattle.prof_rec.specs.Views.{sample_view}
use Rattle.shown.specs.Direct.{meant}
use Rattle.shown.specs.Quoted.{bracketed}
use Rattle.entry_text.specs.EntryTexts.{link_words}
use Rattle.line_text.proofs.Following.{put_as, then_put}
use Rattle.show_text.proofs.Pieces.{sample_pieces, same_numbers, same_plain_numbers}
use Rattle.show_text.proofs.samples.put_sample_line.Goals as goal

pub returns : goal.returns
returns g c =
    let puts = g.O.TextOut.Puts in let laws = g.O.TextOut.lawful in
    let d = g.D.Meanings.tables c.args.texts.now in let r = c.args.sample.now in let s = meant d sample (sample_view (sample_of r)) in
    let values = put_as puts _ _ _ _ (same_numbers signed_decimal (meant d (Number I64)) (λ z. z) r.values.now) c.put_numbers.ensures in
    let times = put_as puts _ _ _ _ (same_plain_numbers decimal (meant d Fixed) r.timestamps_unix_nano.now) c.put_numbers-2.ensures in
    put_as puts _ _ _ _ (sample_pieces c.args.place s)
    (then_put puts laws (codes "      sample ") c.put.ensures (then_put puts laws (decimal c.args.place) c.put_number.ensures (then_put puts laws (codes " values ") c.put-2.ensures (then_put puts laws (bracketed (map signed_decimal s.1.0)) values (then_put puts laws (codes " times ") c.put-3.ensures (then_put puts laws (bracketed (map decimal s.1.1.1.1.0)) times (then_put puts laws (codes " link ") c.put-4.ensures (then_put puts laws (link_words s.1.1.1.0) c.put_link.ensures (c.put-5.ensures)))))))))

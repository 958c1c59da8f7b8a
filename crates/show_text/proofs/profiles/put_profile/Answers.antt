use Rattle.std.proofs.Common.{List, ℤ, map, ap}
use Rattle.schema.specs.Messages.{profile, attribute}
use Rattle.schema.specs.Shape.{Index, Attributes}
use Rattle.prof_rec.specs.Views.{profile_view}
use Rattle.shown.specs.Direct.{meant}
use Rattle.shown.specs.TextLine.{line_text, lines_text}
use Rattle.shown.specs.ShowText.{attribute_line, profile_line}
use Rattle.line_text.proofs.Following.{put_as, then_put}
use Rattle.show_text.specs.ProfileLine.{profile_front}
use Rattle.show_text.proofs.Pieces.{profile_parts, profile_text}
use Rattle.show_text.proofs.profiles.put_profile.Goals as goal

pub returns : goal.returns
returns g c =
    let puts = g.O.TextOut.Puts in let laws = g.O.TextOut.lawful in
    let d = g.D.Meanings.tables c.args.texts.now in let p = meant (g.D.Meanings.tables c.args.texts.now) profile (profile_view c.args.profile.now) in
    let line = put_as puts _ _ _ _ (profile_parts c.args.place p) (then_put puts laws (profile_front c.args.place p) c.put_profile_front.ensures c.put_profile_back.ensures) in
    put_as puts _ _ _ _ (profile_text c.args.place p)
    (then_put puts laws (line_text (profile_line c.args.place p)) line (then_put puts laws (lines_text (map (attribute_line 3) p.1.1.1.1.1.1.1.1.1.1.0)) (put_as puts _ _ _ _ (ap (λ (l : List ℤ). lines_text (map (attribute_line 3) (map (meant d (Index Attributes attribute)) (map (λ i. i) l)))) c.as_slice.ensures) c.put_attributes.ensures) (c.put_samples.ensures)))

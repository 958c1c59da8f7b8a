use Rattle.std.proofs.Common.{List, map, ap}
use Rattle.schema.specs.Messages.{scope_profiles, key_value, profile}
use Rattle.prof_rec.specs.Views.{scope_profiles_view, profile_view}
use Rattle.prof_rec.specs.declared.profile.Profile.{Profile}
use Rattle.any_value.specs.declared.value.KeyValue.{KeyValue}
use Rattle.any_value.specs.Views.{attribute_view}
use Rattle.shown.specs.Direct.{meant}
use Rattle.shown.specs.TextLine.{line_text, lines_text, numbered}
use Rattle.shown.specs.ShowText.{key_value_line, scope_line, profile_lines}
use Rattle.line_text.proofs.Following.{put_as, then_put}
use Rattle.show_text.proofs.Pieces.{scope_text}
use Rattle.show_text.proofs.records.put_scope.Goals as goal

pub returns : goal.returns
returns g c =
    let puts = g.O.TextOut.Puts in let laws = g.O.TextOut.lawful in
    let d = g.D.Meanings.tables c.args.texts.now in let r = meant (g.D.Meanings.tables c.args.texts.now) scope_profiles (scope_profiles_view c.args.«record».now) in
    put_as puts _ _ _ _ (scope_text c.args.place r)
    (then_put puts laws (line_text (scope_line c.args.place r)) c.put_scope_line.ensures (then_put puts laws (lines_text (map (key_value_line 2) r.0.1.1.0)) (put_as puts _ _ _ _ (ap (λ (l : List KeyValue). lines_text (map (key_value_line 2) (map (meant d (key_value 1)) (map attribute_view l)))) c.as_slice.ensures) (c.put_key_values.ensures d)) ((put_as puts _ _ _ _ (ap (λ (l : List Profile). lines_text (numbered profile_lines 0 (map (meant d profile) (map profile_view l)))) c.as_slice-2.ensures) c.put_profiles.ensures))))

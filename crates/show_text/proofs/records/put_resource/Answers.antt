use Rattle.std.proofs.Common.{List, ℕ, map, ap}
use Rattle.schema.specs.Messages.{resource_profiles, key_value, scope_profiles}
use Rattle.schema.specs.Shape.{Bytes}
use Rattle.prof_rec.specs.Views.{resource_profiles_view, scope_profiles_view}
use Rattle.prof_rec.specs.declared.scope_profiles.ScopeProfiles.{ScopeProfiles}
use Rattle.any_value.specs.declared.value.KeyValue.{KeyValue}
use Rattle.any_value.specs.Views.{attribute_view}
use Rattle.shown.specs.Direct.{meant}
use Rattle.shown.specs.TextLine.{line_text, lines_text, numbered}
use Rattle.shown.specs.ShowText.{key_value_line, entity_line, resource_line, scope_lines}
use Rattle.line_text.proofs.Following.{put_as, then_put}
use Rattle.show_text.proofs.Pieces.{resource_text}
use Rattle.show_text.proofs.records.put_resource.Goals as goal

pub returns : goal.returns
returns g c =
    let puts = g.O.TextOut.Puts in let laws = g.O.TextOut.lawful in
    let d = g.D.Meanings.tables c.args.texts.now in let r = meant (g.D.Meanings.tables c.args.texts.now) resource_profiles (resource_profiles_view c.args.«record».now) in
    put_as puts _ _ _ _ (resource_text c.args.place r)
    (then_put puts laws (line_text (resource_line c.args.place r)) c.put_resource_line.ensures (then_put puts laws (lines_text (map (key_value_line 1) r.0.0)) (put_as puts _ _ _ _ (ap (λ (l : List KeyValue). lines_text (map (key_value_line 1) (map (meant d (key_value 1)) (map attribute_view l)))) c.as_slice.ensures) (c.put_key_values.ensures d)) (then_put puts laws (lines_text (map entity_line r.0.1.1.0)) (put_as puts _ _ _ _ (ap (λ (l : List (List ℕ)). lines_text (map entity_line (map (meant d Bytes) l))) c.as_slice-2.ensures) (c.put_entities.ensures d)) ((put_as puts _ _ _ _ (ap (λ (l : List ScopeProfiles). lines_text (numbered scope_lines 0 (map (meant d scope_profiles) (map scope_profiles_view l)))) c.as_slice-3.ensures) c.put_scopes.ensures)))))

use Rattle.std.proofs.Common.{List, ℤ, sym, ap, map, [], ◌∷◌, codes}
use Rattle.std.specs.Fmt.{decimal}
use Rattle.schema.specs.Messages.{mapping, attribute}
use Rattle.schema.specs.Shape.{Index, Attributes}
use Rattle.dict_rec.specs.Views.{mapping_view}
use Rattle.shown.specs.Direct.{meant}
use Rattle.shown.specs.Quoted.{quoted}
use Rattle.shown.specs.TextLine.{at_level, line_text, lines_text}
use Rattle.shown.specs.ShowText.{attribute_line}
use Rattle.line_text.proofs.Following.{put_as, then_put}
use Rattle.entry_text.proofs.Pieces.{line_pieces}
use Rattle.entry_text.proofs.entries.MappingEntryText.put_text.Goals as goal

pub returns : goal.returns
returns g c =
    let puts = g.O.TextOut.Puts in let laws = g.O.TextOut.lawful in
    let tables = g.D.Meanings.tables c.args.texts.now in
    let m = meant tables mapping (mapping_view c.args.self.now) in
    let words = decimal m.0 ∷ decimal m.1.0 ∷ decimal m.1.1.0 ∷ quoted m.1.1.1.0 ∷ [] in
    then_put puts laws (line_text (at_level 5 (codes "mapping" ∷ words)))
    (put_as puts _ _ _ _ (sym (line_pieces 5 (codes "mapping") words))
    (then_put puts laws (codes "          mapping ") c.put.ensures (then_put puts laws (decimal m.0) c.put_number.ensures (then_put puts laws (codes " ") c.put-2.ensures
    (then_put puts laws (decimal m.1.0) c.put_number-2.ensures (then_put puts laws (codes " ") c.put-3.ensures (then_put puts laws (decimal m.1.1.0) c.put_number-3.ensures
    (then_put puts laws (codes " ") c.put-4.ensures (then_put puts laws (quoted m.1.1.1.0) c.put_string.ensures c.put-5.ensures)))))))))
    (put_as puts _ _ _ _ (ap (λ (is : List ℤ). lines_text (map (attribute_line 6) (map (meant tables (Index Attributes attribute)) (map (λ i. i) is)))) c.as_slice.ensures) c.put_attributes.ensures)

use Rattle.std.proofs.Common.{List, ℤ, sym, ap, map, codes}
use Rattle.std.specs.Fmt.{decimal}
use Rattle.schema.specs.Messages.{location, line, attribute}
use Rattle.schema.specs.Shape.{Index, Attributes}
use Rattle.dict_rec.specs.declared.line.Line.{Line}
use Rattle.dict_rec.specs.Views.{line_view, location_view}
use Rattle.shown.specs.Direct.{meant}
use Rattle.shown.specs.TextLine.{lines_text}
use Rattle.shown.specs.ShowText.{attribute_line, mapping_lines, source_line}
use Rattle.line_text.proofs.Following.{put_as, then_put}
use Rattle.entry_text.proofs.Pieces.{location_pieces}
use Rattle.entry_text.proofs.stacks.LocationEntryText.put_text.Goals as goal

pub returns : goal.returns
returns g c =
    let puts = g.O.TextOut.Puts in let laws = g.O.TextOut.lawful in
    let tables = g.D.Meanings.tables c.args.texts.now in
    let l = meant tables location (location_view c.args.self.now) in
    put_as puts _ _ _ _ (sym (location_pieces l))
    (then_put puts laws (codes " address ") c.put.ensures (then_put puts laws (decimal l.1.0) c.put_number.ensures (then_put puts laws (codes "\n") c.put-2.ensures
    (then_put puts laws (lines_text (mapping_lines l.0)) c.put_entry.ensures
    (then_put puts laws (lines_text (map source_line l.1.1.0))
    (put_as puts _ _ _ _ (ap (λ (ls : List Line). lines_text (map source_line (map (meant tables line) (map line_view ls)))) c.as_slice.ensures) c.put_source_lines.ensures)
    (put_as puts _ _ _ _ (ap (λ (is : List ℤ). lines_text (map (attribute_line 5) (map (meant tables (Index Attributes attribute)) (map (λ i. i) is)))) c.as_slice-2.ensures) c.put_attributes.ensures))))))

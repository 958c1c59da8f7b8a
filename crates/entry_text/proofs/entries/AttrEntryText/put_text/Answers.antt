use Rattle.std.proofs.Common.{sym, [], ◌∷◌, codes}
use Rattle.schema.specs.Messages.{attribute}
use Rattle.dict_rec.specs.Views.{attribute_view}
use Rattle.shown.specs.Direct.{meant}
use Rattle.shown.specs.Quoted.{quoted}
use Rattle.shown.specs.AnyText.{any_shown}
use Rattle.line_text.proofs.Following.{put_as, then_put}
use Rattle.entry_text.proofs.Pieces.{line_pieces}
use Rattle.entry_text.proofs.entries.AttrEntryText.put_text.Goals as goal

pub returns : goal.returns
returns g c =
    let puts = g.O.TextOut.Puts in let laws = g.O.TextOut.lawful in
    let a = meant (g.D.Meanings.tables c.args.texts.now) attribute (attribute_view c.args.self.now) in
    put_as puts _ _ _ _ (sym (line_pieces 0 (codes "attr") (quoted a.0 ∷ any_shown a.1.0 ∷ codes "unit" ∷ quoted a.1.1.0 ∷ [])))
    (then_put puts laws (codes "attr ") c.put.ensures (then_put puts laws (quoted a.0) c.put_string.ensures (then_put puts laws (codes " ") c.put-2.ensures
    (then_put puts laws (any_shown a.1.0) c.put_value.ensures (then_put puts laws (codes " unit ") c.put-3.ensures (then_put puts laws (quoted a.1.1.0) c.put_string-2.ensures c.put-4.ensures))))))

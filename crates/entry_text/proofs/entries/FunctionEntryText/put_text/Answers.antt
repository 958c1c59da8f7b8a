use Rattle.std.proofs.Common.{sym, codes}
use Rattle.std.specs.Fmt.{signed_decimal}
use Rattle.schema.specs.Messages.{function}
use Rattle.dict_rec.specs.Views.{function_view}
use Rattle.shown.specs.Direct.{meant}
use Rattle.shown.specs.Quoted.{quoted}
use Rattle.line_text.proofs.Following.{put_as, then_put}
use Rattle.entry_text.proofs.Pieces.{function_pieces}
use Rattle.entry_text.proofs.entries.FunctionEntryText.put_text.Goals as goal

pub returns : goal.returns
returns g c =
    let puts = g.O.TextOut.Puts in let laws = g.O.TextOut.lawful in
    let f = meant (g.D.Meanings.tables c.args.texts.now) function (function_view c.args.self.now) in
    put_as puts _ _ _ _ (sym (function_pieces f))
    (then_put puts laws (codes "start ") c.put.ensures (then_put puts laws (signed_decimal f.1.1.1.0) c.put_number.ensures (then_put puts laws (codes " name ") c.put-2.ensures
    (then_put puts laws (quoted f.0) c.put_string.ensures (then_put puts laws (codes " system ") c.put-3.ensures (then_put puts laws (quoted f.1.0) c.put_string-2.ensures
    (then_put puts laws (codes " file ") c.put-4.ensures c.put_string-3.ensures)))))))

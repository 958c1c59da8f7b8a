use Rattle.std.proofs.Common.{sym, codes}
use Rattle.std.specs.Fmt.{signed_decimal}
use Rattle.schema.specs.Messages.{line}
use Rattle.dict_rec.specs.Views.{line_view}
use Rattle.shown.specs.Direct.{meant}
use Rattle.line_text.proofs.Following.{put_as, then_put}
use Rattle.entry_text.specs.EntryTexts.{function_words}
use Rattle.entry_text.proofs.Pieces.{source_pieces}
use Rattle.entry_text.proofs.stacks.put_source_line.Goals as goal

pub returns : goal.returns
returns g c =
    let puts = g.O.TextOut.Puts in let laws = g.O.TextOut.lawful in
    let l = meant (g.D.Meanings.tables c.args.texts.now) line (line_view c.args.source.now) in
    put_as puts _ _ _ _ (sym (source_pieces l))
    (then_put puts laws (codes "          line ") c.put.ensures (then_put puts laws (signed_decimal l.1.0) c.put_number.ensures (then_put puts laws (codes " ") c.put-2.ensures
    (then_put puts laws (signed_decimal l.1.1.0) c.put_number-2.ensures (then_put puts laws (codes " ") c.put-3.ensures
    (then_put puts laws (function_words l.0) c.put_entry.ensures c.put-4.ensures))))))

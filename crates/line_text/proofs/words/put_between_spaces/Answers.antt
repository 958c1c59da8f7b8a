use Rattle.std.proofs.Common.{codes}
use Rattle.line_text.proofs.Following.{put_as, then_put}
use Rattle.line_text.proofs.Lists.{first_and_rest}
use Rattle.line_text.proofs.words.put_between_spaces.Goals as goal

pub returns-in-len1-up : goal.returns-in-len1-up
returns-in-len1-up g c =
    let text = g.N.Decimal.text in
    put_as g.O.TextOut.Puts _ _ _ _ (first_and_rest text (codes " ") c.args.numbers.now c.first-item.result c.first-item.result c.in-len1-up.len_at_least c.first-item.is)
    (then_put g.O.TextOut.Puts g.O.TextOut.lawful (text c.first-item.result) c.put_number.ensures c.put_more_numbers.ensures)

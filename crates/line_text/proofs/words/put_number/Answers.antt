use Rattle.std.proofs.Common.{sym}
use Rattle.line_text.specs.Signs.{sign}
use Rattle.line_text.proofs.Following.{put_as, then_put}
use Rattle.line_text.proofs.words.put_number.Goals as goal

pub returns : goal.returns
returns g c =
    put_as g.O.TextOut.Puts _ _ _ _ (sym c.sign_and_digits-is_negative.ensures)
    (then_put g.O.TextOut.Puts g.O.TextOut.lawful (sign c.sign_and_digits-is_negative.result.0) c.put_sign.ensures c.put_decimal.ensures)

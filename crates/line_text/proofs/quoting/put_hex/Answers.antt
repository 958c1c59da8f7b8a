use Rattle.std.proofs.Common.{codes}
use Rattle.line_text.proofs.Following.{then_put}
use Rattle.line_text.proofs.quoting.put_hex.Goals as goal

pub returns : goal.returns
returns g c = then_put g.O.TextOut.Puts g.O.TextOut.lawful (codes "0x") c.put.ensures c.put_digits.ensures

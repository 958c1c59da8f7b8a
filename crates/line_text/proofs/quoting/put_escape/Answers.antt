use Rattle.std.proofs.Common.{codes, ◌++◌}
use Rattle.shown.specs.Quoted.{hex_digits}
use Rattle.line_text.proofs.Following.{put_as, then_put}
use Rattle.line_text.proofs.Digits.{control_escaped}
use Rattle.line_text.proofs.quoting.put_escape.Goals as goal

pub returns-then-byte-eq127 : goal.returns-then-byte-eq127
returns-then-byte-eq127 g c =
    put_as g.O.TextOut.Puts _ _ (codes "\\x" ++ hex_digits c.args.byte) _ (control_escaped c.args.byte c.if-byte-eq34.false c.if-byte-eq127.either)
    (then_put g.O.TextOut.Puts g.O.TextOut.lawful (codes "\\x") c.put-then-byte-eq127.ensures c.put_byte.ensures)

use Rattle.std.proofs.Common.{◌∙◌}
use Rattle.line_text.proofs.Following.{put_as}
use Rattle.line_text.proofs.Digits.{two_digits}
use Rattle.line_text.proofs.quoting.put_byte.Goals as goal

pub returns-in-Ok : goal.returns-in-Ok
returns-in-Ok g c = put_as g.O.TextOut.Puts _ _ _ _ (c.in-Ok.ensures.written ∙ two_digits c.args.byte c.ranges.byte.fits) c.put.ensures

use Rattle.line_text.proofs.Following.{put_as}
use Rattle.line_text.proofs.Digits.{indents}
use Rattle.line_text.proofs.words.put_indent.Goals as goal

pub returns : goal.returns
returns g c = put_as g.O.TextOut.Puts _ _ _ _ (indents c.args.level c.requires) c.put.ensures

use Rattle.std.proofs.Common.{codes}
use Rattle.std.specs.List.{flat_map}
use Rattle.shown.specs.Quoted.{escaped}
use Rattle.line_text.proofs.Following.{then_put}
use Rattle.line_text.proofs.quoting.put_quoted.Goals as goal

pub returns : goal.returns
returns g c =
    then_put g.O.TextOut.Puts g.O.TextOut.lawful (codes "\"") c.put.ensures
    (then_put g.O.TextOut.Puts g.O.TextOut.lawful (flat_map escaped c.args.text.now) c.put_escaped.ensures c.put-2.ensures)

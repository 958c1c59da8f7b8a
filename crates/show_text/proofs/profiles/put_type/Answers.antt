use Rattle.std.proofs.Common.{codes}
use Rattle.schema.specs.Messages.{value_type}
use Rattle.prof_rec.specs.Views.{value_type_view}
use Rattle.shown.specs.Direct.{meant}
use Rattle.shown.specs.Quoted.{quoted}
use Rattle.line_text.proofs.Following.{then_put}
use Rattle.show_text.proofs.profiles.put_type.Goals as goal

pub returns : goal.returns
returns g c =
    let puts = g.O.TextOut.Puts in let laws = g.O.TextOut.lawful in
    let t = meant (g.D.Meanings.tables c.args.texts.now) value_type (value_type_view c.args.kind.now) in
    then_put puts laws (quoted t.0) c.put_string.ensures (then_put puts laws (codes "/") c.put.ensures c.put_string-2.ensures)

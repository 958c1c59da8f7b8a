use Rattle.std.proofs.Common.{codes}
use Rattle.std.specs.Fmt.{decimal}
use Rattle.schema.specs.Messages.{scope_profiles}
use Rattle.prof_rec.specs.Views.{scope_profiles_view}
use Rattle.shown.specs.Direct.{meant}
use Rattle.shown.specs.Quoted.{quoted}
use Rattle.line_text.proofs.Following.{put_as, then_put}
use Rattle.show_text.proofs.Pieces.{scope_pieces}
use Rattle.show_text.proofs.records.put_scope_line.Goals as goal

pub returns : goal.returns
returns g c =
    let puts = g.O.TextOut.Puts in let laws = g.O.TextOut.lawful in
    let r = meant (g.D.Meanings.tables c.args.texts.now) scope_profiles (scope_profiles_view c.args.«record».now) in
    put_as puts _ _ _ _ (scope_pieces c.args.place r)
    (then_put puts laws (codes "  scope ") c.put.ensures (then_put puts laws (decimal c.args.place) c.put_number.ensures (then_put puts laws (codes " name ") c.put-2.ensures (then_put puts laws (quoted r.0.0) c.put_text.ensures (then_put puts laws (codes " version ") c.put-3.ensures (then_put puts laws (quoted r.0.1.0) c.put_text-2.ensures (then_put puts laws (codes " dropped ") c.put-4.ensures (then_put puts laws (decimal r.0.1.1.1.0) c.put_number-2.ensures (then_put puts laws (codes " schema ") c.put-5.ensures (then_put puts laws (quoted r.1.1.0) c.put_text-3.ensures (c.put-6.ensures)))))))))))

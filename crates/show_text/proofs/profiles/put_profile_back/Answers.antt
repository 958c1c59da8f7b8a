use Rattle.std.proofs.Common.{codes}
use Rattle.std.specs.Fmt.{decimal}
use Rattle.schema.specs.Messages.{profile}
use Rattle.prof_rec.specs.Views.{profile_view}
use Rattle.shown.specs.Direct.{meant}
use Rattle.shown.specs.Quoted.{hex_text, quoted}
use Rattle.line_text.proofs.Following.{then_put}
use Rattle.show_text.proofs.profiles.put_profile_back.Goals as goal

pub returns : goal.returns
returns g c =
    let puts = g.O.TextOut.Puts in let laws = g.O.TextOut.lawful in
    let p = meant (g.D.Meanings.tables c.args.texts.now) profile (profile_view c.args.profile.now) in let last = p.1.1.1.1.1.1 in
    then_put puts laws (codes " time ") c.put.ensures (then_put puts laws (decimal p.1.1.0) c.put_number.ensures (then_put puts laws (codes " duration ") c.put-2.ensures (then_put puts laws (decimal p.1.1.1.0) c.put_number-2.ensures (then_put puts laws (codes " id ") c.put-3.ensures (then_put puts laws (hex_text last.0) c.put_bytes.ensures (then_put puts laws (codes " dropped ") c.put-4.ensures (then_put puts laws (decimal last.1.0) c.put_number-3.ensures (then_put puts laws (codes " format ") c.put-5.ensures (then_put puts laws (quoted last.1.1.0) c.put_text.ensures (then_put puts laws (codes " payload ") c.put-6.ensures (then_put puts laws (hex_text last.1.1.1.0) c.put_bytes-2.ensures (c.put-7.ensures))))))))))))

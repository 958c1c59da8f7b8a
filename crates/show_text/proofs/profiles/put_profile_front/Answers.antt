use Rattle.std.proofs.Common.{codes}
use Rattle.std.specs.Fmt.{decimal}
use Rattle.schema.specs.Messages.{profile}
use Rattle.prof_rec.specs.Views.{profile_view}
use Rattle.shown.specs.Direct.{meant}
use Rattle.shown.specs.ShowText.{type_text}
use Rattle.line_text.proofs.Following.{then_put}
use Rattle.show_text.proofs.profiles.put_profile_front.Goals as goal

pub returns : goal.returns
returns g c =
    let puts = g.O.TextOut.Puts in let laws = g.O.TextOut.lawful in
    let p = meant (g.D.Meanings.tables c.args.texts.now) profile (profile_view c.args.profile.now) in
    then_put puts laws (codes "    profile ") c.put.ensures (then_put puts laws (decimal c.args.place) c.put_number.ensures (then_put puts laws (codes " type ") c.put-2.ensures (then_put puts laws (type_text p.0) c.put_type.ensures (then_put puts laws (codes " period ") c.put-3.ensures (then_put puts laws (type_text p.1.1.1.1.0) c.put_type-2.ensures (then_put puts laws (codes " ") c.put-4.ensures (c.put_number-2.ensures)))))))

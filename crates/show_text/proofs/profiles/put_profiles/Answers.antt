use Rattle.std.proofs.Common.{refl, subst, ap, ◌+◌}
use Rattle.schema.specs.Messages.{profile}
use Rattle.prof_rec.specs.Views.{profile_view}
use Rattle.shown.specs.Direct.{meant}
use Rattle.shown.specs.TextLine.{lines_text}
use Rattle.shown.specs.ShowText.{profile_lines}
use Rattle.line_text.proofs.Lines.{put_next_numbered, put_numbered_of}
use Rattle.show_text.proofs.profiles.put_profiles.Goals as goal

pub loop-profile-init : goal.loop-profile-init
loop-profile-init g c = (refl, g.O.TextOut.lawful.none _)

pub loop-profile-preserved : goal.loop-profile-preserved
loop-profile-preserved g c =
    let d = g.D.Meanings.tables c.args.texts.now in let i = c.loop-profile.invariant in (
      ap (λ n. n + 1) i.0,
      put_next_numbered g.O.TextOut.Puts g.O.TextOut.lawful profile_lines (λ x. meant d profile (profile_view x))
          c.args.profiles.now c.loop-profile.profile-index c.profile-item.result c.profile-item.result c.loop-profile-test.true c.profile-item.is i.1
          (subst (λ n. g.O.TextOut.Puts (c.loop-profile.out, c.loop-profile.to) (lines_text (profile_lines n (meant d profile (profile_view c.profile-item.result)))) (c.put_profile.new.out, c.put_profile.new.to)) i.0 c.put_profile.ensures),
    )

pub returns : goal.returns
returns g c =
    put_numbered_of g.O.TextOut.Puts profile_lines (meant (g.D.Meanings.tables c.args.texts.now) profile) profile_view c.args.profiles.now
    c.loop-profile.profile-index c.loop-profile-test.false c.loop-profile.invariant.1

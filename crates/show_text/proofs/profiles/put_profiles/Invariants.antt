use Rattle.std.proofs.Common.{◌≡◌, take}
use Rattle.schema.specs.Messages.{profile}
use Rattle.prof_rec.specs.Views.{profile_view}
use Rattle.shown.specs.Direct.{meant}
use Rattle.shown.specs.ShowText.{profile_lines}
use Rattle.line_text.proofs.Lines.{numbered_text}
use Rattle.show_text.proofs.profiles.put_profiles.Given as goal

abbrev pub invariant-loop-profile : goal.invariant-loop-profile
invariant-loop-profile g l = (l.place ≡ l.profile-index)
    × g.O.TextOut.Puts (l.initial.out, l.initial.to)
    (numbered_text profile_lines (λ x. meant (g.D.Meanings.tables l.texts) profile (profile_view x)) 0 (take l.profile-index l.profiles)) (l.out, l.to)

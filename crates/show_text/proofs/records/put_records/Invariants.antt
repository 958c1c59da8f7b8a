use Rattle.std.proofs.Common.{◌≡◌, take}
use Rattle.schema.specs.Messages.{resource_profiles}
use Rattle.prof_rec.specs.Views.{resource_profiles_view}
use Rattle.shown.specs.Direct.{meant}
use Rattle.shown.specs.ShowText.{resource_lines}
use Rattle.line_text.proofs.Lines.{numbered_text}
use Rattle.show_text.proofs.records.put_records.Given as goal

abbrev pub invariant-loop-record : goal.invariant-loop-record
invariant-loop-record g l = (l.place ≡ l.record-index)
    × g.O.TextOut.Puts (l.initial.out, l.initial.to)
    (numbered_text resource_lines (λ x. meant (g.D.Meanings.tables l.texts) resource_profiles (resource_profiles_view x)) 0 (take l.record-index l.records)) (l.out, l.to)

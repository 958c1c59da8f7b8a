use Rattle.std.proofs.Common.{◌≡◌, take}
use Rattle.schema.specs.Messages.{scope_profiles}
use Rattle.prof_rec.specs.Views.{scope_profiles_view}
use Rattle.shown.specs.Direct.{meant}
use Rattle.shown.specs.ShowText.{scope_lines}
use Rattle.line_text.proofs.Lines.{numbered_text}
use Rattle.show_text.proofs.records.put_scopes.Given as goal

abbrev pub invariant-loop-record : goal.invariant-loop-record
invariant-loop-record g l = (l.place ≡ l.record-index)
    × g.O.TextOut.Puts (l.initial.out, l.initial.to)
    (numbered_text scope_lines (λ x. meant (g.D.Meanings.tables l.texts) scope_profiles (scope_profiles_view x)) 0 (take l.record-index l.records)) (l.out, l.to)

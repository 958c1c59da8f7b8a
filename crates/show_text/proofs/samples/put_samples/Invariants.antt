use Rattle.std.proofs.Common.{take}
use Rattle.schema.specs.Messages.{sample}
use Rattle.prof_rec.specs.Views.{sample_view}
use Rattle.shown.specs.Direct.{meant}
use Rattle.shown.specs.ShowText.{sample_lines}
use Rattle.line_text.proofs.Lines.{numbered_text}
use Rattle.show_text.proofs.samples.put_samples.Given as goal

abbrev pub invariant-loop-place : goal.invariant-loop-place
invariant-loop-place g l =
    g.O.TextOut.Puts (l.initial.out, l.initial.to)
    (numbered_text sample_lines (λ x. meant (g.D.Meanings.tables l.texts) sample (sample_view x)) 0 (take l.place l.samples)) (l.out, l.to)

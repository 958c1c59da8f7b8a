use Rattle.std.proofs.Common.{take}
use Rattle.std.specs.List.{flat_map}
use Rattle.schema.specs.Messages.{line}
use Rattle.dict_rec.specs.Views.{line_view}
use Rattle.shown.specs.Direct.{meant}
use Rattle.shown.specs.TextLine.{line_text}
use Rattle.shown.specs.ShowText.{source_line}
use Rattle.entry_text.proofs.stacks.put_source_lines.Given as goal

abbrev pub invariant-loop-source : goal.invariant-loop-source
invariant-loop-source g l =
    g.O.TextOut.Puts (l.initial.out, l.initial.to)
    (flat_map (λ s. line_text (source_line (meant (g.D.Meanings.tables l.texts) line (line_view s)))) (take l.source-index l.lines)) (l.out, l.to)

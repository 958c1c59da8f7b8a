use Rattle.std.proofs.Common.{take}
use Rattle.std.specs.List.{flat_map}
use Rattle.shown.specs.TextLine.{line_text}
use Rattle.shown.specs.ShowText.{entity_line}
use Rattle.show_text.proofs.values.put_entities.Given as goal

abbrev pub invariant-loop-element : goal.invariant-loop-element
invariant-loop-element g l =
    g.O.TextOut.Puts (l.initial.out, l.initial.to) (flat_map (λ b. line_text (entity_line b)) (take l.element-index l.elements)) (l.out, l.to)

use Rattle.std.proofs.Common.{take}
use Rattle.std.specs.List.{flat_map}
use Rattle.any_value.specs.Views.{attribute_view}
use Rattle.shown.specs.TextLine.{line_text}
use Rattle.shown.specs.ShowText.{key_value_line}
use Rattle.show_text.proofs.values.put_key_values.Given as goal

abbrev pub invariant-loop-pair : goal.invariant-loop-pair
invariant-loop-pair g l =
    g.O.TextOut.Puts (l.initial.out, l.initial.to) (flat_map (λ p. line_text (key_value_line l.level (attribute_view p))) (take l.pair-index l.pairs)) (l.out, l.to)

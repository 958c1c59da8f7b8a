use Rattle.std.proofs.Common.{◌++◌, codes, take}
use Rattle.std.specs.List.{flat_map}
use Rattle.line_text.proofs.words.put_more_numbers.Given as goal

abbrev pub invariant-loop-number : goal.invariant-loop-number
invariant-loop-number g l =
    g.O.TextOut.Puts (l.initial.out, l.initial.to) (flat_map (λ n. codes " " ++ g.N.Decimal.text n) (take l.number-index l.numbers)) (l.out, l.to)

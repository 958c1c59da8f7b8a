use Rattle.std.proofs.Common.{take}
use Rattle.std.specs.List.{flat_map}
use Rattle.shown.specs.Quoted.{hex_digits}
use Rattle.line_text.proofs.quoting.put_digits.Given as goal

abbrev pub invariant-loop-byte : goal.invariant-loop-byte
invariant-loop-byte g l = g.O.TextOut.Puts (l.initial.out, l.initial.to) (flat_map hex_digits (take l.byte-index l.bytes)) (l.out, l.to)

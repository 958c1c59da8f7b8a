use Rattle.std.proofs.Common.{◌≡◌, ◌++◌, take}
use Rattle.std.specs.List.{flat_map}
use Rattle.schema.specs.Each.{Each}
use Rattle.schema.specs.Texts.{FitsNumber, varint, number_to}
use Rattle.schema.specs.Prefix.{IsPrefix}
use Rattle.pb_wire.proofs.put_rows.push_packed.Given as goal

-- the varints of the numbers so far follow what was there, and the numbers are in their range
abbrev pub invariant-loop-item : goal.invariant-loop-item
invariant-loop-item g l =
    (l.out ≡ l.initial.out ++ flat_map (λ x. varint (number_to g.N.Number.format (g.N.Number.value x))) (take l.item-index l.items)) × IsPrefix l.initial.out l.out
    × Each (λ x. FitsNumber g.N.Number.format (g.N.Number.value x)) (take l.item-index l.items)

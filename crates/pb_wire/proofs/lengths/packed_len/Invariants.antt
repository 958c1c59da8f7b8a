use Rattle.std.proofs.Common.{◌≡◌, length, take}
use Rattle.std.specs.List.{flat_map}
use Rattle.schema.specs.Texts.{varint, number_to}
use Rattle.pb_wire.proofs.lengths.packed_len.Given as goal

-- the length of the elements so far
abbrev pub invariant-loop-item : goal.invariant-loop-item
invariant-loop-item g l = l.len ≡ length (flat_map (λ x. varint (number_to g.N.Number.format (g.N.Number.value x))) (take l.item-index l.items))

use Rattle.std.proofs.Common.{◌≡◌, length, take}
use Rattle.std.specs.List.{flat_map}
use Rattle.schema.specs.Shape.{I32}
use Rattle.schema.specs.Texts.{varint, number_to}
use Rattle.pb_wire.specs.TableKinds.{table_of}
use Rattle.pb_wire.proofs.index_rows.packed_len.Given as goal

-- the length of the new indexes so far
abbrev pub invariant-loop-item : goal.invariant-loop-item
invariant-loop-item g l = l.len ≡ length (flat_map (λ x. varint (number_to I32 (g.I.NewIndexes.to l.indexes (table_of l.table) x))) (take l.item-index l.items))

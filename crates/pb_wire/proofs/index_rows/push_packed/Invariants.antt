use Rattle.std.proofs.Common.{◌≡◌, ◌++◌, take}
use Rattle.std.specs.List.{flat_map}
use Rattle.schema.specs.Each.{Each}
use Rattle.schema.specs.Shape.{I32}
use Rattle.schema.specs.Texts.{FitsNumber, varint, number_to}
use Rattle.schema.specs.Prefix.{IsPrefix}
use Rattle.pb_wire.specs.TableKinds.{table_of}
use Rattle.pb_wire.proofs.index_rows.push_packed.Given as goal

-- the varints of the new indexes so far follow what was there, and the old ones have 32 bits
abbrev pub invariant-loop-item : goal.invariant-loop-item
invariant-loop-item g l =
    (l.out ≡ l.initial.out ++ flat_map (λ x. varint (number_to I32 (g.I.NewIndexes.to l.indexes (table_of l.table) x))) (take l.item-index l.items)) × IsPrefix l.initial.out l.out
    × Each (FitsNumber I32) (take l.item-index l.items)

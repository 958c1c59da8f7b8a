-- The code's table lengths by table.
use Rattle.std.specs.Prelude.{ℕ, get_or, ◌==◌, if◌then◌else◌}
use Rattle.pb_wire.specs.TableKinds.{place_of, table_of}
use Rattle.pb_wire.specs.declared.table_kind.TableKind.{TableKind}
use Rattle.otlp_msg.specs.declared.table_lengths.TableLengths.{TableLengths}

-- an empty table counts as its zero entry alone
abbrev pub one_at_least : ℕ → ℕ
one_at_least n = if n == 0 then 1 else n

abbrev pub lengths_view : TableLengths → TableKind → ℕ
lengths_view l table = one_at_least (get_or l.lengths (place_of (table_of table)) 0)

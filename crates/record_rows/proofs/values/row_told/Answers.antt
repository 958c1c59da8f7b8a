use Rattle.std.proofs.Common.{arith}
use Rattle.schema.specs.AnySpell.{any_text}
use Rattle.schema_laws.proofs.Lengths.{bytes_field_len}
use Rattle.any_value.specs.Views.{any_view}
use Rattle.record_rows.proofs.values.row_told.Goals as goal

pub put_value-requires-clause-room : goal.put_value-requires-clause-room
put_value-requires-clause-room c =
    let few = c.requires in
    let row = bytes_field_len 2 (any_text (any_view c.args.value.now)) (omega arith) (omega arith) in
    omega arith

use Rattle.std.proofs.Common.{subst}
use Rattle.tables.specs.Keys.{Interned}
use Rattle.tables.proofs.Interning.{interned_first}
use Rattle.tables.proofs.bytes_table.BytesTable.start.Goals as goal

pub returns : goal.returns
returns g c =
    interned_first c.args.bytes.now _ _ (subst (λ l. Interned l c.args.bytes.now c.insert.new.self c.in_ok-insert.field-0) c.begin-table.ensures c.in_ok-insert.ensures.interned.ok)

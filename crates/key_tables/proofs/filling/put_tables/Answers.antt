use Rattle.schema.specs.Texts.{items_text}
use Rattle.key_tables.proofs.Prefixes.{prefix_itself, prefix_longer}
use Rattle.key_tables.proofs.Spelling.{none_put, table_put}
use Rattle.std.proofs.Common.{◌+◌}
use Rattle.key_tables.proofs.filling.put_tables.Goals as goal

pub loop-place-init : goal.loop-place-init
loop-place-init g c = (none_put c.args.out.now, prefix_itself c.args.out.now)

pub loop-place-preserved : goal.loop-place-preserved
loop-place-preserved g c = (
  table_put c.args.out.now c.loop-place.out c.put_table.new.out c.args.tables.now c.loop-place.place c.index-tables-place.result c.loop-place-test.true c.index-tables-place.is
      c.loop-place.invariant.0 c.in_default.ensures.ok,
  prefix_longer c.args.out.now c.loop-place.out (items_text (c.loop-place.place + 1) c.index-tables-place.result) c.put_table.new.out c.in_default.ensures.ok c.loop-place.invariant.1,
)

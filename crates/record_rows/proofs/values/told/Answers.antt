use Rattle.schema.specs.AnyMerge.{any_levels}
use Rattle.any_value.specs.Views.{any_view}
use Rattle.record_rows.proofs.ShortPieces.{value_short}
use Rattle.record_rows.proofs.values.told.Goals as goal

pub written-requires : goal.written-requires
written-requires c = value_short (any_levels 2) c.in_ok-pieces.pieces (any_view c.in-Ok.value) c.in_ok-pieces.ensures c.in-Ok.ensures

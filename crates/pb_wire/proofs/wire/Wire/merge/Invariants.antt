use Rattle.std.proofs.Common.{◌≡◌, ◌+◌, length}
use Rattle.schema.specs.Merge.{take_field, merge}
use Rattle.schema.specs.Run.{run}
use Rattle.schema.specs.Decoding.{trace}
use Rattle.pb_wire.proofs.wire.Wire.merge.Given as goal

abbrev pub invariant-loop-rest : goal.invariant-loop-rest
invariant-loop-rest g l = record { there : l.at + length l.rest ≡ l.base + length l.bytes; same : run (take_field g.Self.Rows.shape) (g.Self.Rows.view l.self) (trace l.at l.rest) ≡ merge g.Self.Rows.shape (g.Self.Rows.view l.initial.self) l.base l.bytes }

abbrev pub decreases-loop-rest : goal.decreases-loop-rest
decreases-loop-rest g l = length l.rest

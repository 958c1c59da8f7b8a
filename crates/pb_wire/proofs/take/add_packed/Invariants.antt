use Rattle.std.proofs.Common.{◌≡◌, length, map}
use Rattle.schema.specs.Merge.{more_packed}
use Rattle.pb_wire.proofs.take.add_packed.Given as goal

abbrev pub invariant-loop-rest : goal.invariant-loop-rest
invariant-loop-rest g l = more_packed g.N.Number.format l.at l.rest (map g.N.Number.value l.slot) ≡ more_packed g.N.Number.format l.at l.bytes (map g.N.Number.value l.initial.slot)

abbrev pub decreases-loop-rest : goal.decreases-loop-rest
decreases-loop-rest g l = length l.rest

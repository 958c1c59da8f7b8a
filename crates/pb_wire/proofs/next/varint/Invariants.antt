use Rattle.std.proofs.Common.{◌≡◌, ◌-◌, ◌<◌, ◌^◌}
use Rattle.schema.specs.Decoding.{varint_at}
use Rattle.schema_laws.proofs.VarintLoop.{above}
use Rattle.pb_wire.proofs.next.varint.Given as goal

abbrev pub invariant-loop-place : goal.invariant-loop-place
invariant-loop-place l = record { scale : l.weight ≡ 128 ^ l.place; small : l.value < l.weight; same : above l.value l.weight (varint_at (9 - l.place) l.rest) ≡ varint_at 9 l.bytes }

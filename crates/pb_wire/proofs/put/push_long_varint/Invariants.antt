use Rattle.std.proofs.Common.{◌≡◌, ◌++◌}
use Rattle.schema.specs.Texts.{varint}
use Rattle.schema.specs.Prefix.{IsPrefix}
use Rattle.pb_wire.proofs.put.push_long_varint.Given as goal

-- what is put and the rest's varint are the whole varint
abbrev pub invariant-loop-rest : goal.invariant-loop-rest
invariant-loop-rest l = (l.out ++ varint l.rest ≡ l.initial.out ++ varint l.fn.value) × IsPrefix l.initial.out l.out

abbrev pub decreases-loop-rest : goal.decreases-loop-rest
decreases-loop-rest l = l.rest

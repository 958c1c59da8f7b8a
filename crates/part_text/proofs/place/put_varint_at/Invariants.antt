use Rattle.std.proofs.Common.{◌≡◌, ◌+◌, ◌++◌, length, take, drop}
use Rattle.schema.specs.Texts.{varint}
use Rattle.part_text.proofs.place.put_varint_at.Given as goal

abbrev pub invariant-loop-rest : goal.invariant-loop-rest
invariant-loop-rest l = record {
  put : take l.place l.bytes ++ varint l.rest ≡ take l.at l.fn.bytes ++ varint l.value;
  after : drop l.place l.bytes ≡ drop l.place l.fn.bytes;
  same : length l.bytes ≡ length l.fn.bytes;
  stop : l.place + length (varint l.rest) ≡ l.at + length (varint l.value);
}

abbrev pub decreases-loop-rest : goal.decreases-loop-rest
decreases-loop-rest l = l.rest

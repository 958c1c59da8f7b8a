use Rattle.std.proofs.Common.{arith, sym}
use Rattle.schema_laws.proofs.Onto.{varint_length}
use Rattle.pb_wire.proofs.put.varint_len.Goals as goal

pub returns-then-value-lt16384-clause-len : goal.returns-then-value-lt16384-clause-len
returns-then-value-lt16384-clause-len c = sym (varint_length 0 c.args.value (omega arith) (omega arith))

pub returns-then-value-lt2097152-clause-len : goal.returns-then-value-lt2097152-clause-len
returns-then-value-lt2097152-clause-len c = sym (varint_length 1 c.args.value (omega arith) (omega arith))

pub returns-then-value-lt268435456-clause-len : goal.returns-then-value-lt268435456-clause-len
returns-then-value-lt268435456-clause-len c = sym (varint_length 2 c.args.value (omega arith) (omega arith))

pub returns-then-value-lt34359738368-clause-len : goal.returns-then-value-lt34359738368-clause-len
returns-then-value-lt34359738368-clause-len c = sym (varint_length 3 c.args.value (omega arith) (omega arith))

pub returns-then-value-lt4398046511104-clause-len : goal.returns-then-value-lt4398046511104-clause-len
returns-then-value-lt4398046511104-clause-len c = sym (varint_length 4 c.args.value (omega arith) (omega arith))

pub returns-then-value-lt562949953421312-clause-len : goal.returns-then-value-lt562949953421312-clause-len
returns-then-value-lt562949953421312-clause-len c = sym (varint_length 5 c.args.value (omega arith) (omega arith))

pub returns-then-value-lt72057594037927936-clause-len : goal.returns-then-value-lt72057594037927936-clause-len
returns-then-value-lt72057594037927936-clause-len c = sym (varint_length 6 c.args.value (omega arith) (omega arith))

pub returns-then-value-lt9223372036854775808-clause-len : goal.returns-then-value-lt9223372036854775808-clause-len
returns-then-value-lt9223372036854775808-clause-len c = sym (varint_length 7 c.args.value (omega arith) (omega arith))

pub returns-else-value-lt9223372036854775808-clause-len : goal.returns-else-value-lt9223372036854775808-clause-len
returns-else-value-lt9223372036854775808-clause-len c = sym (varint_length 8 c.args.value (omega arith) (omega arith))

use Rattle.std.proofs.Common.{arith}
use Rattle.pb_wire.proofs.Prefixes.{growing}
use Rattle.dict_rec.proofs.function.FunctionRows.put_rows.Goals as goal

pub returns-in_err-put_index-3-clause-err : goal.returns-in_err-put_index-3-clause-err
returns-in_err-put_index-3-clause-err g c = grind (arith, growing)

pub returns-in_err-put_number-clause-err : goal.returns-in_err-put_number-clause-err
returns-in_err-put_number-clause-err g c = grind (arith, growing)

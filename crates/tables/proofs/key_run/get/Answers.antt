use Rattle.std.proofs.Common.{arith}
use Rattle.tables.proofs.KeyRuns.{length-keys}
use Rattle.tables.proofs.key_run.get.Goals as goal

pub key_at-requires-clause-within : goal.key_at-requires-clause-within
key_at-requires-clause-within c =
    omega (arith, c.if-place-count.true, c.count.ensures, length-keys 0 c.args.keys.now.rows.items c.args.keys.now.run.items)

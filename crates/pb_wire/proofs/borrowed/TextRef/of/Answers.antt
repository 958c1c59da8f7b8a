use Rattle.std.proofs.lemmas.Str.{is_utf8-from_IsUtf8}
use Rattle.pb_wire.proofs.borrowed.TextRef.of.Goals as goal

pub invariant_of-result : goal.invariant_of-result
invariant_of-result c = is_utf8-from_IsUtf8 c.args.inner.now c.utf8.inner

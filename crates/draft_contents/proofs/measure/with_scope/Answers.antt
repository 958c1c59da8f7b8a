use Rattle.std.proofs.Common.{arith}
use Rattle.draft_contents.proofs.measure.with_scope.Goals as goal

pub text_len-back-requires-clause-room : goal.text_len-back-requires-clause-room
text_len-back-requires-clause-room g c = let l = c.requires.0 in omega (arith, l)

use Rattle.split_merge.proofs.Merges.{merged_bytes, merged_only}
use Rattle.split_merge.proofs.merging.finished.Goals as goal

pub returns-in-Ok-clause-ok : goal.returns-in-Ok-clause-ok
returns-in-Ok-clause-ok g c = merged_bytes c.args.draft c.in-Ok.bytes c.in-Ok.ensures.ok

pub returns-in-Ok-clause-accepted : goal.returns-in-Ok-clause-accepted
returns-in-Ok-clause-accepted g c messages m = c.in-Ok.ensures.accepted _ m.0

pub returns-in-Ok-clause-unique : goal.returns-in-Ok-clause-unique
returns-in-Ok-clause-unique g c = merged_only c.args.draft c.in-Ok.bytes c.in-Ok.ensures.ok

use Rattle.std.proofs.Common.{arith}
use Rattle.meaning.specs.Memo.{index_in}
use Rattle.key_tables.specs.Keys.{at}
use Rattle.draft_contents.specs.Adding.{added_moved, moved_parts}
use Rattle.draft_contents.specs.Singles.{coming, joining_of}
use Rattle.draft_contents.proofs.Additions.{left_measurable, measurable, writable}
use Rattle.draft_contents.proofs.adding.put_walked.Goals as goal

pub left_of-requires-clause-short : goal.left_of-requires-clause-short
left_of-requires-clause-short g c = measurable c.args.walk.now (coming c.args.incoming.now) c.tables-tables.ensures.source c.tables-tables.ensures.ready c.requires.part

pub measured-requires : goal.measured-requires
measured-requires g c =
    left_measurable (joining_of c.args.incoming.now) c.args.records.now (added_moved (index_in (at c.args.walk.now.memo)) c.in_ok-added.added)
    (moved_parts c.args.walk.now (coming c.args.incoming.now)) c.in_ok-added.ensures.is
    (measurable c.args.walk.now (coming c.args.incoming.now) c.tables-tables.ensures.source c.tables-tables.ensures.ready c.requires.part)

pub put_in_room-requires : goal.put_in_room-requires
put_in_room-requires g c =
    writable c.tables-tables.result.now c.left_of.new.records (added_moved (index_in (at c.args.walk.now.memo)) c.in_ok-added.added) (omega (arith, c.requires.limit, c.in-Ok.ensures.small))

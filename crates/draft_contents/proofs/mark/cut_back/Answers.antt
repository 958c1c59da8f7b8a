use Rattle.draft_contents.specs.Contents.{contents}
use Rattle.draft_contents.proofs.Drafts.{contents_same}
use Rattle.draft_contents.proofs.Marks.{records_there, seven_there, tables_there}
use Rattle.draft_contents.proofs.mark.cut_back.Goals as goal

pub back_to-requires-clause-seven : goal.back_to-requires-clause-seven
back_to-requires-clause-seven g c = seven_there c.args.mark (contents c.args.tables.now c.args.records.now) c.requires

pub back_to-requires-clause-mark : goal.back_to-requires-clause-mark
back_to-requires-clause-mark g c = tables_there c.args.mark (contents c.args.tables.now c.args.records.now) c.requires

pub back_to-requires-2 : goal.back_to-requires-2
back_to-requires-2 g c = records_there c.args.mark (contents c.args.tables.now c.args.records.now) c.requires

pub returns : goal.returns
returns g c = contents_same c.back_to.new.self _ c.back_to-2.new.self _ c.back_to.ensures c.back_to-2.ensures

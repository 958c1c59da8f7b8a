use Rattle.std.proofs.Common.{[]}
use Rattle.draft_contents.proofs.Drafts.{begun_stands}
use Rattle.dict_build.proofs.draft.Draft.begin.Goals as goal

pub invariant_of-result : goal.invariant_of-result
invariant_of-result g c = ([], begun_stands c.in_ok-tables.tables c.begin.result c.in_ok-tables.ensures c.begin.ensures)

pub returns : goal.returns
returns g c = begun_stands c.in_ok-tables.tables c.begin.result c.in_ok-tables.ensures c.begin.ensures

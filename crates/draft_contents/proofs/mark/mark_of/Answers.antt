use Rattle.draft_contents.proofs.mark.mark_of.Goals as goal

pub mark-requires : goal.mark-requires
mark-requires g c = c.requires.1.draft.tables.seven

pub returns : goal.returns
returns g c = record { keys = c.mark.ensures; parts = c.mark-2.ensures; stands = c.requires }

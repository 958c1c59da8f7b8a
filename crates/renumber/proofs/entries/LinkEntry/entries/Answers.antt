use Rattle.std.proofs.Common.{map, sym, subst}
use Rattle.schema.specs.Each.{Each}
use Rattle.schema.specs.Messages.{link}
use Rattle.dict_rec.specs.Views.{link_view}
use Rattle.renumber.specs.Entries.{IsPart}
use Rattle.renumber.proofs.Parts.{link_parts}
use Rattle.renumber.proofs.entries.LinkEntry.entries.Goals as goal

pub returns-clause-parts : goal.returns-clause-parts
returns-clause-parts c o =
    subst (λ xs. Each (IsPart link c.args.dictionary.now) (map link_view xs)) (sym c.as_slice.ensures) (link_parts c.args.dictionary.now o)

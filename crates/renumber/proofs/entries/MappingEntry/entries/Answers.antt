use Rattle.std.proofs.Common.{map, sym, subst}
use Rattle.schema.specs.Each.{Each}
use Rattle.schema.specs.Messages.{mapping}
use Rattle.dict_rec.specs.Views.{mapping_view}
use Rattle.renumber.specs.Entries.{IsPart}
use Rattle.renumber.proofs.Parts.{mapping_parts}
use Rattle.renumber.proofs.entries.MappingEntry.entries.Goals as goal

pub returns-clause-parts : goal.returns-clause-parts
returns-clause-parts c o =
    subst (λ xs. Each (IsPart mapping c.args.dictionary.now) (map mapping_view xs)) (sym c.as_slice.ensures) (mapping_parts c.args.dictionary.now o)

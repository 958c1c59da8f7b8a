use Rattle.std.proofs.Common.{map, sym, subst}
use Rattle.schema.specs.Each.{Each}
use Rattle.schema.specs.Messages.{location}
use Rattle.dict_rec.specs.Views.{location_view}
use Rattle.renumber.specs.Entries.{IsPart}
use Rattle.renumber.proofs.Parts.{location_parts}
use Rattle.renumber.proofs.entries.LocationEntry.entries.Goals as goal

pub returns-clause-parts : goal.returns-clause-parts
returns-clause-parts c o =
    subst (λ xs. Each (IsPart location c.args.dictionary.now) (map location_view xs)) (sym c.as_slice.ensures) (location_parts c.args.dictionary.now o)

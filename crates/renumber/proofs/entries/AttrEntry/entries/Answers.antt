use Rattle.std.proofs.Common.{map, sym, subst}
use Rattle.schema.specs.Each.{Each}
use Rattle.schema.specs.Messages.{attribute}
use Rattle.dict_rec.specs.Views.{attribute_view}
use Rattle.renumber.specs.Entries.{IsPart}
use Rattle.renumber.proofs.Parts.{attribute_parts}
use Rattle.renumber.proofs.entries.AttrEntry.entries.Goals as goal

pub returns-clause-parts : goal.returns-clause-parts
returns-clause-parts c o =
    subst (λ xs. Each (IsPart attribute c.args.dictionary.now) (map attribute_view xs)) (sym c.as_slice.ensures) (attribute_parts c.args.dictionary.now o)

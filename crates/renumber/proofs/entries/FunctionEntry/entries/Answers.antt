use Rattle.std.proofs.Common.{map, sym, subst}
use Rattle.schema.specs.Each.{Each}
use Rattle.schema.specs.Messages.{function}
use Rattle.dict_rec.specs.Views.{function_view}
use Rattle.renumber.specs.Entries.{IsPart}
use Rattle.renumber.proofs.Parts.{function_parts}
use Rattle.renumber.proofs.entries.FunctionEntry.entries.Goals as goal

pub returns-clause-parts : goal.returns-clause-parts
returns-clause-parts c o =
    subst (λ xs. Each (IsPart function c.args.dictionary.now) (map function_view xs)) (sym c.as_slice.ensures) (function_parts c.args.dictionary.now o)

use Rattle.std.proofs.Common.{map, sym, subst}
use Rattle.schema.specs.Each.{Each}
use Rattle.schema.specs.Messages.{stack}
use Rattle.dict_rec.specs.Views.{stack_view}
use Rattle.renumber.specs.Entries.{IsPart}
use Rattle.renumber.proofs.Parts.{stack_parts}
use Rattle.renumber.proofs.entries.StackEntry.entries.Goals as goal

pub returns-clause-parts : goal.returns-clause-parts
returns-clause-parts c o =
    subst (λ xs. Each (IsPart stack c.args.dictionary.now) (map stack_view xs)) (sym c.as_slice.ensures) (stack_parts c.args.dictionary.now o)

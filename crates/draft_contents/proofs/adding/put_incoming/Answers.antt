use Rattle.std.proofs.Common.{sym, subst}
use Rattle.schema.specs.Messages.{resource_profiles}
use Rattle.meaning.specs.Canonical.{records as records_of}
use Rattle.dict_rec.specs.declared.dictionary.Dictionary.{Dictionary}
use Rattle.renumber.specs.Entries.{IsPart}
use Rattle.draft_contents.specs.Singles.{coming}
use Rattle.draft_contents.proofs.adding.put_incoming.Goals as goal

pub put_walked-requires-clause-part : goal.put_walked-requires-clause-part
put_walked-requires-clause-part g c =
    subst (λ (o : Dictionary). IsPart (records_of resource_profiles) o (coming c.args.incoming.now, tt)) (sym c.walk_over.ensures.moves.same) c.requires.part

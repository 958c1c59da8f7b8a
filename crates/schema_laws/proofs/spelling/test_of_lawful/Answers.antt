use Rattle.schema_laws.proofs.Lawfulness.{lawful_from}
use Rattle.schema_laws.proofs.spelling.test_of_lawful.Goals as goal

pub returns : goal.returns
returns c = lawful_from

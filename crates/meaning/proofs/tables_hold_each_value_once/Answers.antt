use Rattle.meaning.proofs.Resolution.{tables-cover, tables-only, tables-distinct}
use Rattle.meaning.proofs.Closure.{entries-distinct}
use Rattle.meaning.proofs.tables_hold_each_value_once.Goals as goal

pub returns : goal.returns
returns c = record { all = tables-cover; only = tables-only; once = tables-distinct; entries = entries-distinct }

use Rattle.tables.proofs.KeyRuns.{keys_none, none_kept}
use Rattle.tables.proofs.key_run.no_keys.Goals as goal

pub returns-clause-kept : goal.returns-clause-kept
returns-clause-kept c = rw (c.new.ensures.items, c.new-2.ensures.items, c.new-3.ensures.items, c.new-4.ensures.items) none_kept

pub returns-clause-none : goal.returns-clause-none
returns-clause-none c = rw (c.new.ensures.items, c.new-2.ensures.items) keys_none

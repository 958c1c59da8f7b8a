use Rattle.std.proofs.Common.{length}
use Rattle.tables.specs.Keys.{IsAt}
use Rattle.tables.specs.KeyRun.{hash_at, keys_in}
use Rattle.tables.proofs.ChainSteps.{Searches}
use Rattle.tables.proofs.key_run.find.Given as goal

-- no place from here on has the key
abbrev pub invariant-loop-next : goal.invariant-loop-next
invariant-loop-next l =
    let rows = l.keys.rows.items in
    Searches (hash_at rows) (length l.keys.heads.items) (length rows) l.hash (IsAt (keys_in rows l.keys.run.items) l.bytes) l.next

abbrev pub decreases-loop-next : goal.decreases-loop-next
decreases-loop-next l = l.next

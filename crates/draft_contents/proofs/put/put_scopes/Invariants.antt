use Rattle.std.proofs.Common.{◌≡◌, ◌++◌, map, take}
use Rattle.schema.specs.Prefix.{IsPrefix}
use Rattle.prof_rec.specs.Views.{scope_profiles_view}
use Rattle.draft_contents.specs.Adding.{scopes_moved}
use Rattle.draft_contents.proofs.put.put_scopes.Given as goal

-- those so far were put
abbrev pub invariant-loop-record : goal.invariant-loop-record
invariant-loop-record g l =
    (l.records ≡ l.fn.records ++ scopes_moved (g.I.NewIndexes.to l.indexes) (map scope_profiles_view (take l.record-index l.added))) × IsPrefix l.fn.records l.records

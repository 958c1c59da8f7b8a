use Rattle.std.proofs.Common.{None, set}
use Rattle.pb_wire.specs.TableKinds.{place_of, table_of}
use Rattle.renumber.proofs.Memos.{set_seen}
use Rattle.renumber.proofs.memo.unset.Goals as goal

pub returns : goal.returns
returns c =
    set_seen c.args.tables.now (place_of (table_of c.args.spot.kind)) c.get_mut.result.now _ (λ v. v.items) (λ l. set l c.args.spot.place None) c.get_mut.ensures.value c.unset_at.ensures

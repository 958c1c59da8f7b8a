use Rattle.std.proofs.Common.{Some, refl, set}
use Rattle.pb_wire.specs.TableKinds.{place_of, table_of}
use Rattle.renumber.proofs.Memos.{set_seen}
use Rattle.renumber.proofs.MemoSteps.{same_memo}
use Rattle.renumber.proofs.memo.Memo.note.Goals as goal

pub returns-clause-noted : goal.returns-clause-noted
returns-clause-noted c =
    rw (← c.self.view_is)
    (same_memo _ _
    (set_seen c.self.inside.tables (place_of (table_of c.args.spot.kind)) c.get_mut.result.now _ (λ v. v.items) (λ l. set l c.args.spot.place (Some c.args.new)) c.get_mut.ensures.value refl)
    c.in_ok-push.ensures.items)

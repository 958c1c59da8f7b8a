use Rattle.std.proofs.Common.{◌≡◌, ◌++◌, ◌∷◌, [], sym, map}
use Rattle.std.proofs.lemmas.Result.{err_from_is_err_and}
use Rattle.std.proofs.lemmas.List.{map_push}
use Rattle.schema.specs.Merge.{take_field}
use Rattle.schema_laws.proofs.Rows.{take_many_message}
use Rattle.pb_wire.proofs.Occurrences.{take_many_other}
use Rattle.pb_wire.proofs.Merge.{fault_bind, ok_bind}
use Rattle.pb_wire.proofs.take.add_message.Goals as goal

pub returns-in_err-merge-in-Bytes : goal.returns-in_err-merge-in-Bytes
returns-in_err-merge-in-Bytes g c =
    let p = err_from_is_err_and c.from_residual.result c.from_residual.ensures.1 in
    let m = take_many_message g.T.Rows.shape (take_field g.T.Rows.shape) c.args.field.now.at c.args.field.now.end c.in-Bytes.bytes.now (map g.T.Rows.view c.args.slot.now) g.met.T.Rows.message in
    rw (p.1, p.2, c.in-Bytes.is) (fault_bind c.in_err-merge-in-Bytes.field-0.0 _ _ _ (sym m) (rw c.none-element.ensures at c.in_err-merge-in-Bytes.ensures))

pub returns-in_ok-add-in-Bytes : goal.returns-in_ok-add-in-Bytes
returns-in_ok-add-in-Bytes g c =
    let m = take_many_message g.T.Rows.shape (take_field g.T.Rows.shape) c.args.field.now.at c.args.field.now.end c.in-Bytes.bytes.now (map g.T.Rows.view c.args.slot.now) g.met.T.Rows.message in
    let e : map g.T.Rows.view c.add.new.self ≡ map g.T.Rows.view c.args.slot.now ++ g.T.Rows.view c.merge.new.self ∷ [] = rw c.in_ok-add-in-Bytes.ensures.ok (map_push g.T.Rows.view c.args.slot.now c.merge.new.self) in
    let s = sym (ok_bind (g.T.Rows.view c.merge.new.self) _ _ _ (sym m) (rw c.none-element.ensures at c.in_ok-merge-in-Bytes.ensures)) in
    rw (c.in-Bytes.is, e) s

pub returns-in_default : goal.returns-in_default
returns-in_default g c = take_many_other g.T.Rows.shape (take_field g.T.Rows.shape) c.args.field.now.at c.args.field.now.end c.args.field.now.payload (map g.T.Rows.view c.args.slot.now) g.met.T.Rows.message c.in_default.not-Bytes

use Rattle.schema.specs.Merge.{take_field}
use Rattle.schema_laws.proofs.Rows.{take_one_message}
use Rattle.pb_wire.proofs.Occurrences.{take_one_other}
use Rattle.pb_wire.proofs.take.take_message.Goals as goal

pub returns-in-Bytes : goal.returns-in-Bytes
returns-in-Bytes g c = rw (c.in-Bytes.is, take_one_message g.T.Rows.shape (take_field g.T.Rows.shape) c.args.field.now.at c.args.field.now.end c.in-Bytes.bytes.now (g.T.Rows.view c.args.slot.now) g.met.T.Rows.message) c.merge.ensures

pub returns-in_default : goal.returns-in_default
returns-in_default g c = take_one_other g.T.Rows.shape (take_field g.T.Rows.shape) c.args.field.now.at c.args.field.now.end c.args.field.now.payload (g.T.Rows.view c.args.slot.now) g.met.T.Rows.message c.in_default.not-Bytes

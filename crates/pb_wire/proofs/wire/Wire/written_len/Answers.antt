use Rattle.std.proofs.Common.{ap, arith}
use Rattle.schema.specs.Spell.{len_onto}
use Rattle.schema_laws.proofs.MovedValues.{moved_same}
use Rattle.schema_laws.proofs.Onto.{onto_len}
use Rattle.pb_wire.proofs.wire.Wire.written_len.Goals as goal

pub rows_len-requires : goal.rows_len-requires
rows_len-requires g c = omega (arith, c.requires, ap (len_onto g.Self.Rows.shape 0) (moved_same g.Self.Rows.shape (g.Self.Rows.view c.args.self.now)), onto_len g.Self.Rows.shape 0 (g.Self.Rows.view c.args.self.now))

pub returns : goal.returns
returns g c = omega (arith, c.rows_len.ensures, ap (len_onto g.Self.Rows.shape 0) (moved_same g.Self.Rows.shape (g.Self.Rows.view c.args.self.now)), onto_len g.Self.Rows.shape 0 (g.Self.Rows.view c.args.self.now))

use Rattle.std.proofs.Common.{ap, arith, ◌∙◌}
use Rattle.schema.specs.Spell.{len_onto, spell_onto}
use Rattle.schema_laws.proofs.MovedValues.{moved_same}
use Rattle.schema_laws.proofs.Lawfulness.{lawful_from}
use Rattle.schema_laws.proofs.Onto.{onto, onto_len}
use Rattle.schema_laws.proofs.Types.{typed_read_back}
use Rattle.pb_wire.proofs.wire.Wire.write.Goals as goal

pub put_rows-requires : goal.put_rows-requires
put_rows-requires g c = omega (arith, c.requires, ap (len_onto g.Self.Rows.shape 0) (moved_same g.Self.Rows.shape (g.Self.Rows.view c.args.self.now)), onto_len g.Self.Rows.shape 0 (g.Self.Rows.view c.args.self.now))

pub returns-clause-ok : goal.returns-clause-ok
returns-clause-ok g c =
    c.in_default.ensures.ok ∙ ap (spell_onto g.Self.Rows.shape c.args.out.now) (moved_same g.Self.Rows.shape (g.Self.Rows.view c.args.self.now)) ∙ onto g.Self.Rows.shape c.args.out.now (g.Self.Rows.view c.args.self.now)

pub returns-clause-back : goal.returns-clause-back
returns-clause-back g c =
    typed_read_back g.Self.Rows.shape g.met.Self.Rows.message (lawful_from g.Self.Rows.shape g.met.Self.Rows.lawful) (g.Self.Rows.view c.args.self.now) c.in_default.ensures.typed (omega (arith, c.requires))

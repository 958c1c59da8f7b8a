use Rattle.std.proofs.Common.{◌≡◌, Some, sym, ap, ◌∙◌, arith}
use Rattle.std.specs.List.{slice_get}
use Rattle.std.specs.Option.{option_copied}
use Rattle.schema.specs.Spell.{len_onto}
use Rattle.schema_laws.proofs.Lawfulness.{lawful_from}
use Rattle.schema_laws.proofs.MovedValues.{moved_same}
use Rattle.schema_laws.proofs.Onto.{onto_len}
use Rattle.otlp_msg.proofs.Zeros.{first_short, first_test, none_test}
use Rattle.otlp_msg.proofs.zero_entries.begins_with_zero.Goals as goal

pub rows_len-requires : goal.rows_len-requires
rows_len-requires g c =
    let first : slice_get c.args.entries.now 0 ≡ Some c.in-Some.first.now = sym c.get.ensures.value ∙ ap option_copied c.in-Some.is in
    let short = first_short g.T.Rows.shape g.T.Rows.view c.args.entries.now c.in-Some.first.now first c.requires in
    let first_value = g.T.Rows.view c.in-Some.first.now in
    omega (arith, short, ap (len_onto g.T.Rows.shape 0) (moved_same g.T.Rows.shape first_value), onto_len g.T.Rows.shape 0 first_value)

pub returns-in-Some : goal.returns-in-Some
returns-in-Some g c =
    first_test g.T.Rows.shape g.met.T.Rows.message (lawful_from g.T.Rows.shape g.met.T.Rows.lawful) g.T.Rows.view c.args.entries.now c.in-Some.first.now c.rows_len.result
    (sym c.get.ensures.value ∙ ap option_copied c.in-Some.is) c.requires
    (omega (arith, c.rows_len.ensures, ap (len_onto g.T.Rows.shape 0) (moved_same g.T.Rows.shape (g.T.Rows.view c.in-Some.first.now)), onto_len g.T.Rows.shape 0 (g.T.Rows.view c.in-Some.first.now)))

pub returns-in-None : goal.returns-in-None
returns-in-None g c = none_test g.T.Rows.shape g.T.Rows.view c.args.entries.now (sym c.get.ensures.value ∙ ap option_copied c.in-None.is)

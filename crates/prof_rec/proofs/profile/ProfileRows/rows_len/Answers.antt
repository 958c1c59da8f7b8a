use Rattle.std.proofs.Common.{rules, w64, FitsSigned, of_z, length, map, ap, arith}
use Rattle.std.proofs.lemmas.Int.{to_z-of_z}
use Rattle.schema.specs.Shape.{Attributes, I32}
use Rattle.schema.specs.Texts.{bytes_field, number_field, numbers_text}
use Rattle.prof_rec.specs.Views.{numbers_view}
use Rattle.prof_rec.proofs.profile.ProfileRows.rows_len.Goals as goal

pub indexes_len-requires-clause-room : goal.indexes_len-requires-clause-room
indexes_len-requires-clause-room g c =
    omega (arith, c.requires, ap (λ xs. length (bytes_field 11 (numbers_text I32 (map (g.I.NewIndexes.to c.args.indexes.now Attributes) (numbers_view xs))))) c.as_slice.ensures)

pub returns : goal.returns
returns g c =
    let period : FitsSigned w64 c.args.self.now.period = search rules in
    omega (
      arith,
      ap (λ z. length (number_field 6 (of_z w64 z))) (to_z-of_z w64 c.args.self.now.period period),
      ap (λ xs. length (bytes_field 11 (numbers_text I32 (map (g.I.NewIndexes.to c.args.indexes.now Attributes) (numbers_view xs))))) c.as_slice.ensures,
    )

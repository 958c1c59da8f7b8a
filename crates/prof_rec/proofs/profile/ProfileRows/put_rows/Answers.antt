use Rattle.std.proofs.Common.{rules, ◌≡◌, ℕ, ℤ, w64, FitsSigned, List, ◌++◌, length, map, ap, ◌∙◌, arith, subst}
use Rattle.std.proofs.lemmas.Int.{to_z-of_z}
use Rattle.schema.specs.Each.{Each}
use Rattle.schema.specs.Shape.{Attributes, I32, I64}
use Rattle.schema.specs.Texts.{FitsNumber, bytes_field, number_field, number_to, numbers_text}
use Rattle.pb_wire.proofs.Prefixes.{growing}
use Rattle.prof_rec.specs.Views.{numbers_view}
use Rattle.prof_rec.proofs.profile.ProfileRows.put_rows.Goals as goal

-- one more row
after : {a b c : List ℕ} (row : List ℕ) → a ≡ b ++ row → b ≡ c → a ≡ c ++ row
after row e f = e ∙ ap (λ (t : List ℕ). t ++ row) f

pub returns-in_err-put_number-clause-err : goal.returns-in_err-put_number-clause-err
returns-in_err-put_number-clause-err g c = grind (arith, growing)

pub returns-in_err-put_message-2-clause-err : goal.returns-in_err-put_message-2-clause-err
returns-in_err-put_message-2-clause-err g c = grind (arith, growing)

pub returns-in_err-put_bytes-clause-err : goal.returns-in_err-put_bytes-clause-err
returns-in_err-put_bytes-clause-err g c = grind (arith, growing)

pub returns-in_err-put_number-3-clause-err : goal.returns-in_err-put_number-3-clause-err
returns-in_err-put_number-3-clause-err g c = grind (arith, growing)

pub returns-in_err-put_text-clause-err : goal.returns-in_err-put_text-clause-err
returns-in_err-put_text-clause-err g c = grind (arith, growing)

pub returns-in_err-put_bytes-2-clause-err : goal.returns-in_err-put_bytes-2-clause-err
returns-in_err-put_bytes-2-clause-err g c = grind (arith, growing)

pub returns-in_err-put_number-2-clause-err : goal.returns-in_err-put_number-2-clause-err
returns-in_err-put_number-2-clause-err g c = grind (arith, growing)

pub returns-in_err-put_indexes-clause-err : goal.returns-in_err-put_indexes-clause-err
returns-in_err-put_indexes-clause-err g c = grind (arith, growing)

pub put_indexes-requires-clause-room : goal.put_indexes-requires-clause-room
put_indexes-requires-clause-room g c =
    omega (arith, c.requires, ap (λ xs. length (bytes_field 11 (numbers_text I32 (map (g.I.NewIndexes.to c.args.indexes.now Attributes) (numbers_view xs))))) c.as_slice.ensures)

pub returns-clause-ok : goal.returns-clause-ok
returns-clause-ok g c =
    let period : FitsSigned w64 c.args.self.now.period = search rules in
    let sixth = c.in_ok-put_number-2.ensures.ok ∙ ap (λ (z : ℤ). c.put_message-2.new.out ++ number_field 6 (number_to I64 z)) (to_z-of_z w64 c.args.self.now.period period) in
    let last =
    c.in_ok-put_indexes.ensures.ok
    ∙ ap (λ (xs : List ℤ). c.put_bytes-2.new.out ++ bytes_field 11 (numbers_text I32 (map (g.I.NewIndexes.to c.args.indexes.now Attributes) (numbers_view xs)))) c.as_slice.ensures in
    let two = after _ c.in_ok-put_samples.ensures.ok c.in_ok-put_message.ensures.ok in
    let four = after _ c.in_ok-put_number.ensures.ok (after _ c.in_ok-put_fixed.ensures.ok two) in
    let six = after _ sixth (after _ c.in_ok-put_message-2.ensures.ok four) in
    let eight = after _ c.in_ok-put_number-3.ensures.ok (after _ c.in_ok-put_bytes.ensures.ok six) in
    let ten = after _ c.in_ok-put_bytes-2.ensures.ok (after _ c.in_ok-put_text.ensures.ok eight) in
    after _ last ten

pub returns-clause-typed : goal.returns-clause-typed
returns-clause-typed g c =
    let period : FitsSigned w64 c.args.self.now.period = search rules in
    let sixth = subst (FitsNumber I64) (to_z-of_z w64 c.args.self.now.period period) c.in_ok-put_number-2.ensures.typed in
    let last = subst (λ (xs : List ℤ). Each (FitsNumber I32) (numbers_view xs)) c.as_slice.ensures c.in_ok-put_indexes.ensures.typed in (
      c.in_ok-put_message.ensures.typed,
      (
        c.in_ok-put_samples.ensures.typed,
        (
          c.in_ok-put_fixed.ensures.typed,
          (c.in_ok-put_number.ensures.typed, (c.in_ok-put_message-2.ensures.typed, (sixth, (tt, (c.in_ok-put_number-3.ensures.typed, (c.in_ok-put_text.ensures.typed, (tt, (last, tt)))))))),
        ),
      ),
    )

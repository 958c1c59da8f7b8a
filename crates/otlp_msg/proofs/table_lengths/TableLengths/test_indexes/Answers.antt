use Rattle.std.proofs.Common.{◌≡◌, get_or, Ok, ℕ, ℤ, ◌∙◌, [], ◌∷◌, pos, sym, subst, rules}
use Rattle.std.proofs.lemmas.List.{get_or_default}
use Rattle.std.specs.Int.{w32}
use Rattle.otlp_msg.specs.Lengths.{lengths_view}
use Rattle.otlp_msg.specs.Walk.{spot, within}
use Rattle.otlp_msg.proofs.Walks.{goes_on}
use Rattle.otlp_msg.proofs.table_lengths.TableLengths.test_indexes.Goals as goal
use mir.Val.{to_z, of_z}

-- an index is the number that it was read as
same : (c : goal.In_default) → to_z w32 (of_z w32 (get_or c.args.indexes.now c.loop-item.item (pos 0))) ≡ get_or c.args.indexes.now c.loop-item.item (pos 0)
same c = search rules

pub loop-item-preserved : goal.loop-item-preserved
loop-item-preserved c =
    let x = get_or c.args.indexes.now c.loop-item.item (pos 0) in
    let test = λ (i : ℕ) (z : ℤ). within (lengths_view c.args.self.now) (spot c.args.table z c.args.holder c.args.field i ∷ []) in
    let passed : test c.loop-item.item x ≡ Ok tt = subst (λ (z : ℤ). test c.loop-item.item z ≡ Ok tt) (same c) (sym c.test.ensures ∙ c.in_default.is) in
    goes_on test c.loop-item.item c.args.indexes.now x c.loop-item-test.true (get_or_default c.args.indexes.now c.loop-item.item (pos 0) x c.loop-item-test.true) c.loop-item.invariant passed

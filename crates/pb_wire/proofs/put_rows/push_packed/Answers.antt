use Rattle.std.proofs.Common.{◌++◌, ℕ, List, sym, ap, ◌∙◌, arith, subst}
use Rattle.std.specs.List.{flat_map}
use Rattle.std.proofs.lemmas.List.{take_all}
use Rattle.schema.specs.Each.{Each}
use Rattle.schema.specs.Texts.{FitsNumber, varint, number_to}
use Rattle.pb_wire.proofs.RowTexts.{numbers_of}
use Rattle.pb_wire.proofs.Types.{each_seen}
use Rattle.pb_wire.proofs.put_rows.push_packed.Goals as goal

pub returns-clause-ok : goal.returns-clause-ok
returns-clause-ok g c =
    let value = g.N.Number.value in
    let text = λ (x : _). varint (number_to g.N.Number.format (value x)) in
    c.loop-item.invariant.0
    ∙ ap (λ (t : List ℕ). c.args.out.now ++ t) (ap (flat_map text) (take_all c.loop-item.item-index c.args.items.now (omega arith)) ∙ sym (numbers_of g.N.Number.format value c.args.items.now))

pub returns-clause-typed : goal.returns-clause-typed
returns-clause-typed g c =
    let value = g.N.Number.value in
    let fits = λ (x : _). FitsNumber g.N.Number.format (value x) in
    each_seen (FitsNumber g.N.Number.format) value c.args.items.now
    (subst (Each fits) (take_all c.loop-item.item-index c.args.items.now (omega arith)) c.loop-item.invariant.2)

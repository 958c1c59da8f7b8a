use Rattle.std.proofs.Common.{◌≡◌, ◌++◌, ◌∷◌, [], ◌<◌, List, ℕ, length, sym, ap, ◌∙◌, arith}
use Rattle.std.proofs.lemmas.List.{append-nil}
use Rattle.schema.specs.Merge.{packed_fixed}
use Rattle.pb_wire.proofs.Eights.{eight_goes_on, fixed_none, right_length}
use Rattle.pb_wire.proofs.take.add_packed_fixed.Goals as goal

pub loop-front-preserved : goal.loop-front-preserved
loop-front-preserved c = record {
  whole = omega (arith, c.in-Some.ensures.cases.2);
  same = eight_goes_on c.loop-front.slot c.add.new.self c.loop-front.rest.now c.in-Some.front.now c.in-Some.after.now _ c.in-Some.ensures.cases.0 c.in-Some.ensures.cases.1 c.in-Some.ensures.cases.2
      (c.in_ok-add.ensures.ok ∙ ap (λ (n : ℕ). c.loop-front.slot ++ n ∷ []) c.from_le_bytes.ensures) c.loop-front.invariant.same;
}

pub returns : goal.returns
returns c =
    let few : length c.loop-front.rest.now < 8 = c.in_default.ensures.cases in
    let e : c.loop-front.slot ≡ c.args.slot.now ++ packed_fixed c.args.bytes.now =
    sym (append-nil c.loop-front.slot) ∙ ap (λ (xs : List ℕ). c.loop-front.slot ++ xs) (sym (fixed_none c.loop-front.rest.now few)) ∙ c.loop-front.invariant.same in
    right_length c.args.at c.args.bytes.now c.args.slot.now c.loop-front.slot (omega arith) e

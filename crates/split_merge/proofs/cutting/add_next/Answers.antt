use Rattle.std.proofs.Common.{◌≡◌, suc, ◌+◌, Option, arith, subst}
use Rattle.split_merge.specs.PartSteps.{messages_in}
use Rattle.split_merge.specs.Places.{IsPlaceOf, place_index, profiles_of_all}
use Rattle.split_merge.specs.declared.places.Place.{Place}
use Rattle.split_merge.proofs.Growth.{whole_at_end}
use Rattle.split_merge.proofs.cutting.add_next.Goals as goal

pub returns-in-None-clause-growth : goal.returns-in-None-clause-growth
returns-in-None-clause-growth g c =
    let input = c.args.input.now in
    let ms = messages_in input in
    let last = c.args.last in
    let e : profiles_of_all ms ≡ place_index ms last + 1 = subst (λ (next : Option Place). IsPlaceOf ms (place_index ms last + 1) next) c.in-None.is c.in_ok-next.ensures in
    let q : profiles_of_all ms ≡ suc (place_index ms last) = omega (arith, e) in
    whole_at_end ms input.limit last c.args.over.now.adder.draft q

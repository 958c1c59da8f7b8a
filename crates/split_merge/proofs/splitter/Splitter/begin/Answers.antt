use Rattle.std.proofs.Common.{List, Option, None, ap, map, subst, ◌∙◌}
use Rattle.otlp_msg.specs.Checked.{value_of}
use Rattle.otlp_msg.specs.declared.checked.Checked.{Checked}
use Rattle.split_merge.specs.Places.{IsPlaceOf}
use Rattle.split_merge.specs.Splits.{splitting, splitting_of}
use Rattle.split_merge.specs.declared.places.Place.{Place}
use Rattle.split_merge.proofs.CutParts.{left_first}
use Rattle.split_merge.proofs.splitter.Splitter.begin.Goals as goal

pub returns-in-None : goal.returns-in-None
returns-in-None g c =
    let limit = c.args.limit in
    let ms = map value_of c.as_slice.result.now in
    let q = subst (λ (next : Option Place). IsPlaceOf ms 0 next) c.in-None.is c.in_ok-first.ensures in
    ap (splitting limit) (left_first ms None q) ∙ ap (λ (xs : List Checked). splitting_of limit (map value_of xs)) c.as_slice.ensures

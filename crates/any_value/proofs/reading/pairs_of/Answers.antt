use Rattle.std.proofs.Common.{◌≡◌, sym, ap, ◌∙◌}
use Rattle.schema.specs.AnyValue.{pairs_in}
use Rattle.schema_laws.proofs.AnyLists.{pair_list_back}
use Rattle.any_value.specs.declared.value.Value.TheVariants as value
use Rattle.any_value.specs.Views.{any_view}
use Rattle.any_value.proofs.reading.pairs_of.Goals as goal

pub returns-in-Pairs : goal.returns-in-Pairs
returns-in-Pairs c =
    let e : value.Pairs c.in-Pairs.pairs ≡ c.args.value.now = cc c.in-Pairs.ensures.value in
    sym (pair_list_back c.in-Pairs.pairs) ∙ ap (λ v. pairs_in (any_view v)) e

use Rattle.std.proofs.Common.{◌≡◌, sym, ap, ◌∙◌}
use Rattle.schema.specs.AnyValue.{items_in}
use Rattle.schema_laws.proofs.AnyLists.{list_back}
use Rattle.any_value.specs.declared.value.Value.TheVariants as value
use Rattle.any_value.specs.Views.{any_view}
use Rattle.any_value.proofs.reading.items_of.Goals as goal

pub returns-in-Items : goal.returns-in-Items
returns-in-Items c =
    let e : value.Items c.in-Items.items ≡ c.args.value.now = cc c.in-Items.ensures.value in
    sym (list_back c.in-Items.items) ∙ ap (λ v. items_in (any_view v)) e

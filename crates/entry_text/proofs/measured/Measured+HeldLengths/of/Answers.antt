use Rattle.std.proofs.Common.{ap, ◌∙◌}
use Rattle.meaning.specs.Message.{tables_in}
use Rattle.dict_rec.specs.Views.{dictionary_view}
use Rattle.entry_text.proofs.Measures.{ok_as}
use Rattle.entry_text.proofs.measured.Measured+HeldLengths.of.Goals as goal

pub returns : goal.returns
returns c =
    ok_as c.measure-7.result (λ m. tables_in (dictionary_view m.held.dictionary.now)) _ _
    (c.in_ok-locations.ensures ∙ c.in_ok-mappings.ensures ∙ c.in_ok-links.ensures ∙ c.in_ok-attributes.ensures ∙ c.in_ok-functions.ensures ∙ c.in_ok-strings.ensures
    ∙ ap (λ d. tables_in (dictionary_view d)) c.of.ensures)
    c.measure-7.ensures

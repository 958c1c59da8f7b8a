use Rattle.std.proofs.Common.{ap, map, ◌∙◌}
use Rattle.std.proofs.lemmas.List.{take_all}
use Rattle.dict_rec.specs.Views.{dictionary_view}
use Rattle.entry_text.specs.Lengths.{value_length}
use Rattle.entry_text.proofs.Measures.{all_lengths}
use Rattle.entry_text.proofs.measured.lengths_of.Goals as goal

pub returns : goal.returns
returns g c =
    let tables = g.H.Meanings.tables c.args.measured.now.held in
    let entries = c.entries-entries.result.now in
    all_lengths (dictionary_view c.dictionary.result.now) tables g.E.Entry.table g.E.Entry.view entries c.from_vec.result c.dictionary.ensures c.entries-entries.ensures
    (c.from_vec.ensures ∙ c.loop-entry.invariant ∙ ap (map (λ e. value_length tables g.E.Entry.table (g.E.Entry.view e))) (take_all c.loop-entry.entry-index entries c.loop-entry-test.false))

use Rattle.std.proofs.Common.{rules, w32, to_z, of_z}
use Rattle.std.proofs.lemmas.Int.{to_z-of_z}
use Rattle.std.specs.Option.{option_copied}
use Rattle.dict_rec.specs.Views.{dictionary_view}
use Rattle.entry_text.proofs.Dictionaries.{below_all, at_index}
use Rattle.entry_text.proofs.dictionary_texts.entry_at.Goals as goal

pub returns-then-index-lt0 : goal.returns-then-index-lt0
returns-then-index-lt0 g c =
    let i = c.args.index.now in
    below_all (dictionary_view c.args.dictionary.now) g.E.Entry.table i (to_z w32 (of_z w32 i)) (to_z-of_z w32 i (search rules)) c.if-index-lt0.true

pub returns : goal.returns
returns g c =
    let i = c.args.index.now in
    at_index (dictionary_view c.args.dictionary.now) g.E.Entry.table g.E.Entry.view c.entries.result.now i (to_z w32 (of_z w32 i)) (option_copied c.item_at.result)
    (to_z-of_z w32 i (search rules)) c.if-index-lt0.false c.entries.ensures c.item_at.ensures

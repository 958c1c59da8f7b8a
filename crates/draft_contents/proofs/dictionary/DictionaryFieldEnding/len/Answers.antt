use Rattle.std.proofs.Common.{refl}
use Rattle.key_tables.specs.Keys.{keys_text}
use Rattle.key_tables.proofs.Spelling.{long_len_of}
use Rattle.draft_contents.proofs.dictionary.DictionaryFieldEnding.len.Goals as goal

pub returns : goal.returns
returns g c =
    let t = keys_text c.self.inside.tables.now in
    rw (← c.self.view_is) (long_len_of 2 2 t t c.text_len.result c.long_len.result refl refl c.text_len.ensures.is c.long_len.ensures)

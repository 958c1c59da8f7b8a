use Rattle.std.proofs.Common.{◌≡◌, ◌++◌, List, ap, sym, ◌∙◌}
use Rattle.schema.specs.Messages.{resource_profiles}
use Rattle.schema.specs.Texts.{long_field}
use Rattle.meaning.specs.Message.{dictionary_text}
use Rattle.meaning.proofs.Texts.{draft-text}
use Rattle.parts.proofs.Spelling.{records-text}
use Rattle.parts.proofs.drafts_have_their_text.Goals as goal

pub returns : goal.returns
returns c d ms xs r = draft-text resource_profiles tt d ms xs r ∙ ap (λ l. l ++ long_field 2 (dictionary_text d)) (sym (records-text xs))

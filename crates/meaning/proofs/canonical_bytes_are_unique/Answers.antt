use Rattle.meaning.proofs.Message.{text_apart}
use Rattle.meaning.proofs.Ranges.{messages_apart}
use Rattle.meaning.proofs.canonical_bytes_are_unique.Goals as goal

pub returns : goal.returns
returns c = record { meanings = text_apart; messages = messages_apart }

use Rattle.meaning.proofs.Message.{means_the_same, messages_mean}
use Rattle.meaning.proofs.canonical_message_means_the_same.Goals as goal

pub returns : goal.returns
returns c = record { same = means_the_same; all = messages_mean }

use Rattle.shown.proofs.Appended.{message-text}
use Rattle.shown.proofs.messages_show_what_they_mean.Goals as goal

pub returns : goal.returns
returns c = message-text

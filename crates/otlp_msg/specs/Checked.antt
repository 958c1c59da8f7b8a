-- What a checked message holds.
use Rattle.std.specs.Prelude.{ℕ, List}
use Rattle.otlp_msg.specs.declared.checked.Checked.{Checked}
use Rattle.otlp_msg.specs.Message.{Message}
use Rattle.otlp_msg.specs.Views.{message_view}

abbrev pub body_of : Checked → List ℕ
body_of c = c.body.now

abbrev pub value_of : Checked → Message
value_of c = message_view c.message

-- Profiles of messages, added one by one to a draft.
use Rattle.otlp_msg.specs.Message.{Message}
use Rattle.draft_contents.specs.Contents.{Contents}
pub use Rattle.draft_contents.specs.Draft.{IsFaultOf, IsFaultOfPlaced, StandsWithin}

-- what is there while profiles of a message are added: the draft, what it was at the start, and the message
pub record Adding : Type 0 where
  pub draft : Contents
  pub start : Contents
  pub message : Message

abbrev pub adding : Contents → Contents → Message → Adding
adding draft start message = record { draft = draft; start = start; message = message }

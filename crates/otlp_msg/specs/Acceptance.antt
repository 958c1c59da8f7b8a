-- When the bytes of a file are a message, and when each refusal comes, in the terms of the encoding and of the schema.
use Rattle.std.specs.Prelude.{◌≡◌, ℕ, ℤ, ◌≤◌, ◌<◌, List, ◌∷◌, ◌++◌, length}
use Rattle.schema.specs.Each.{Each}
use Rattle.schema.specs.MessageFault.{HasFault}
use Rattle.schema.specs.Messages.{envelope}
use Rattle.schema.specs.Shape.{empty}
use Rattle.schema.specs.Value.{IsRead}
use Rattle.pb_wire.specs.View.{fault_view}
use Rattle.pb_wire.specs.declared.table_kind.TableKind.{TableKind}
use Rattle.otlp_msg.specs.declared.path.Path.{Path}
use Rattle.otlp_msg.specs.declared.refusal.Refusal.{Refusal}
use Rattle.otlp_msg.specs.declared.refusal.Refusal.TheVariants.{Size, Wire, ZeroEntry, Dangling, NoMemory}
use Rattle.otlp_msg.specs.Message.{Message, message_limit, dictionary_of}
use Rattle.otlp_msg.specs.Walk.{Spot, IsInside, lengths_in, message_spots}
use Rattle.otlp_msg.specs.ZeroEntries.{HasZeroEntry, all_tables}

-- the bytes are few enough, and spell fields without a fault whose value is m
pub record IsMessageOf (body : List ℕ) (m : Message) : Type 0 where
  pub small : length body ≤ message_limit
  pub read : IsRead envelope (empty envelope) body m

-- they are a message: each of its tables begins with its zero entry, and each of its indexes is in its table
pub record IsAccepted (body : List ℕ) (m : Message) : Type 0 where
  pub message : IsMessageOf body m
  pub zeros : (table : TableKind) → HasZeroEntry (dictionary_of m) table
  pub inside : Each (IsInside (lengths_in (dictionary_of m))) (message_spots m)

-- this table of theirs begins with another entry than its zero entry, and no earlier one does
pub record IsNotZero (body : List ℕ) (table : TableKind) : Type 0 where
  pub message : Message
  pub is : IsMessageOf body message
  pub before : List TableKind
  pub after : List TableKind
  pub tables : all_tables ≡ before ++ table ∷ after
  pub zeros : Each (HasZeroEntry (dictionary_of message)) before
  pub other : ¬ HasZeroEntry (dictionary_of message) table

-- each of their tables begins with its zero entry, and this is the first index of the walk that is not in its table
pub record IsDangling (body : List ℕ) (table : TableKind) (index : ℤ) (len : ℕ) (path : Path) : Type 0 where
  pub message : Message
  pub is : IsMessageOf body message
  pub zeros : (table : TableKind) → HasZeroEntry (dictionary_of message) table
  pub before : List Spot
  pub spot : Spot
  pub after : List Spot
  pub walk : message_spots message ≡ before ++ spot ∷ after
  pub inside : Each (IsInside (lengths_in (dictionary_of message))) before
  pub outside : ¬ IsInside (lengths_in (dictionary_of message)) spot
  pub its_table : table ≡ spot.table
  pub its_index : index ≡ spot.index
  pub its_length : len ≡ lengths_in (dictionary_of message) table
  pub its_path : path ≡ spot.path

-- why the bytes are no message: there are too many, else they have this first fault, else this is their first table that begins
-- with another entry, else this is the first index that is not in its table; out of memory is free
abbrev pub IsRefusedFor : List ℕ → Refusal → Type 0
IsRefusedFor body (Size len) = (message_limit < length body) × (len ≡ length body)
IsRefusedFor body (Wire fault) = (length body ≤ message_limit) × HasFault envelope 0 body (fault_view fault)
IsRefusedFor body (ZeroEntry table) = IsNotZero body table
IsRefusedFor body (Dangling table index len path) = IsDangling body table index len path
IsRefusedFor body NoMemory = Unit {0}

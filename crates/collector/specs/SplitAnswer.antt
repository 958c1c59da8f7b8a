-- The answer of `split LIMIT PREFIX IN..`, and what its output keeps.
use Rattle.std.specs.Prelude.{◌≡◌, ℕ, ◌≤◌, ◌⊎◌, List, [], ◌∷◌, length, Result, Ok, IsOkAnd}
use Rattle.std.specs.List.{zip, AllZip}
use Rattle.outside.specs.FileMap.{FileMap}
use Rattle.otlp_msg.specs.Message.{Message}
use Rattle.operations.specs.Flat.{flat}
use Rattle.split_merge.specs.Canonical.{Meaning, IsAcceptedAs, IsOnlyOf, canonical_bytes, within_limit}
use Rattle.split_merge.specs.Splits.{split_parts}
use Rattle.commands.specs.PartNames.{part_names}
use Rattle.collector.specs.declared.output.Output.{Output}
use Rattle.collector.specs.declared.stop.Stop.{Stop}
use Rattle.collector.specs.Delivery.{names_of, bytes_of}
use Rattle.collector.specs.Messages.{after, each, message_at}
use Rattle.collector.specs.Outputs.{built, files_written}

-- the canonical bytes of a part, or the stop at their number
abbrev pub part_bytes : Meaning → Result (List ℕ) Stop
part_bytes part = built (within_limit (canonical_bytes part))

-- the bytes of parts, as files that are named in order
abbrev pub part_files : List ℕ → List (List ℕ) → List (List ℕ × List ℕ)
part_files prefix parts = zip (part_names prefix (length parts)) parts

-- the canonical bytes of the parts that messages are cut into, as files
abbrev pub split_files : ℕ → List ℕ → List Message → Result Output Stop
split_files limit prefix messages = after (each part_bytes (split_parts limit messages)) (λ parts. Ok (files_written (part_files prefix parts)))

-- the same of the messages in files, all of which are read first
abbrev pub split_answer : FileMap → ℕ → List ℕ → List (List ℕ) → Result Output Stop
split_answer m limit prefix files = after (each (message_at m) files) (split_files limit prefix)

-- The bytes are accepted with the meaning of a part, and no other meaning that can be written has these canonical bytes. They are
-- no more than the limit, or the part is one profile.
pub record IsPart (limit : ℕ) (part : Meaning) (bytes : List ℕ) : Type 0 where
  pub accepted : IsAcceptedAs bytes part
  pub unique : IsOnlyOf bytes part
  pub fits : (length bytes ≤ limit) ⊎ (length (flat (part ∷ [])) ≡ 1)

-- the files are named in order, and there is one for each of the parts
pub record ArePartFiles (limit : ℕ) (prefix : List ℕ) (parts : List Meaning) (files : List (List ℕ × List ℕ)) : Type 0 where
  pub named : names_of files ≡ part_names prefix (length parts)
  pub bytes : AllZip (IsPart limit) parts (bytes_of files)

-- the files that are written are those of the parts that the messages that were read are cut into
abbrev pub SplitKeeps : FileMap → ℕ → List ℕ → List (List ℕ) → Output → Type 0
SplitKeeps m limit prefix files output = IsOkAnd (each (message_at m) files) (λ messages. ArePartFiles limit prefix (split_parts limit messages) output.files)

-- Messages that are cut into parts of at most so many bytes.
use Rattle.std.specs.Prelude.{◌≡◌, ℕ, ◌<◌, ◌≤◌, ◌⊎◌, List, [], ◌∷◌, length, map, take, drop, Option, Some, None, Result, Ok, Err}
use Rattle.otlp_msg.specs.Message.{Message}
use Rattle.operations.specs.Cuts.{first_length, parts}
use Rattle.operations.specs.Flat.{FlatProfile, flat, group}
use Rattle.draft_contents.specs.Meanings.{Meaning, meaning, size_of}
use Rattle.draft_contents.specs.declared.fault.BuildFault.{BuildFault}
use Rattle.split_merge.specs.Canonical.{canonical_bytes, within_limit}

-- the parts that messages are cut into
abbrev pub split_parts : ℕ → List Message → List Meaning
split_parts limit messages = parts limit (map meaning messages)

-- ---- the code

-- what is there while messages are cut: the number of bytes that a part may have, and the profiles that are in no part yet
pub record Splitting : Type 0 where
  pub limit : ℕ
  pub left : List FlatProfile

abbrev pub splitting : ℕ → List FlatProfile → Splitting
splitting limit left = record { limit = limit; left = left }

-- nothing of these messages is cut off yet
abbrev pub splitting_of : ℕ → List Message → Splitting
splitting_of limit messages = splitting limit (flat (map meaning messages))

-- the profiles of the next part: the longest prefix of what is left that fits, or one
abbrev pub next_profiles : Splitting → List FlatProfile
next_profiles s = take (first_length s.limit s.left) s.left

-- the meaning of the next part
abbrev pub next_part : Splitting → Meaning
next_part s = group (next_profiles s)

-- what is there when the next part is given
abbrev pub after_next : Splitting → Splitting
after_next s = splitting s.limit (drop (first_length s.limit s.left) s.left)

-- a value that is there, or the error
abbrev pub some_ok : {A E : Type 0} → Result A E → Result (Option A) E
some_ok (Ok a) = Ok (Some a)
some_ok (Err e) = Err e

-- nothing where no profile is left; else these bytes, or their number where a message may not have so many
abbrev pub bytes_if_left : List FlatProfile → List ℕ → Result (Option (List ℕ)) BuildFault
bytes_if_left [] bytes = Ok None
bytes_if_left (e ∷ left) bytes = some_ok (within_limit bytes)

-- the canonical bytes of the next part, or their number; nothing after the last
abbrev pub next_of : Splitting → Result (Option (List ℕ)) BuildFault
next_of s = bytes_if_left s.left (canonical_bytes (next_part s))

-- ---- all parts

-- These are given, one after the other, until no profile is left.
abbrev pub GivesParts : Splitting → List Meaning → Type 0
GivesParts s [] = s.left ≡ []
GivesParts s (p ∷ ps) = (0 < length s.left) × (p ≡ next_part s) × GivesParts (after_next s) ps

-- a part fits, or has one profile
abbrev pub FitsOrIsOne : ℕ → Meaning → Type 0
FitsOrIsOne limit ms = (size_of ms ≤ limit) ⊎ (length (flat (ms ∷ [])) ≡ 1)

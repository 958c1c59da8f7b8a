-- Heads of a draft that are known to be those of what comes.
use Rattle.std.specs.Prelude.{◌≡◌, ℤ, List, [], ◌∷◌, Option, Some, None, Bool}
use Rattle.schema.specs.Messages.{resource, scope, scope_profiles, resource_profiles}
use Rattle.schema.specs.Moved.{moved}
use Rattle.schema.specs.Shape.{Table, Value}
use Rattle.schema.specs.Spell.{spell}
use Rattle.schema.specs.Texts.{bytes_field}
use Rattle.otlp_msg.specs.declared.path.ProfilePos.{ProfilePos}
use Rattle.otlp_msg.specs.Message.{Message, records_of}
use Rattle.parts.specs.LastHeads.{is_head, last_heads, repeated_head, repeated_parts}
use Rattle.parts.specs.Parts.{RecordPart}
use Rattle.parts.specs.Values.{value_parts}
use Rattle.draft_contents.specs.Adding.{resources_moved}
use Rattle.draft_contents.specs.declared.known.KnownHeads.{KnownHeads}
use Rattle.draft_contents.specs.declared.known.KnownHeads.TheVariants as known
use Rattle.draft_contents.specs.Singles.{record_alone}

-- the head of a resource record with new indexes is the last one of the parts
abbrev pub repeats_resource : (Table → ℤ → ℤ) → List RecordPart → Value resource_profiles → Bool
repeats_resource to before r = is_head (last_heads before).resource (bytes_field 1 (spell resource (moved to resource r.0))) (bytes_field 3 r.1.1.0)

-- and so is that of a scope record
abbrev pub repeats_scope : (Table → ℤ → ℤ) → List RecordPart → Value scope_profiles → Bool
repeats_scope to before s = is_head (last_heads before).scope (bytes_field 1 (spell scope (moved to scope s.0))) (bytes_field 3 s.1.1.0)

-- So much is known of records that come after some parts, whatever their new indexes: nothing; that the first resource record has
-- the last head; or that also the first scope record in it does.
abbrev pub AreKnown : KnownHeads → List RecordPart → List (Value resource_profiles) → Type 0
AreKnown known.None before xs = Unit {0}
AreKnown known.Resource before xs = (to : Table → ℤ → ℤ) → repeated_head (last_heads before) (resources_moved to xs) ≡ 1
AreKnown known.Both before xs = (to : Table → ℤ → ℤ) → repeated_parts (last_heads before) (resources_moved to xs) ≡ 2

-- the last heads of the parts are those of the record that holds the profile at this position of a message alone
abbrev pub HeadsStand : ProfilePos → List RecordPart → Message → Type 0
HeadsStand pos parts m = last_heads parts ≡ last_heads (value_parts (record_alone (records_of m) pos ∷ []))

-- and so they are if there is a position
abbrev pub HeadsStandIf : Option ProfilePos → List RecordPart → Message → Type 0
HeadsStandIf None parts m = Unit {0}
HeadsStandIf (Some pos) parts m = HeadsStand pos parts m

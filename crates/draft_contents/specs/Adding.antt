-- What it is to add the records of a message.
use Rattle.std.specs.Prelude.{◌≡◌, ℕ, ℤ, ◌+◌, ◌<◌, List, [], ◌∷◌, ◌++◌, length, map, drop, Option}
use Rattle.std.specs.List.{flat_map}
use Rattle.schema.specs.Each.{Each}
use Rattle.schema.specs.Messages.{profile, scope_profiles, resource_profiles}
use Rattle.schema.specs.Moved.{moved}
use Rattle.schema.specs.Shape.{Table, Value}
use Rattle.meaning.specs.Memo.{index_in}
use Rattle.dict_rec.specs.declared.dictionary.Dictionary.{Dictionary}
use Rattle.dict_rec.specs.Views.{dictionary_view}
use Rattle.prof_rec.specs.Views.{profile_view, resource_profiles_view, scope_profiles_view}
use Rattle.otlp_msg.specs.Message.{Message}
use Rattle.key_tables.specs.Keys.{at}
use Rattle.parts.specs.LastHeads.{last_heads, repeated_head, repeated_parts, repeated_scope}
use Rattle.parts.specs.Parts.{RecordPart}
use Rattle.parts.specs.Values.{profile_value_part, scope_value_parts, value_parts}
use Rattle.draft_records.specs.Marks.{back_of, front_of}
use Rattle.renumber.specs.Walk.{State, WalkedEach}
use Rattle.draft_contents.specs.Contents.{Contents, contents, whole_text}
use Rattle.draft_contents.specs.declared.unrepeated.Added.{Added}
use Rattle.draft_contents.specs.declared.unrepeated.Added.TheVariants.{Records, Scopes, Profiles, RecordAlone, ScopeAlone, ProfileAlone}
use Rattle.draft_contents.specs.declared.incoming.Joining.{Joining}
use Rattle.draft_contents.specs.declared.incoming.Joining.TheVariants.{Resource, Scope, Seam}
use Rattle.draft_contents.specs.Singles.{single_record, single_scope}
use Rattle.draft_contents.specs.declared.fault.BuildFault.{BuildFault}
use Rattle.draft_contents.specs.declared.fault.BuildFault.TheVariants.{OutputLimit, NoMemory}

-- the message of records and a dictionary
abbrev pub message_with : List (Value resource_profiles) → Dictionary → Message
message_with records dictionary = (records, (dictionary_view dictionary, tt))

-- ---- parts with new indexes

-- the parts of profiles, of scope records and of resource records, where each index becomes what `to` says
abbrev pub profiles_moved : (Table → ℤ → ℤ) → List (Value profile) → List RecordPart
profiles_moved to xs = map profile_value_part (map (moved to profile) xs)

abbrev pub scopes_moved : (Table → ℤ → ℤ) → List (Value scope_profiles) → List RecordPart
scopes_moved to xs = flat_map scope_value_parts (map (moved to scope_profiles) xs)

abbrev pub resources_moved : (Table → ℤ → ℤ) → List (Value resource_profiles) → List RecordPart
resources_moved to xs = value_parts (map (moved to resource_profiles) xs)

-- those with the new indexes that a walk knows
abbrev pub moved_parts : State → List (Value resource_profiles) → List RecordPart
moved_parts w xs = resources_moved (index_in (at w.memo)) xs

-- the parts that are left of some, after those of a draft: all but the heads that repeat the last ones
abbrev pub unrepeated_parts : List RecordPart → List RecordPart → List RecordPart
unrepeated_parts before ps = drop (repeated_parts (last_heads before) ps) ps

-- those that are left where the heads are left out so
abbrev pub left_parts : Joining → List RecordPart → List RecordPart → List RecordPart
left_parts Resource before ps = ps
left_parts Scope before ps = drop (repeated_head (last_heads before) ps) ps
left_parts Seam before ps = unrepeated_parts before ps

-- the same after the head of a resource record, where this is the last head of a scope record
abbrev pub unrepeated_scopes : Option (List ℕ × List ℕ) → List RecordPart → List RecordPart
unrepeated_scopes last ps = drop (repeated_scope last ps) ps

-- the parts of what is added
abbrev pub added_moved : (Table → ℤ → ℤ) → Added → List RecordPart
added_moved to (Records resources) = resources_moved to (map resource_profiles_view resources.now)
added_moved to (Scopes scopes resources) =
    scopes_moved to (map scope_profiles_view scopes.now) ++ resources_moved to (map resource_profiles_view resources.now)
added_moved to (Profiles profiles scopes resources) =
    profiles_moved to (map profile_view profiles.now)
    ++ (scopes_moved to (map scope_profiles_view scopes.now) ++ resources_moved to (map resource_profiles_view resources.now))
added_moved to (RecordAlone s) = resources_moved to (single_record s ∷ [])
added_moved to (ScopeAlone s) = scopes_moved to (single_scope s ∷ [])
added_moved to (ProfileAlone p) = profiles_moved to (profile_view p.now ∷ [])

-- the texts of each part are shorter than this
abbrev pub AreShorter : ℕ → List RecordPart → Type 0
AreShorter n ps = Each (λ p. length (front_of p) + length (back_of p) < n) ps

-- ---- adding

-- The records were walked over, and stand with their new indexes after what was there, without the heads that are left out.
pub record AreRenumbered (how : Joining) (a b : State) (before after : List RecordPart) (xs : List (Value resource_profiles)) : Type 0 where
  pub walked : WalkedEach resource_profiles a b xs
  pub is : after ≡ before ++ left_parts how before (moved_parts b xs)

-- the contents with these records after the parts
abbrev pub contents_with : Joining → State → List RecordPart → List (Value resource_profiles) → Contents
contents_with how w before xs = contents w.keys (before ++ left_parts how before (moved_parts w xs))

-- with these records after the parts the whole has so many bytes
abbrev pub size_with : Joining → State → List RecordPart → List (Value resource_profiles) → ℕ
size_with how w before xs = length (whole_text (contents_with how w before xs))

-- why contents are too long: the whole has more bytes than the limit, and their number is told; or it was out of memory
abbrev pub IsLimitOf : ℕ → Contents → BuildFault → Type 0
IsLimitOf limit d (OutputLimit size) = (size ≡ length (whole_text d)) × (limit < size)
IsLimitOf limit d NoMemory = Unit {0}

-- the same of those with these records after the parts
abbrev pub IsTooLong : ℕ → Joining → State → List RecordPart → List (Value resource_profiles) → BuildFault → Type 0
IsTooLong limit how w before xs fault = IsLimitOf limit (contents_with how w before xs) fault

-- why they are not added: they were walked over, and are too long, or it was out of memory
abbrev pub IsRefused : ℕ → Joining → State → State → List RecordPart → List (Value resource_profiles) → BuildFault → Type 0
IsRefused limit how a b before xs (OutputLimit size) = WalkedEach resource_profiles a b xs × IsTooLong limit how b before xs (OutputLimit size)
IsRefused limit how a b before xs NoMemory = Unit {0}

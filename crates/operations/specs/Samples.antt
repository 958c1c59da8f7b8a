-- Small meanings that compute: how they are joined, and their parts.
use Rattle.std.specs.Prelude.{◌≡◌, ℕ, pos, List, [], ◌∷◌, ◌++◌, length, refl}
use Rattle.schema.specs.Messages.{profile, scope, scope_profiles, resource, resource_profiles}
use Rattle.schema.specs.Shape.{Value, empty}
use Rattle.schema.specs.Texts.{varint_upto, number_field, long_field, bytes_field, fixed_field}
use Rattle.meaning.specs.Message.{meaning_of, meaning_text}
use Rattle.meaning.specs.Tree.{Tree}
use Rattle.operations.specs.Cuts.{parts}
use Rattle.operations.specs.Flat.{flat, group}
use Rattle.operations.specs.Seams.{join, under_last}

-- a profile of the type cpu in ns
abbrev cpu : Value profile
cpu = ((pos 1, (pos 2, tt)), (empty profile).1)

-- a scope record and a resource record, with their schema_url, that hold these
abbrev in_scope : List ℕ → List (Value profile) → Value scope_profiles
in_scope url ps = (empty scope, (ps, (url, tt)))

abbrev in_resource : List ℕ → List (Value scope_profiles) → Value resource_profiles
in_resource url ss = (empty resource, (ss, (url, tt)))

-- what a message of these records means whose strings are the empty one, cpu and ns
abbrev meaning_with : List (Value resource_profiles) → List Tree
meaning_with rs = meaning_of resource_profiles (rs, (([], ([], ([], ([], ([] ∷ (99 ∷ 112 ∷ 117 ∷ []) ∷ (110 ∷ 115 ∷ []) ∷ [], ([], ([], tt))))))), tt))

-- one profile in records with these schema_urls
abbrev one_under : List ℕ → List ℕ → List Tree
one_under resource_url scope_url = meaning_with (in_resource resource_url (in_scope scope_url (cpu ∷ []) ∷ []) ∷ [])

abbrev one : List Tree
one = one_under [] []

-- ---- joined

-- one resource record and one scope record hold both profiles
joined_text : meaning_text resource_profiles (join (one ∷ one ∷ [])) ≡
    10 ∷ 18 ∷ 18 ∷ 16 ∷ 18 ∷ 6 ∷ 10 ∷ 4 ∷ 8 ∷ 1 ∷ 16 ∷ 2 ∷ 18 ∷ 6 ∷ 10 ∷ 4 ∷ 8 ∷ 1 ∷ 16 ∷ 2 ∷
    18 ∷ 23 ∷ 10 ∷ 0 ∷ 18 ∷ 0 ∷ 26 ∷ 0 ∷ 34 ∷ 0 ∷ 42 ∷ 0 ∷ 42 ∷ 3 ∷ 99 ∷ 112 ∷ 117 ∷ 42 ∷ 2 ∷ 110 ∷ 115 ∷ 50 ∷ 0 ∷ 58 ∷ 0 ∷ []
unfolding varint_upto number_field long_field bytes_field fixed_field
joined_text = refl

-- records that stood apart in one message stay apart
abbrev apart : List Tree
apart = meaning_with (in_resource [] (in_scope [] (cpu ∷ []) ∷ []) ∷ in_resource [] (in_scope [] (cpu ∷ []) ∷ []) ∷ [])

apart_alone : join (apart ∷ []) ≡ apart
apart_alone = refl

apart_joined : join (apart ∷ one ∷ []) ≡ one ++ join (one ∷ one ∷ [])
apart_joined = refl

-- another schema_url keeps resource records apart
other_resource : join (one ∷ one_under (117 ∷ []) [] ∷ []) ≡ one ++ one_under (117 ∷ []) []
other_resource = refl

-- and so it does with scope records, in one resource record
other_scope : join (one ∷ one_under [] (117 ∷ []) ∷ [])
    ≡ meaning_with (in_resource [] (in_scope [] (cpu ∷ []) ∷ in_scope (117 ∷ []) (cpu ∷ []) ∷ []) ∷ [])
other_scope = refl

-- a message of an empty record, joined to itself and to one whose record has the same head
abbrev empty_record : List Tree
empty_record = meaning_with (empty resource_profiles ∷ [])

empty_twice : join (empty_record ∷ empty_record ∷ []) ≡ empty_record
empty_twice = refl

empty_first : join (empty_record ∷ one ∷ []) ≡ one
empty_first = refl

-- it has 18 bytes, and a message of one profile 37
empty_length : length (meaning_text resource_profiles (join (empty_record ∷ empty_record ∷ []))) ≡ 18
unfolding varint_upto number_field long_field bytes_field fixed_field
empty_length = refl

one_length : length (meaning_text resource_profiles one) ≡ 37
unfolding varint_upto number_field long_field bytes_field fixed_field
one_length = refl

-- ---- flat, and in parts

-- what is flat is grouped again as it was
grouped_again : group (flat (apart ∷ one ∷ [])) ≡ apart ++ one
grouped_again = refl

-- 45 bytes fit as they are, and not into 44
whole_part : parts 45 (join (one ∷ one ∷ []) ∷ []) ≡ join (one ∷ one ∷ []) ∷ []
unfolding varint_upto number_field long_field bytes_field fixed_field
whole_part = refl

two_parts : parts 44 (join (one ∷ one ∷ []) ∷ []) ≡ one ∷ one ∷ []
unfolding varint_upto number_field long_field bytes_field fixed_field
two_parts = refl

-- a profile that is too long by itself is a part
single_parts : parts 1 (join (one ∷ one ∷ []) ∷ []) ≡ one ∷ one ∷ []
unfolding varint_upto number_field long_field bytes_field fixed_field
single_parts = refl

-- parts close no seam: two messages stay two resource records in one part, in 49 bytes, and are two parts below that
kept_apart : parts 1000 (one ∷ one ∷ []) ≡ (one ++ one) ∷ []
unfolding varint_upto number_field long_field bytes_field fixed_field
kept_apart = refl

just_together : parts 49 (one ∷ one ∷ []) ≡ (one ++ one) ∷ []
unfolding varint_upto number_field long_field bytes_field fixed_field
just_together = refl

just_apart : parts 48 (one ∷ one ∷ []) ≡ one ∷ one ∷ []
unfolding varint_upto number_field long_field bytes_field fixed_field
just_apart = refl

-- each part is the longest that fits
abbrev two : List Tree
two = join (one ∷ one ∷ [])

longest_parts : parts 45 (join (one ∷ one ∷ one ∷ one ∷ []) ∷ []) ≡ two ∷ two ∷ []
unfolding varint_upto number_field long_field bytes_field fixed_field
longest_parts = refl

-- heads keep their schema_url
abbrev under_urls : List Tree
under_urls = one_under (117 ∷ []) (118 ∷ [])

urls_kept : parts 1000 (under_urls ∷ []) ≡ under_urls ∷ []
unfolding varint_upto number_field long_field bytes_field fixed_field
urls_kept = refl

-- records without profiles are gone
empty_gone : parts 1000 (empty_record ∷ one ∷ []) ≡ one ∷ []
unfolding varint_upto number_field long_field bytes_field fixed_field
empty_gone = refl

-- a meaning without records has no parts
no_parts : parts 48 ([] ∷ []) ≡ []
no_parts = refl

-- two scope records of one resource record with equal heads stay two in one part
abbrev in_one_resource : List (Value scope_profiles) → List Tree
in_one_resource ss = meaning_with (in_resource [] ss ∷ [])

abbrev equal_scopes : List Tree
equal_scopes = in_one_resource (in_scope [] (empty profile ∷ []) ∷ in_scope [] (empty profile ∷ []) ∷ [])

scopes_together : parts 1000 (equal_scopes ∷ []) ≡ equal_scopes ∷ []
unfolding varint_upto number_field long_field bytes_field fixed_field
scopes_together = refl

abbrev single_scope : List Tree
single_scope = in_one_resource (in_scope [] (empty profile ∷ []) ∷ [])

scopes_in_parts : parts 25 (equal_scopes ∷ []) ≡ single_scope ∷ single_scope ∷ []
unfolding varint_upto number_field long_field bytes_field fixed_field
scopes_in_parts = refl

-- they have 26 bytes together, and 22 each
scopes_fit : parts 26 (equal_scopes ∷ []) ≡ equal_scopes ∷ []
unfolding varint_upto number_field long_field bytes_field fixed_field
scopes_fit = refl

scopes_length : length (meaning_text resource_profiles equal_scopes) ≡ 26
unfolding varint_upto number_field long_field bytes_field fixed_field
scopes_length = refl

scope_length : length (meaning_text resource_profiles single_scope) ≡ 22
unfolding varint_upto number_field long_field bytes_field fixed_field
scope_length = refl

-- ---- under the last resource record

-- with equal resource heads one resource record holds both scope records, which stay two with equal heads
under_one : under_last one one ≡ in_one_resource (in_scope [] (cpu ∷ []) ∷ in_scope [] (cpu ∷ []) ∷ [])
under_one = refl

-- two equal scope records that come together stay two
two_under : under_last empty_record equal_scopes ≡ equal_scopes
two_under = refl

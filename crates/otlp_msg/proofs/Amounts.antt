-- How much there is in a message, as its records and as its value.
use Rattle.std.proofs.Common.{◌≡◌, ℕ, ◌+◌, ◌≤◌, List, [], ◌∷◌, ◌++◌, length, map, sum_by, refl, arith, length-append}
use Rattle.std.proofs.lemmas.List.{length-map}
use Rattle.std.proofs.lemmas.List.Sums.{sum_by-cons}
use Rattle.schema.specs.Messages.{attribute, value_type, sample, resource, resource_profiles, scope, scope_profiles, profile, dictionary, envelope}
use Rattle.schema.specs.Shape.{Shape, Number, Fixed, Bytes, Text, Index, End, One, Many, U32, U64, I64, Attributes, Value}
use Rattle.schema.specs.Spell.{spell}
use Rattle.schema.specs.Texts.{long_field, bytes_field, items_text}
use Rattle.schema_laws.proofs.Onto.{long_len}
use Rattle.prof_rec.specs.declared.profile.Profile.{Profile}
use Rattle.prof_rec.specs.declared.scope_profiles.ScopeProfiles.{ScopeProfiles}
use Rattle.prof_rec.specs.declared.resource_profiles.ResourceProfiles.{ResourceProfiles}
use Rattle.otlp_msg.proofs.Places.{items_count}
use Rattle.otlp_msg.specs.Counts.{scopes_count, resources_count, profiles_samples, scopes_samples, resources_samples}
use Rattle.otlp_msg.specs.Message.{Message, records_of, profiles_in_scopes, profiles_of, samples_in_profiles, samples_in_scopes, samples_of}
use Rattle.prof_rec.specs.Views.{sample_view, profile_view, scope_profiles_view, resource_profiles_view}

-- two sums are equal where their terms are
sums_agree : {A B : Type 0} (f : A → ℕ) (g : B → ℕ) (view : B → A) → ((x : B) → f (view x) ≡ g x) → (xs : List B) → sum_by f (map view xs) ≡ sum_by g xs
sums_agree f g view h [] = refl
sums_agree f g view h (x ∷ xs) =
    let here = h x in
    let more = sums_agree f g view h xs in
    let a = sum_by-cons f (view x) (map view xs) in
    let b = sum_by-cons g x xs in
    omega arith

-- the counts of records are those of their values
pub scopes_counted : (scopes : List ScopeProfiles) → profiles_in_scopes (map scope_profiles_view scopes) ≡ scopes_count scopes
scopes_counted scopes = sums_agree (λ (s : Value scope_profiles). length s.1.0) (λ (s : ScopeProfiles). length s.profiles) scope_profiles_view (λ s. length-map s.profiles profile_view) scopes

pub resources_counted : (records : List ResourceProfiles) → sum_by (λ r. profiles_in_scopes r.1.0) (map resource_profiles_view records) ≡ resources_count records
resources_counted records =
    sums_agree (λ (r : Value resource_profiles). profiles_in_scopes r.1.0) (λ (r : ResourceProfiles). scopes_count r.scope_profiles) resource_profiles_view (λ r. scopes_counted r.scope_profiles) records

-- each element is spelled with more bytes than its own spelling has
elements_within : {A : Type 0} (n : ℕ) (inner : A → List ℕ) (count : A → ℕ) → ((x : A) → count x ≤ length (inner x)) → (xs : List A) → sum_by count xs ≤ length (items_text n (map inner xs))
elements_within n inner count h [] = omega arith
elements_within n inner count h (x ∷ xs) =
    let here = h x in
    let more = elements_within n inner count h xs in
    let s = sum_by-cons count x xs in
    let t : length (items_text n (map inner (x ∷ xs))) ≡ length (long_field n (inner x)) + length (items_text n (map inner xs)) = length-append (long_field n (inner x)) (items_text n (map inner xs)) in
    omega (arith, long_len n (inner x))

-- so there are no more profiles than bytes
profiles_within : (s : Value scope_profiles) → length s.1.0 ≤ length (spell scope_profiles s)
profiles_within s =
    let head = bytes_field 1 (spell scope s.0) in
    let profiles = items_text 2 (map (spell profile) s.1.0) in
    let url = bytes_field 3 s.1.1.0 in
    omega (arith, items_count 2 (spell profile) s.1.0, length-append head (profiles ++ (url ++ [])), length-append profiles (url ++ []))

scopes_within : (r : Value resource_profiles) → profiles_in_scopes r.1.0 ≤ length (spell resource_profiles r)
scopes_within r =
    let all = elements_within 2 (spell scope_profiles) (λ s. length s.1.0) profiles_within r.1.0 in
    let head = bytes_field 1 (spell resource r.0) in
    let scopes = items_text 2 (map (spell scope_profiles) r.1.0) in
    let url = bytes_field 3 r.1.1.0 in
    omega (arith, length-append head (scopes ++ (url ++ [])), length-append scopes (url ++ []))

pub profiles_few : (m : Message) → profiles_of m ≤ length (spell envelope m)
profiles_few m =
    let all = elements_within 1 (spell resource_profiles) (λ r. profiles_in_scopes r.1.0) scopes_within (records_of m) in
    omega (arith, length-append (items_text 1 (map (spell resource_profiles) (records_of m))) (bytes_field 2 (spell dictionary m.1.0) ++ []))

-- the same of samples
profiles_sampled : (profiles : List Profile) → samples_in_profiles (map profile_view profiles) ≡ profiles_samples profiles
profiles_sampled profiles = sums_agree (λ (p : Value profile). length p.1.0) (λ (p : Profile). length p.samples) profile_view (λ p. length-map p.samples sample_view) profiles

scopes_sampled : (scopes : List ScopeProfiles) → samples_in_scopes (map scope_profiles_view scopes) ≡ scopes_samples scopes
scopes_sampled scopes =
    sums_agree (λ (s : Value scope_profiles). samples_in_profiles s.1.0) (λ (s : ScopeProfiles). profiles_samples s.profiles) scope_profiles_view (λ s. profiles_sampled s.profiles) scopes

pub resources_sampled : (records : List ResourceProfiles) → sum_by (λ r. samples_in_scopes r.1.0) (map resource_profiles_view records) ≡ resources_samples records
resources_sampled records =
    sums_agree (λ (r : Value resource_profiles). samples_in_scopes r.1.0) (λ (r : ResourceProfiles). scopes_samples r.scope_profiles) resource_profiles_view (λ r. scopes_sampled r.scope_profiles) records

-- the rows of a profile after its samples
abbrev later_rows : Shape
later_rows = One 3 Fixed (One 4 (Number U64) (One 5 value_type (One 6 (Number I64) (One 7 Bytes (One 8 (Number U32) (One 9 Text (One 10 Bytes (Many 11 (Index Attributes attribute) End))))))))

-- there are no more samples than bytes
samples_within : (p : Value profile) → length p.1.0 ≤ length (spell profile p)
samples_within p =
    let type = bytes_field 1 (spell value_type p.0) in
    let samples = items_text 2 (map (spell sample) p.1.0) in
    let rest = spell later_rows p.1.1 in
    omega (arith, items_count 2 (spell sample) p.1.0, length-append type (samples ++ rest), length-append samples rest)

profile_samples_within : (s : Value scope_profiles) → samples_in_profiles s.1.0 ≤ length (spell scope_profiles s)
profile_samples_within s =
    let all = elements_within 2 (spell profile) (λ p. length p.1.0) samples_within s.1.0 in
    let head = bytes_field 1 (spell scope s.0) in
    let profiles = items_text 2 (map (spell profile) s.1.0) in
    let url = bytes_field 3 s.1.1.0 in
    omega (arith, length-append head (profiles ++ (url ++ [])), length-append profiles (url ++ []))

scope_samples_within : (r : Value resource_profiles) → samples_in_scopes r.1.0 ≤ length (spell resource_profiles r)
scope_samples_within r =
    let all = elements_within 2 (spell scope_profiles) (λ s. samples_in_profiles s.1.0) profile_samples_within r.1.0 in
    let head = bytes_field 1 (spell resource r.0) in
    let scopes = items_text 2 (map (spell scope_profiles) r.1.0) in
    let url = bytes_field 3 r.1.1.0 in
    omega (arith, length-append head (scopes ++ (url ++ [])), length-append scopes (url ++ []))

pub samples_few : (m : Message) → samples_of m ≤ length (spell envelope m)
samples_few m =
    let all = elements_within 1 (spell resource_profiles) (λ r. samples_in_scopes r.1.0) scope_samples_within (records_of m) in
    omega (arith, length-append (items_text 1 (map (spell resource_profiles) (records_of m))) (bytes_field 2 (spell dictionary m.1.0) ++ []))

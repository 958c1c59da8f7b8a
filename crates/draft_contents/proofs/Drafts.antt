-- Drafts, and the meanings for which they stand.
use Rattle.std.proofs.Common.{◌≡◌, ℕ, ◌+◌, ◌<◌, ◌≤◌, ◌^◌, List, [], ◌∷◌, length, map, Result, Ok, Err, OnOk, OnErr, refl, sym, ap, ◌∙◌, subst, arith}
use Rattle.schema.specs.Each.{Each}
use Rattle.schema.specs.Fits.{Fits}
use Rattle.schema.specs.Messages.{resource_profiles, envelope}
use Rattle.schema.specs.Shape.{Table, Value}
use Rattle.schema.specs.Spell.{spell}
use Rattle.schema.specs.Texts.{long_field}
use Rattle.meaning.specs.Canonical.{IsWithin, records as records_of}
use Rattle.meaning.specs.Meaning.{HasZeros}
use Rattle.meaning.specs.Message.{tables_in}
use Rattle.meaning.specs.Tables.{entry}
use Rattle.meaning.specs.Tree.{Tree, tree}
use Rattle.prof_rec.specs.declared.resource_profiles.ResourceProfiles.{ResourceProfiles}
use Rattle.prof_rec.specs.Views.{resource_profiles_view}
use Rattle.otlp_msg.specs.declared.message.Message as declared
use Rattle.otlp_msg.specs.Message.{Message, message_limit}
use Rattle.otlp_msg.specs.declared.path.ProfilePos.{ProfilePos}
use Rattle.otlp_msg.specs.Views.{message_view}
use Rattle.key_tables.specs.Keys.{Keys, keys_text, zero_keys}
use Rattle.parts.specs.Parts.{RecordPart, parts_text}
use Rattle.renumber.specs.Entries.{IsPart, IsSource}
use Rattle.renumber.proofs.Parts.{message_part, message_source}
use Rattle.draft_contents.specs.Adding.{message_with}
use Rattle.draft_contents.specs.Contents.{Contents, IsDraft, contents, whole_text}
use Rattle.draft_contents.specs.Draft.{StandsFor, StandsForPlaced, StandsForSome}
use Rattle.draft_contents.specs.Meanings.{Meaning, IsAcceptedAs, placed, size_of}
use Rattle.draft_contents.specs.declared.incoming.Joining.{Joining}
use Rattle.draft_contents.proofs.Acceptance.{apart, meaning_accepted}
use Rattle.draft_contents.specs.Singles.{IsPosition, alone, record_alone}
use Rattle.draft_contents.proofs.Additions.{message_records}
use Rattle.draft_contents.proofs.Alone.{alone_part}
use Rattle.draft_contents.proofs.DraftContents.{begun, begun_len, whole_is, whole_len_is}

-- ---- bytes

-- the bytes of a draft are accepted with the meaning for which it stands
pub whole_accepted : (d : Contents) (ms : Meaning) → StandsFor d ms → IsAcceptedAs (whole_text d) ms
whole_accepted d ms s = subst (λ b. IsAcceptedAs b ms) (sym (whole_is d ms s.draft)) (meaning_accepted ms s.written)

-- so it stands for one
pub stands_for_one : (d : Contents) (ms ns : Meaning) → StandsFor d ms → StandsFor d ns → ms ≡ ns
stands_for_one d ms ns s t = apart ms ns s.written t.written (sym (whole_is d ms s.draft) ∙ whole_is d ns t.draft)

-- ---- sizes

-- the number of a draft's bytes is that of its meanings
pub size_is : (d : Contents) (ms : List Tree) (n : ℕ) → n ≡ length (whole_text d) → IsDraft d ms → n ≡ size_of ms
size_is d ms n e r = e ∙ ap length (whole_is d ms r)

-- that of none is sixteen
pub none_size : size_of [] ≡ 16
none_size = sym (size_is (contents zero_keys []) [] 16 (sym begun_len) begun)

-- the whole is no longer than a message may be
pub whole_few : (d : Contents) → StandsForSome d → length (whole_text d) ≤ message_limit
whole_few d s =
    let e = size_is d s.0 (length (whole_text d)) refl s.1.draft in
    let few = s.1.written.small in omega (arith, e, few)

-- the number of bytes, as the code finds it
pub len_is : (d : Contents) (ms : Meaning) (n text : ℕ) → text ≡ length (parts_text d.parts) → n ≡ text + length (long_field 2 (keys_text d.keys)) → IsDraft d ms → n ≡ size_of ms
len_is d ms n text e f r = size_is d ms n (omega (arith, e, f, whole_len_is d)) r

-- ---- the beginning

pub begun_stands : (keys : Keys) (parts : List RecordPart) → keys ≡ zero_keys → parts ≡ [] → StandsFor (contents keys parts) []
begun_stands keys parts e f = rw (e, f) (record { draft = begun; written = record { means = tt; ranges = tt; small = omega (arith, none_size) } })

-- ---- a message more

-- the message of the records that were found is the one that was found
pub found_message : (records : List ResourceProfiles) (found : declared.Message) (m : Message) → records ≡ found.records → message_view found ≡ m → message_with (map resource_profiles_view records) found.dictionary ≡ m
found_message records found m e v = ap (λ rs. message_with (map resource_profiles_view rs) found.dictionary) e ∙ v

module _ (records : List ResourceProfiles) (found : declared.Message) (m : Message) (e : message_with (map resource_profiles_view records) found.dictionary ≡ m) (z : HasZeros (tables_in m.1.0))
    (t : (T : Table) → Each (IsWithin (tables_in m.1.0) (entry T)) (tables_in m.1.0 T)) (r : Each (IsWithin (tables_in m.1.0) resource_profiles) (map (tree resource_profiles) m.0)) (f : Fits envelope m)
    (l : length (spell envelope m) < 2 ^ 60) where
  whole : IsPart envelope found.dictionary (message_with (map resource_profiles_view records) found.dictionary)
  whole =
      message_part found.dictionary (map resource_profiles_view records)
      (subst (λ (m : Message). (T : Table) → Each (IsWithin (tables_in m.1.0) (entry T)) (tables_in m.1.0 T)) (sym e) t)
      (subst (λ (m : Message). Each (IsWithin (tables_in m.1.0) resource_profiles) (map (tree resource_profiles) m.0)) (sym e) r)
      (subst (λ (m : Message). Fits envelope m) (sym e) f) (subst (λ (m : Message). length (spell envelope m) < 2 ^ 60) (sym e) l)

  -- it can be renumbered
  pub found_source : IsSource found.dictionary × IsPart (records_of resource_profiles) found.dictionary (map resource_profiles_view records, tt)
  found_source =
      let old = found.dictionary in
      let rs = map resource_profiles_view records in
      ((message_source old rs (subst (λ (m : Message). HasZeros (tables_in m.1.0)) (sym e) z) whole).0, message_records old rs whole)

  -- and so can the message of one of its profiles
  pub single_part : (pos : ProfilePos) (x : Value resource_profiles) → IsPosition m.0 pos → x ≡ record_alone (map resource_profiles_view records) pos
      → IsPart envelope found.dictionary (message_with (x ∷ []) found.dictionary)
  single_part pos x i h =
      subst (λ (y : Value resource_profiles). IsPart envelope found.dictionary (message_with (y ∷ []) found.dictionary)) (sym h)
      (alone_part found.dictionary (map resource_profiles_view records) pos (subst (λ (m : Message). IsPosition m.0 pos) (sym e) i) whole)

  pub single_records : (pos : ProfilePos) (x : Value resource_profiles) → IsPosition m.0 pos → x ≡ record_alone (map resource_profiles_view records) pos
      → IsPart (records_of resource_profiles) found.dictionary (x ∷ [], tt)
  single_records pos x i h = message_records found.dictionary (x ∷ []) (single_part pos x i h)

-- the message of one of its profiles is that profile alone
pub found_alone : (records : List ResourceProfiles) (found : declared.Message) (m : Message) (pos : ProfilePos) (x : Value resource_profiles)
    → message_with (map resource_profiles_view records) found.dictionary ≡ m → x ≡ record_alone (map resource_profiles_view records) pos
    → message_with (x ∷ []) found.dictionary ≡ alone m pos
found_alone records found m pos x e h = ap (λ (y : Value resource_profiles). message_with (y ∷ []) found.dictionary) h ∙ ap (λ (n : Message). alone n pos) e

pub found_fits : (records : List ResourceProfiles) (found : declared.Message) (m : Message) → message_with (map resource_profiles_view records) found.dictionary ≡ m → Fits envelope m
    → Fits envelope (message_with (map resource_profiles_view records) found.dictionary)
found_fits records found m e f = subst (λ (n : Message). Fits envelope n) (sym e) f

-- equal parts are equal contents
pub contents_same : (keys keys' : Keys) (parts parts' : List RecordPart) → keys ≡ keys' → parts ≡ parts' → contents keys parts ≡ contents keys' parts'
contents_same keys keys' parts parts' e f = ap (λ ps. contents keys ps) f ∙ ap (λ k. contents k parts') e

-- after each answer a draft stands for some meaning
pub still_stands : {A E : Type 0} (r : Result A E) (how : Joining) (d d' : Contents) (m : Message) → StandsForSome d → OnOk r (StandsForPlaced how d d' m) → OnErr r (d' ≡ d)
    → StandsForSome d'
still_stands (Ok x) how d d' m s ok err = (placed how s.0 m, ok s.0 s.1)
still_stands (Err e) how d d' m s ok err = subst StandsForSome (sym err) s

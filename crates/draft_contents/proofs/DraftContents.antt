-- The contents of drafts: they begin, gain records, and are the canonical bytes of meanings.
use Rattle.std.proofs.Common.{◌≡◌, ℕ, ◌+◌, List, [], ◌∷◌, ◌++◌, length, map, replicate, None, refl, sym, ap, ◌∙◌, arith}
use Rattle.std.proofs.lemmas.List.{length-append}
use Rattle.schema.specs.Messages.{resource_profiles}
use Rattle.schema.specs.Shape.{Value, Table, Mappings, Locations, Functions, Links, Strings, Attributes, Stacks}
use Rattle.schema.specs.Texts.{items_text, long_field, varint, varint_upto}
use Rattle.schema_laws.proofs.Onto.{long_onto}
use Rattle.meaning.specs.Canonical.{records, record_list, values}
use Rattle.meaning.specs.Message.{meaning_text, record_text}
use Rattle.meaning.specs.Renumbering.{BecomeEach, BeginWithZeros, Drafted, IsDeduplicated, WrittenEach}
use Rattle.meaning.specs.Tables.{Tables}
use Rattle.meaning.specs.Tree.{Tree, tree}
use Rattle.meaning.proofs.Drafts.{draft_begins, draft_canonical}
use Rattle.meaning.proofs.Texts.{draft-text}
use Rattle.meaning.proofs.Zeros.{entries_first}
use Rattle.dict_rec.specs.declared.dictionary.Dictionary.{Dictionary}
use Rattle.dict_rec.specs.Views.{dictionary_view}
use Rattle.key_tables.specs.Keys.{at, keys_text, text_from, zero_keys}
use Rattle.parts.specs.Parts.{parts_text}
use Rattle.parts.specs.Records.{record_parts}
use Rattle.parts.specs.Values.{value_parts}
use Rattle.parts.proofs.Values.{value-parts}
use Rattle.parts.proofs.Spelling.{records-text}
use Rattle.renumber.specs.Entries.{new_entries, old_entries}
use Rattle.renumber.specs.Walk.{IsReady, MemoLists}
use Rattle.renumber.proofs.Beginning.{zeros_alone}
use Rattle.renumber.proofs.Keys.{zero_key}
use Rattle.operations.specs.Heads.{HeadsFit}
use Rattle.operations.proofs.Drafts.{appended_draft}
use Rattle.operations.proofs.Repeated.{draft-by-texts, under-by-texts}
use Rattle.otlp_msg.specs.Message.{Message}
use Rattle.draft_contents.specs.Adding.{left_parts}
use Rattle.draft_contents.specs.Meanings.{meaning, placed}
use Rattle.draft_contents.specs.declared.incoming.Joining.{Joining}
use Rattle.draft_contents.specs.declared.incoming.Joining.TheVariants.{Resource, Scope, Seam}
use Rattle.draft_contents.specs.Contents.{Contents, IsDraft, contents, whole_text}
use Rattle.renumber.proofs.Texts.{nothing_met}
use Rattle.draft_contents.proofs.Dictionaries.{tables_spelled}

-- ---- the bytes

-- the bytes of a draft are the canonical ones
pub whole_is : (d : Contents) (ms : List Tree) → IsDraft d ms → whole_text d ≡ meaning_text resource_profiles ms
whole_is d ms r =
    let t = r.tables in
    ap (λ ps. parts_text ps ++ long_field 2 (keys_text d.keys)) r.spelled
    ∙ ap (λ ps. ps ++ long_field 2 (keys_text d.keys)) (records-text r.new_records)
    ∙ ap (λ b. items_text 1 (map (record_text resource_profiles) r.new_records) ++ long_field 2 b) (tables_spelled d.keys t.seven t.texts)
    ∙ sym (draft-text resource_profiles tt (new_entries d.keys) ms r.new_records t.drafted)

-- their number
pub whole_len_is : (d : Contents) → length (whole_text d) ≡ length (parts_text d.parts) + length (long_field 2 (keys_text d.keys))
whole_len_is d = length-append (parts_text d.parts) (long_field 2 (keys_text d.keys))

-- a tag, a length and the spelling of the tables, as the code puts them
pub dictionary_put : (x o1 o2 o3 t : List ℕ) (n : ℕ) → n ≡ length t → o1 ≡ x ++ varint 18 → o2 ≡ o1 ++ varint n → o3 ≡ o2 ++ t → o3 ≡ x ++ long_field 2 t
dictionary_put x o1 o2 o3 t n e f g h = h ∙ ap (λ o. o ++ t) (g ∙ ap (λ o. o ++ varint n) f) ∙ long_onto x 2 n t e

-- ---- the beginning

zeros_at : (T : Table) → at zero_keys T ≡ [] ∷ []
zeros_at Mappings = refl
zeros_at Locations = refl
zeros_at Functions = refl
zeros_at Links = refl
zeros_at Strings = refl
zeros_at Attributes = refl
zeros_at Stacks = refl

-- a draft of no meanings
pub begun : IsDraft (contents zero_keys []) []
begun = record {
  new_records = [];
  tables = record {
    seven = refl;
    drafted = draft_begins resource_profiles (new_entries zero_keys) (zeros_alone zero_keys zeros_at);
    texts = λ T. rw (zeros_at T) (zero_key T, tt);
    few = λ T. omega (arith, ap length (zeros_at T));
  };
  spelled = refl;
}

-- has sixteen bytes
pub begun_len : length (whole_text (contents zero_keys [])) ≡ 16
unfolding text_from long_field varint_upto
begun_len = refl

-- ---- records more

-- the tables of a draft are ready for another message
pub draft_ready : (old : Dictionary) (d : Contents) (ms : List Tree) (memo : MemoLists) → IsDraft d ms → length memo ≡ 7
    → ((T : Table) → at memo T ≡ replicate (length (old_entries old T)) None) → IsReady old d.keys memo
draft_ready old d ms memo r seven e = nothing_met old d.keys memo r.tables.drafted.deduplicated zero_first r.tables.texts r.tables.few r.tables.seven seven e
  where
    zero_first : BeginWithZeros (new_entries d.keys)
    zero_first T =
        let f = entries_first (records resource_profiles) (record_list ms) T in
        (f.0, (draft_canonical resource_profiles (new_entries d.keys) ms r.new_records r.tables.drafted).0 T ∙ f.1)

-- what is written after a draft's records makes a draft of the meaning with it, whose parts gain what is left of those written
placed_by_texts : (how : Joining) (d e : Tables) (ms xs ys : List Tree) (m : Message)
    → Drafted resource_profiles d ms xs → IsDeduplicated e → WrittenEach resource_profiles (values d) (values e) (meaning m) ys → HeadsFit ms → HeadsFit (meaning m)
    → (zs : List Tree) × Drafted resource_profiles e (placed how ms m) zs × (record_parts zs ≡ record_parts xs ++ left_parts how (record_parts xs) (record_parts ys))
placed_by_texts Resource d e ms xs ys m r s q f g = appended_draft d e ms (meaning m) xs ys r s q
placed_by_texts Scope d e ms xs ys m r s q f g = under-by-texts d e ms (meaning m) xs ys r s q f g
placed_by_texts Seam d e ms xs ys m r s q f g = draft-by-texts d e ms (meaning m) xs ys r s q f g

-- records that became these, with the parts that are left of them after the draft's, make such a draft
pub draft_grown : (how : Joining) (old : Dictionary) (rs ys : List (Value resource_profiles)) (d d' : Contents) (ms : List Tree) (memo : MemoLists)
    → IsDraft d ms → IsReady old d'.keys memo → BecomeEach (old_entries old) resource_profiles (values (new_entries d.keys)) (values (new_entries d'.keys)) rs ys
    → HeadsFit ms → HeadsFit (meaning (rs, (dictionary_view old, tt)))
    → d'.parts ≡ d.parts ++ left_parts how d.parts (value_parts ys) → IsDraft d' (placed how ms (rs, (dictionary_view old, tt)))
draft_grown how old rs ys d d' ms memo r q t f g e =
    let xs : List Tree = map (tree resource_profiles) ys in
    let j = placed_by_texts how (new_entries d.keys) (new_entries d'.keys) ms r.new_records xs (rs, (dictionary_view old, tt)) r.tables.drafted q.ready.deduplicated t f g in
    record {
      new_records = j.0;
      tables = record { seven = q.seven; drafted = j.1; texts = q.texts; few = q.few };
      spelled = e ∙ ap (λ ps. ps ++ left_parts how ps (value_parts ys)) r.spelled
          ∙ ap (λ ps. record_parts r.new_records ++ left_parts how (record_parts r.new_records) ps) (sym (value-parts ys)) ∙ sym j.2;
    }

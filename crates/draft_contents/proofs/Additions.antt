-- Records that are added: they were met, are measured, and stand with their new indexes.
use Rattle.std.proofs.Common.{◌≡◌, ◌+◌, ◌≤◌, ◌^◌, ◌++◌, ◌∷◌, [], ℕ, zero, suc, List, length, map, drop, Result, Ok, Err, sym, ap, ◌∙◌, subst, arith}
use Rattle.std.proofs.lemmas.List.{append-nil, length-append}
use Rattle.schema.specs.Messages.{resource_profiles, dictionary, envelope}
use Rattle.schema.specs.Moved.{moved}
use Rattle.schema.specs.Shape.{Value, One, End}
use Rattle.schema.specs.Spell.{spell}
use Rattle.schema.specs.Texts.{items_text, long_field}
use Rattle.meaning.specs.Canonical.{records}
use Rattle.meaning.specs.Memo.{index_in}
use Rattle.meaning.specs.Tree.{tree}
use Rattle.dict_rec.specs.declared.dictionary.Dictionary.{Dictionary}
use Rattle.dict_rec.specs.Views.{dictionary_view}
use Rattle.key_tables.specs.Keys.{Keys, at, keys_text}
use Rattle.otlp_msg.specs.Message.{message_limit}
use Rattle.parts.specs.LastHeads.{last_heads, repeated_head, repeated_parts}
use Rattle.parts.specs.Parts.{RecordPart, parts_text}
use Rattle.parts.specs.Sums.{Sums, sum_of, sums_from, sums_of, no_sums}
use Rattle.parts.specs.Values.{value_parts}
use Rattle.parts.proofs.Sizes.{sums_append, text_grows, text_size}
use Rattle.parts.proofs.Values.{value-parts}
use Rattle.parts.proofs.Spelling.{records-text}
use Rattle.renumber.specs.Entries.{IsPart, IsSource}
use Rattle.renumber.specs.Walk.{IsReady, State, WalkedEach, missed}
use Rattle.renumber.proofs.Parts.{part_rows}
use Rattle.renumber.proofs.Texts.{records_short as short_as_parts, values_spelled}
use Rattle.draft_contents.specs.Adding.{AreShorter, IsRefused, IsTooLong, left_parts, moved_parts}
use Rattle.draft_contents.specs.declared.incoming.Joining.{Joining}
use Rattle.draft_contents.specs.declared.incoming.Joining.TheVariants.{Resource, Scope, Seam}
use Rattle.draft_contents.specs.Contents.{contents, whole_text}
use Rattle.draft_contents.specs.declared.fault.BuildFault.{BuildFault}
use Rattle.draft_contents.specs.declared.fault.BuildFault.TheVariants.{OutputLimit, NoMemory}
use Rattle.draft_contents.proofs.DraftContents.{whole_len_is}
use Rattle.draft_contents.proofs.Lengths.{fronts_short, shorter_behind}

-- ---- lengths

-- the text of records alone
records_text : (xs : List (Value resource_profiles)) → length (spell (records resource_profiles) (xs, tt)) ≡ length (items_text 1 (map (spell resource_profiles) xs))
records_text xs = ap length (append-nil (items_text 1 (map (spell resource_profiles) xs)))

-- that of the parts of records is their spelling
parts_spelled : (ys : List (Value resource_profiles)) → parts_text (value_parts ys) ≡ items_text 1 (map (spell resource_profiles) ys)
parts_spelled ys = ap parts_text (sym (value-parts ys)) ∙ records-text (map (tree resource_profiles) ys) ∙ ap (items_text 1) (values_spelled resource_profiles ys)

-- records that are parts of a message can be measured with new indexes
pub measurable : (w : State) (xs : List (Value resource_profiles)) → IsSource w.source → IsReady w.source w.keys w.memo → IsPart (records resource_profiles) w.source (xs, tt)
    → AreShorter (2 ^ 63) (moved_parts w xs)
measurable w xs z r p =
    let b = short_as_parts w z r xs (part_rows w.source (xs, tt) p).0 1 in
    let s = p.short in
    fronts_short (2 ^ 63) (moved_parts w xs) (omega (arith, b, s, records_text xs, ap length (parts_spelled (map (moved (index_in (at w.memo)) resource_profiles) xs))))

-- and so can what is left of them
dropped_shorter : (n k : ℕ) (ps : List RecordPart) → AreShorter n ps → AreShorter n (drop k ps)
dropped_shorter n zero ps h = h
dropped_shorter n (suc k) [] h = h
dropped_shorter n (suc k) (p ∷ ps) h = dropped_shorter n k ps h.1

left_shorter : (how : Joining) (before ps : List RecordPart) → AreShorter (2 ^ 63) ps → AreShorter (2 ^ 63) (left_parts how before ps)
left_shorter Resource before ps h = h
left_shorter Scope before ps h = dropped_shorter (2 ^ 63) (repeated_head (last_heads before) ps) ps h
left_shorter Seam before ps h = dropped_shorter (2 ^ 63) (repeated_parts (last_heads before) ps) ps h

pub left_measurable : (how : Joining) (before added ps : List RecordPart) → added ≡ left_parts how before ps → AreShorter (2 ^ 63) ps → AreShorter (2 ^ 63) added
left_measurable how before added ps e h = subst (AreShorter (2 ^ 63)) (sym e) (left_shorter how before ps h)

-- and put, where the whole is no longer than a message may be
pub writable : (keys : Keys) (ps qs : List RecordPart) → length (whole_text (contents keys (ps ++ qs))) ≤ message_limit → AreShorter (2 ^ 62) qs
writable keys ps qs l = shorter_behind (2 ^ 62) ps qs (fronts_short (2 ^ 62) (ps ++ qs) (omega (arith, l, whole_len_is (contents keys (ps ++ qs)))))

-- the total that was measured is the length with the parts that are added
measured_text : (ps qs : List RecordPart) (before s : Sums) (total : ℕ) → before ≡ sums_of ps → s ≡ sums_from before qs → total ≡ sum_of s → total ≡ length (parts_text (ps ++ qs))
measured_text ps qs before s total b e f =
    f ∙ ap sum_of (e ∙ ap (λ t. sums_from t qs) b ∙ sym (sums_append ps qs no_sums)) ∙ sym (text_size (ps ++ qs))

-- no less than before
pub measured_grows : (ps qs : List RecordPart) (before s : Sums) (total len : ℕ) → before ≡ sums_of ps → s ≡ sums_from before qs → total ≡ sum_of s → len ≡ length (parts_text ps) → len ≤ total
measured_grows ps qs before s total len b e f l = omega (arith, l, measured_text ps qs before s total b e f, text_grows ps qs)

-- with that of the dictionary it is that of the whole
pub measured_size : (keys tables : Keys) (ps qs : List RecordPart) (before s : Sums) (total size : ℕ) → before ≡ sums_of ps → s ≡ sums_from before qs → total ≡ sum_of s
    → tables ≡ keys → size ≡ total + length (long_field 2 (keys_text tables)) → size ≡ length (whole_text (contents keys (ps ++ qs)))
measured_size keys tables ps qs before s total size b e f k z =
    z ∙ ap (λ x. total + length (long_field 2 (keys_text x))) k ∙ ap (λ n. n + length (long_field 2 (keys_text keys))) (measured_text ps qs before s total b e f)
    ∙ sym (whole_len_is (contents keys (ps ++ qs)))

-- the records of a message are parts of it
pub message_records : (old : Dictionary) (rs : List (Value resource_profiles)) → IsPart envelope old (rs, (dictionary_view old, tt)) → IsPart (records resource_profiles) old (rs, tt)
message_records old rs p =
    let t = items_text 1 (map (spell resource_profiles) rs) in
    let l = length-append t (spell (One 2 dictionary End) (dictionary_view old, tt)) in
    let s = p.short in
    record { within = (p.within.0, tt); fits = (p.fits.0, p.fits.1, tt); short = omega (arith, l, s, records_text rs) }

-- ---- refusals

-- records that were walked over, and are too long, are refused
pub refused_by : (limit : ℕ) (how : Joining) (a b : State) (before : List RecordPart) (xs : List (Value resource_profiles)) (fault : BuildFault) → WalkedEach resource_profiles a b xs
    → IsTooLong limit how b before xs fault → IsRefused limit how a b before xs fault
refused_by limit how a b before xs (OutputLimit size) w t = (w, t)
refused_by limit how a b before xs NoMemory w t = tt

-- ---- steps

pub missed_most : {A E : Type 0} (r : Result A E) → missed r ≤ 1
missed_most (Ok x) = omega arith
missed_most (Err e) = omega arith

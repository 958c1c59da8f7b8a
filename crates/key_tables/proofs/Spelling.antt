-- The spelling of keys, table by table and with one key more.
use Rattle.std.proofs.Common.{◌≡◌, ℕ, zero, suc, ◌+◌, ◌*◌, ◌<◌, ◌≤◌, ◌^◌, List, [], ◌∷◌, ◌++◌, length, take, get_or, refl, sym, ap, ◌∙◌, subst, arith, length-append}
use Rattle.std.specs.Prelude.{slice_set}
use Rattle.std.proofs.lemmas.Grind.{flat_map-append}
use Rattle.std.proofs.lemmas.List.{append-nil, append_assoc, take_more}
use Rattle.schema.specs.Texts.{varint, items_text, long_field}
use Rattle.schema_laws.proofs.Onto.{long_len}
use Rattle.key_tables.specs.Keys.{AreFew, InternedIn, Keys, at, keys_text, text_from, zero_keys}
use Rattle.key_tables.proofs.Places.{field_at, interned_new, one_by_one, place_below, read_within}
use Rattle.schema.specs.Shape.{Table, Mappings, Locations, Functions, Links, Strings, Attributes, Stacks}
use Rattle.schema.specs.Tables.{field_of}
use Rattle.pb_wire.specs.TableKinds.{place_of}

-- ---- one key more

-- in its table
one_more : (n : ℕ) (old : List (List ℕ)) (key : List ℕ) → length (items_text n (old ++ key ∷ [])) ≡ length (items_text n old) + length (long_field n key)
one_more n old key =
    ap length (flat_map-append (long_field n) old (key ∷ []) ∙ ap (λ t. items_text n old ++ t) (append-nil (long_field n key)))
    ∙ length-append (items_text n old) (long_field n key)

-- and in all
pub len_more : (n : ℕ) (old : Keys) (p : ℕ) (key : List ℕ) → p < length old
    → length (text_from n (slice_set old p (get_or old p [] ++ key ∷ []))) ≡ length (text_from n old) + length (long_field (n + p) key)
unfolding text_from
len_more n [] p key l = absurd (omega (arith, l))
len_more n (k ∷ ks) zero key l =
    let e : n + 0 ≡ n = omega arith in
    let a : length (text_from n ((k ++ key ∷ []) ∷ ks)) ≡ length (items_text n (k ++ key ∷ [])) + length (text_from (suc n) ks) =
    length-append (items_text n (k ++ key ∷ [])) (text_from (suc n) ks) in
    let b : length (text_from n (k ∷ ks)) ≡ length (items_text n k) + length (text_from (suc n) ks) = length-append (items_text n k) (text_from (suc n) ks) in
    rw e (omega (arith, a, b, one_more n k key))
len_more n (k ∷ ks) (suc p) key l =
    let e : n + suc p ≡ suc n + p = omega arith in
    let more : Keys = slice_set ks p (get_or ks p [] ++ key ∷ []) in
    let a : length (text_from n (k ∷ more)) ≡ length (items_text n k) + length (text_from (suc n) more) = length-append (items_text n k) (text_from (suc n) more) in
    let b : length (text_from n (k ∷ ks)) ≡ length (items_text n k) + length (text_from (suc n) ks) = length-append (items_text n k) (text_from (suc n) ks) in
    rw e (omega (arith, a, b, len_more (suc n) ks p key (omega (arith, l))))

-- that it came to as a new one
pub len_grown : (T : Table) (old : Keys) (key : List ℕ) (new : Keys) (index : ℕ) → InternedIn (place_of T) old key new index → length old ≡ 7 → length (at old T) ≤ index
    → length (keys_text new) ≡ length (keys_text old) + length (long_field (field_of T) key)
len_grown T old key new index h seven l =
    let below : place_of T < length old = omega (arith, place_below T, seven) in
    ap (λ k. length (keys_text k)) (h.is ∙ ap (slice_set old (place_of T)) (interned_new (at old T) h.keys key index h.interned l))
    ∙ len_more 1 old (place_of T) key below ∙ ap (λ n. length (keys_text old) + length (long_field n key)) (sym (field_at T))

-- ---- one table more

later : (n : ℕ) → n + 1 ≡ suc n
later n = omega arith

table_more : (n : ℕ) (keys : Keys) (i : ℕ) → i < length keys → text_from n (take (suc i) keys) ≡ text_from n (take i keys) ++ items_text (n + i) (get_or keys i [])
unfolding text_from
table_more n [] i l = absurd (omega (arith, l))
table_more n (k ∷ ks) zero l = let e : n + 0 ≡ n = omega arith in rw e (append-nil (items_text n k))
table_more n (k ∷ ks) (suc i) l =
    let e : n + suc i ≡ suc n + i = omega arith in
    rw e (ap (λ t. items_text n k ++ t) (table_more (suc n) ks i (omega (arith, l)))
    ∙ sym (append_assoc (items_text n k) (text_from (suc n) (take i ks)) (items_text (suc n + i) (get_or ks i []))))

pub text_more : (n : ℕ) (keys : Keys) (i : ℕ) → i < length keys → text_from n (take (i + 1) keys) ≡ text_from n (take i keys) ++ items_text (n + i) (get_or keys i [])
text_more n keys i l = ap (λ m. text_from n (take m keys)) (later i) ∙ table_more n keys i l

pub text_none : (n : ℕ) → text_from n [] ≡ []
unfolding text_from
text_none n = refl

-- the texts of seven tables
pub text_by_table : (keys : Keys) → length keys ≡ 7
    → keys_text keys ≡ items_text 1 (at keys Mappings) ++ (items_text 2 (at keys Locations) ++ (items_text 3 (at keys Functions) ++ (items_text 4 (at keys Links)
    ++ (items_text 5 (at keys Strings) ++ (items_text 6 (at keys Attributes) ++ items_text 7 (at keys Stacks))))))
unfolding text_from
text_by_table keys seven =
    let last : items_text 7 (at keys Stacks) ++ [] ≡ items_text 7 (at keys Stacks) = append-nil (items_text 7 (at keys Stacks)) in
    let all : keys_text keys ≡ items_text 1 (at keys Mappings) ++ (items_text 2 (at keys Locations) ++ (items_text 3 (at keys Functions) ++ (items_text 4 (at keys Links)
    ++ (items_text 5 (at keys Strings) ++ (items_text 6 (at keys Attributes) ++ (items_text 7 (at keys Stacks) ++ [])))))) = ap keys_text (one_by_one keys seven) in
    cc

-- put at the end
pub none_put : (out : List ℕ) → out ≡ out ++ text_from 1 []
none_put out = sym (append-nil out) ∙ ap (λ t. out ++ t) (sym (text_none 1))

pub table_put : (out before after : List ℕ) (keys : Keys) (i : ℕ) (k : List (List ℕ)) → i < length keys → k ≡ get_or keys i k
    → before ≡ out ++ text_from 1 (take i keys) → after ≡ before ++ items_text (i + 1) k → after ≡ out ++ text_from 1 (take (i + 1) keys)
table_put out before after keys i k l e f g =
    let n : i + 1 ≡ 1 + i = omega arith in
    let a : items_text (i + 1) k ≡ items_text (1 + i) (get_or keys i []) = ap (λ m. items_text m k) n ∙ ap (items_text (1 + i)) (read_within keys i k l e) in
    g ∙ ap (λ t. t ++ items_text (i + 1) k) f ∙ ap (λ t. (out ++ text_from 1 (take i keys)) ++ t) a
    ∙ append_assoc out (text_from 1 (take i keys)) (items_text (1 + i) (get_or keys i [])) ∙ ap (λ t. out ++ t) (sym (text_more 1 keys i l))

-- one key more of a table
pub key_more : (n : ℕ) (keys : List (List ℕ)) (i : ℕ) → i < length keys → items_text n (take (i + 1) keys) ≡ items_text n (take i keys) ++ long_field n (get_or keys i [])
key_more n keys i l =
    ap (items_text n) (take_more keys i [] l) ∙ flat_map-append (long_field n) (take i keys) (get_or keys i [] ∷ [])
    ∙ ap (λ t. items_text n (take i keys) ++ t) (append-nil (long_field n (get_or keys i [])))

-- ---- lengths

-- that of a field, as the code finds it
pub long_len_of : (n m : ℕ) (b text : List ℕ) (len size : ℕ) → m ≡ n → text ≡ b → len ≡ length text → size ≡ length (varint (m * 8 + 2)) + length (varint len) + len
    → size ≡ length (long_field n b)
long_len_of n m b text len size e f g h = h ∙ ap (λ x. length (varint (x * 8 + 2)) + length (varint len) + len) e
    ∙ ap (λ x. length (varint (n * 8 + 2)) + length (varint x) + x) (g ∙ ap length f) ∙ sym (long_len n b)

-- that of the zero entries alone
pub fourteen : length (keys_text zero_keys) ≡ 14
unfolding text_from long_field Rattle.schema.specs.Texts.varint_upto
fourteen = refl

-- that of no tables
pub nothing : length (keys_text []) ≡ 0
unfolding text_from
nothing = refl

-- both with what is kept of any
few_zeros : AreFew zero_keys
few_zeros zero = omega arith
few_zeros (suc zero) = omega arith
few_zeros (suc (suc zero)) = omega arith
few_zeros (suc (suc (suc zero))) = omega arith
few_zeros (suc (suc (suc (suc zero)))) = omega arith
few_zeros (suc (suc (suc (suc (suc zero))))) = omega arith
few_zeros (suc (suc (suc (suc (suc (suc zero)))))) = omega arith
few_zeros (suc (suc (suc (suc (suc (suc (suc place))))))) = omega arith

pub zeros_measured : (keys : Keys) → keys ≡ zero_keys → (14 ≡ length (keys_text keys)) × (14 ≤ 2 ^ 62) × AreFew keys
zeros_measured keys e = (sym (ap (λ k. length (keys_text k)) e ∙ fourteen), omega arith, subst AreFew (sym e) few_zeros)

pub none_measured : (keys : Keys) → keys ≡ [] → (0 ≡ length (keys_text keys)) × (0 ≤ 2 ^ 62) × AreFew keys
none_measured keys e = (sym (ap (λ k. length (keys_text k)) e ∙ nothing), omega arith, subst AreFew (sym e) (λ place. omega arith))

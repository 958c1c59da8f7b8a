-- The same for repeated rows, and for whole messages.
use Rattle.std.proofs.Common.{◌≡◌, ℕ, ◌+◌, ◌*◌, ◌-◌, ◌/◌, ◌%◌, ◌^◌, ◌<◌, ◌≤◌, List, [], ◌∷◌, ◌++◌, length, map, Result, Ok, Err, refl, sym, ap, subst, ◌∙◌, arith, length-append, inl, inr}
use Rattle.std.specs.Prelude.{◌==◌, ◌⊎◌}
use Rattle.std.specs.Int.{w64, to_le_bytes, from_le_bytes}
use Rattle.std.specs.Str.{is_utf8}
use Rattle.std.proofs.lemmas.Bool.{eqb-true}
use Rattle.std.proofs.lemmas.Str.{IsUtf8-nil, is_utf8-from_IsUtf8}
use Rattle.std.proofs.lemmas.Grind.{flat_map-append}
use Rattle.std.proofs.lemmas.List.{map-append}
use Rattle.schema.specs.Field.{Eight, Long, Payload, Varint, greatest_number}
use Rattle.schema.specs.Fault.{NotUtf8, PackedLength, Reason, fault_at}
use Rattle.schema.specs.Decoding.{◌>>=◌}
use Rattle.schema.specs.Shape.{Any, Bytes, Fixed, Flag, Format, I32, I64, Index, IsMessage, Many, Number, NumberValue, One, Shape, Text, U32, U64, Value, empty, number_from, number_zero}
use Rattle.schema.specs.Merge.{at_place, merge, packed, packed_fixed, more_bytes, more_fixed, take_many, more_numbers, take_one, more_texts, take_field}
use Rattle.schema.specs.Run.{text_of}
use Rattle.schema.specs.Texts.{bytes_field, fixed_field, fixed_text, items_text, long_field, number_field, number_to, numbers_text, varint, FitsNumber}
use Rattle.schema.specs.Spell.{spell, spell_many, spell_one}
use Rattle.schema.specs.Each.{Each}
use Rattle.schema_laws.proofs.Results.{ok_is, bind_ok, checked_ok}
use Rattle.schema_laws.proofs.Onto.{varint_at_most}
use Rattle.schema_laws.proofs.Rows.{take_many_message, take_many_short}
use Rattle.schema_laws.proofs.FixedNumbers.{fixed_len}
use Rattle.schema_laws.proofs.PackedNumbers.{packed_right}
use Rattle.schema_laws.proofs.Lists.{each_append}
use Rattle.schema_laws.proofs.Ranges.{number_fits, numbers_fit, fixed_below, eights_fit, PayloadInRange, field_cost}
use Rattle.schema_laws.proofs.Lengths.{bytes_field_len, bytes_field_le, each_as}
use Rattle.schema_laws.proofs.Growth.{AlsoIn, InRange, size, Keeps, message_keeps, one_keeps}
use Rattle.schema_laws.proofs.Growing.{Grows, stays, becomes, item_grows, row_keeps}
use Rattle.std.proofs.lemmas.List.Folds.{flat_map-map}
use Rattle.schema.specs.AnyValue.{AnyValue}
use Rattle.schema.specs.AnyMerge.{add_element, any_levels, item_at, merge_any}
use Rattle.schema.specs.AnySpell.{AnyInRange, any_text}
use Rattle.schema_laws.proofs.AnyGrowth.{add_keeps, any_keeps, item_keeps, numbered_size}

-- the bytes of a packed field, to which others come
packed_grow : (n : ℕ) → n ≤ greatest_number → (a b c : List ℕ) (cost : ℕ) → c ≡ a ++ b → 20 + length b ≤ 16 * cost → length (bytes_field n a) + 16 * cost < 2 ^ 64
    → length (bytes_field n c) ≤ length (bytes_field n a) + 16 * cost
packed_grow n le a b c cost e short room =
    let len : length c ≡ length a + length b = ap length e ∙ length-append a b in
    let g = bytes_field_le n a in
    let l = bytes_field_len n c le (omega arith) in omega arith

-- ---- numbers

-- each number of a packed text has ten bytes at most
numbers_len : (w : Format) (vs : List (NumberValue w)) → Each (FitsNumber w) vs → length (numbers_text w vs) ≤ 10 * length vs
numbers_len w [] i = omega arith
numbers_len w (v ∷ vs) i =
    let a = varint_at_most (number_to w v) i.0.0 in
    let b = numbers_len w vs i.1 in
    omega (arith, length-append (varint (number_to w v)) (numbers_text w vs))

-- numbers that come after others
numbers_grow : (w : Format) (n : ℕ) → n ≤ greatest_number → (us ns vs : List (NumberValue w)) (cost : ℕ) → us ++ ns ≡ vs → Each (FitsNumber w) us → Each (FitsNumber w) ns → 20 + 10 * length ns ≤ 16 * cost
    → length (bytes_field n (numbers_text w us)) + 16 * cost < 2 ^ 64 → Grows (Each (FitsNumber w)) (λ xs. length (bytes_field n (numbers_text w xs))) us cost vs
numbers_grow w n le us ns vs cost e i j short room =
    let l = numbers_len w ns j in
    becomes (Each (FitsNumber w)) (λ xs. length (bytes_field n (numbers_text w xs))) us (us ++ ns) vs cost e (each_append (FitsNumber w) us ns i j)
    (packed_grow n le (numbers_text w us) (numbers_text w ns) (numbers_text w (us ++ ns)) cost (flat_map-append (λ v. varint (number_to w v)) us ns) (omega arith) room)

-- a packed payload gives numbers in their range, and no more of them than it has bytes
packed_gives : (w : Format) (at : ℕ) (b : List ℕ) (r : Result (List (NumberValue w)) Reason) (us vs : List (NumberValue w)) → packed w b ≡ r
    → (at_place at r >>= λ ns. Ok (us ++ ns)) ≡ Ok vs → (ns : List (NumberValue w)) × (us ++ ns ≡ vs) × Each (FitsNumber w) ns × (length ns ≤ length b)
packed_gives w at b (Err r) us vs q e = absurd cc
packed_gives w at b (Ok ns) us vs q e =
    let r = packed_right w b ns q in
    let f = numbers_fit w b r.0 r.1 in
    (ns, ok_is (us ++ ns) vs e, subst (Each (FitsNumber w)) (sym r.2) f.0, omega (arith, ap length r.2, f.1))

-- a repeated row of numbers
numbers_keep : (w : Format) (n : ℕ) → n ≤ greatest_number → (at : ℕ) (p : Payload) (us vs : List (NumberValue w)) → PayloadInRange p → Each (FitsNumber w) us
    → length (bytes_field n (numbers_text w us)) + 16 * field_cost p < 2 ^ 64 → more_numbers w at p us ≡ Ok vs
    → Grows (Each (FitsNumber w)) (λ xs. length (bytes_field n (numbers_text w xs))) us (field_cost p) vs
numbers_keep w n le at (Varint m) us vs r i room e = numbers_grow w n le us (number_from w m ∷ []) vs 2 (ok_is (us ++ number_from w m ∷ []) vs e) i (number_fits w m r, tt) (omega arith) room
numbers_keep w n le at (Long b) us vs r i room e =
    let g = packed_gives w at b (packed w b) us vs refl e in
    let short = g.3 in
    numbers_grow w n le us g.0 vs (length b + 2) g.1 i g.2 (omega arith) room
numbers_keep w n le at p us vs r i room e = stays (Each (FitsNumber w)) (λ xs. length (bytes_field n (numbers_text w xs))) us vs (field_cost p) (ok_is us vs e) i

-- ---- eight-byte values

-- eight-byte values in their range
abbrev Fixeds : List ℕ → Type 0
Fixeds vs = Each (λ v. v < 2 ^ 64) vs

-- eight-byte values that come after others
fixed_grow : (n : ℕ) → n ≤ greatest_number → (us ns vs : List ℕ) (cost : ℕ) → us ++ ns ≡ vs → Fixeds us → Fixeds ns → 20 + 8 * length ns ≤ 16 * cost
    → length (bytes_field n (fixed_text us)) + 16 * cost < 2 ^ 64 → Grows Fixeds (λ xs. length (bytes_field n (fixed_text xs))) us cost vs
fixed_grow n le us ns vs cost e i j short room =
    becomes Fixeds (λ xs. length (bytes_field n (fixed_text xs))) us (us ++ ns) vs cost e (each_append (λ v. v < 2 ^ 64) us ns i j)
    (packed_grow n le (fixed_text us) (fixed_text ns) (fixed_text (us ++ ns)) cost (flat_map-append (to_le_bytes w64) us ns) (eights (fixed_text ns) (fixed_len ns)) room)
  where
    eights : (text : List ℕ) → length text ≡ 8 * length ns → 20 + length text ≤ 16 * cost
    eights text l = omega arith

-- a repeated row of eight-byte values
fixed_keep : (n : ℕ) → n ≤ greatest_number → (at : ℕ) (p : Payload) (us vs : List ℕ) → PayloadInRange p → Fixeds us
    → length (bytes_field n (fixed_text us)) + 16 * field_cost p < 2 ^ 64 → more_fixed at p us ≡ Ok vs → Grows Fixeds (λ xs. length (bytes_field n (fixed_text xs))) us (field_cost p) vs
fixed_keep n le at (Eight b) us vs r i room e = fixed_grow n le us (from_le_bytes w64 b ∷ []) vs 2 (ok_is (us ++ from_le_bytes w64 b ∷ []) vs e) i (fixed_below b r.0, tt) (omega arith) room
fixed_keep n le at (Long b) us vs r i room e =
    let f = eights_fit (length b / 8) b r in
    let len : length (packed_fixed b) ≡ length b / 8 = f.1 in
    fixed_grow n le us (packed_fixed b) vs (length b + 2) (checked_ok (length b % 8 == 0) (us ++ packed_fixed b) vs (fault_at at PackedLength) e).1 i f.0 (omega arith) room
fixed_keep n le at p us vs r i room e = stays Fixeds (λ xs. length (bytes_field n (fixed_text xs))) us vs (field_cost p) (ok_is us vs e) i

-- ---- bytes and texts

-- an element that comes after others
items_grow : (In : List ℕ → Type 0) (n : ℕ) → n ≤ greatest_number → (us vs : List (List ℕ)) (b : List ℕ) → us ++ b ∷ [] ≡ vs → Each In us → In b → 16 * (length b + 2) < 2 ^ 64
    → Grows (Each In) (λ xs. length (items_text n xs)) us (length b + 2) vs
items_grow In n le us vs b e i j room =
    becomes (Each In) (λ xs. length (items_text n xs)) us (us ++ b ∷ []) vs (length b + 2) e (each_append In us (b ∷ []) i (j, tt))
    (item_grows n le (items_text n us) b (items_text n (us ++ b ∷ [])) (length b + 2) (flat_map-append (long_field n) us (b ∷ [])) (omega arith) room)

-- a repeated row of bytes
bytes_keep : (n : ℕ) → n ≤ greatest_number → (p : Payload) (us vs : List (List ℕ)) → Each (InRange Bytes) us → length (items_text n us) + 16 * field_cost p < 2 ^ 64 → more_bytes p us ≡ vs
    → Grows (Each (InRange Bytes)) (λ xs. length (items_text n xs)) us (field_cost p) vs
bytes_keep n le (Long b) us vs i room e = items_grow (InRange Bytes) n le us vs b e i tt (omega arith)
bytes_keep n le p us vs i room e = stays (Each (InRange Bytes)) (λ xs. length (items_text n xs)) us vs (field_cost p) e i

-- a repeated row of texts
texts_keep : (n : ℕ) → n ≤ greatest_number → (at : ℕ) (p : Payload) (us vs : List (List ℕ)) → Each (InRange Text) us → length (items_text n us) + 16 * field_cost p < 2 ^ 64 → more_texts at p us ≡ Ok vs
    → Grows (Each (InRange Text)) (λ xs. length (items_text n xs)) us (field_cost p) vs
texts_keep n le at (Long b) us vs i room e =
    let r = bind_ok (text_of at b) (λ (t : List ℕ). Ok (us ++ t ∷ [])) vs e in
    let t = checked_ok (is_utf8 b) b r.0 (fault_at at NotUtf8) r.1 in
    items_grow (InRange Text) n le us vs b (ap (λ (x : List ℕ). us ++ x ∷ []) t.1 ∙ ok_is (us ++ r.0 ∷ []) vs r.2) i t.0 (omega arith)
texts_keep n le at p us vs i room e = stays (Each (InRange Text)) (λ xs. length (items_text n xs)) us vs (field_cost p) (ok_is us vs e) i

-- ---- messages

-- a repeated row of messages
many_message : (k : Shape) → IsMessage k → Keeps k → InRange k (empty k) → spell k (empty k) ≡ [] → (n : ℕ) → n ≤ greatest_number → (at end : ℕ) (p : Payload) (us vs : List (Value k)) → PayloadInRange p
    → Each (InRange k) us → length (items_text n (map (spell k) us)) + 16 * field_cost p < 2 ^ 64 → take_many k (take_field k) at end p us ≡ Ok vs
    → Grows (Each (InRange k)) (λ xs. length (items_text n (map (spell k) xs))) us (field_cost p) vs
many_message k m keep start nothing n le at end (Long b) us vs r i room e =
    let x = bind_ok (merge k (empty k) (end - length b) b) (λ v. Ok (us ++ v ∷ [])) vs (sym (take_many_message k (take_field k) at end b us m) ∙ e) in
    let none : size k (empty k) ≡ 0 = ap length nothing in
    let g = message_keeps k keep (end - length b) b (empty k) x.0 r start (omega arith) x.1 in
    let short = g.1 in
    becomes (Each (InRange k)) (λ xs. length (items_text n (map (spell k) xs))) us (us ++ x.0 ∷ []) vs (length b + 2) (ok_is (us ++ x.0 ∷ []) vs x.2) (each_append (InRange k) us (x.0 ∷ []) i (g.0, tt))
    (item_grows n le (items_text n (map (spell k) us)) (spell k x.0) (items_text n (map (spell k) (us ++ x.0 ∷ []))) (length b + 2)
    (ap (items_text n) (map-append (spell k) us (x.0 ∷ [])) ∙ flat_map-append (long_field n) (map (spell k) us) (spell k x.0 ∷ [])) (omega arith) (omega arith))
many_message k m keep start nothing n le at end p us vs r i room e =
    stays (Each (InRange k)) (λ xs. length (items_text n (map (spell k) xs))) us vs (field_cost p) (ok_is us vs (sym (take_many_short k (take_field k) at end p us m tt) ∙ e)) i

-- what is asked of the elements of a repeated row
abbrev pub ManyIn : (k : Shape) → List (Value k) → Type 0
ManyIn k vs = Each (InRange k) vs × AlsoIn k vs

-- nothing more is asked where a row is read
also : {A : Type 0} (P : List A → Type 0) (length_of : List A → ℕ) (us : List A) (cost : ℕ) (vs : List A) → Grows P length_of us cost vs
    → (P vs × Unit {0}) × (length_of vs ≤ length_of us + 16 * cost)
also P length_of us cost vs g = ((g.0, tt), g.1)

-- AnyValues that are written may be in a row
each_written : (left : ℕ) (vs : List AnyValue) → Each (AnyInRange left) vs → Each (λ v. (v ≡ AnyValue.Empty) ⊎ AnyInRange left v) vs
each_written left vs i = each_as (AnyInRange left) (λ v. (v ≡ AnyValue.Empty) ⊎ AnyInRange left v) (λ v j. inr j) vs i

-- a repeated row of AnyValues
values_keep : (depth n : ℕ) → n ≤ greatest_number → (at end : ℕ) (p : Payload) (us vs : List AnyValue) → PayloadInRange p → Each (AnyInRange (any_levels depth)) us
    → length (items_text n (map any_text us)) + 16 * field_cost p < 2 ^ 64 → add_element (item_at (merge_any (any_levels depth))) at end p us ≡ Ok vs
    → Grows (ManyIn (Any depth)) (λ xs. length (items_text n (map any_text xs))) us (field_cost p) vs
values_keep depth n le at end p us vs r i room e =
    let left = any_levels depth in
    let size : (xs : List AnyValue) → length (items_text n (map any_text xs)) ≡ numbered_size n any_text xs = λ xs. ap length (flat_map-map (long_field n) any_text xs) in
    let g = add_keeps (item_at (merge_any left)) (AnyInRange left) any_text (item_keeps (merge_any left) (AnyInRange left) (any_keeps left)) n le at end p us vs r i
    (subst (λ (m : ℕ). m + 16 * field_cost p < 2 ^ 64) (size us) room) e in (
      (each_written left vs g.0, g.0),
      subst (λ (m : ℕ). m ≤ length (items_text n (map any_text us)) + 16 * field_cost p) (sym (size vs))
          (subst (λ (m : ℕ). numbered_size n any_text vs ≤ m + 16 * field_cost p) (sym (size us)) g.1),
    )

-- a repeated row of any shape
many_keeps : (k : Shape) → Keeps k → InRange k (empty k) → spell k (empty k) ≡ [] → (n : ℕ) → n ≤ greatest_number → (at end : ℕ) (p : Payload) (us vs : List (Value k)) → PayloadInRange p → ManyIn k us
    → length (spell_many k (spell k) n us) + 16 * field_cost p < 2 ^ 64 → take_many k (take_field k) at end p us ≡ Ok vs
    → Grows (ManyIn k) (λ xs. length (spell_many k (spell k) n xs)) us (field_cost p) vs
many_keeps (Number w) keep start nothing n le at end p us vs r i room e = also (Each (FitsNumber w)) (λ xs. length (bytes_field n (numbers_text w xs))) us (field_cost p) vs (numbers_keep w n le at p us vs r i.0 room e)
many_keeps (Index T entry) keep start nothing n le at end p us vs r i room e = also (Each (FitsNumber I32)) (λ xs. length (bytes_field n (numbers_text I32 xs))) us (field_cost p) vs (numbers_keep I32 n le at p us vs r i.0 room e)
many_keeps Fixed keep start nothing n le at end p us vs r i room e = also Fixeds (λ xs. length (bytes_field n (fixed_text xs))) us (field_cost p) vs (fixed_keep n le at p us vs r i.0 room e)
many_keeps Bytes keep start nothing n le at end p us vs r i room e = also (Each (InRange Bytes)) (λ xs. length (items_text n xs)) us (field_cost p) vs (bytes_keep n le p us vs i.0 room (ok_is (more_bytes p us) vs e))
many_keeps Text keep start nothing n le at end p us vs r i room e = also (Each (InRange Text)) (λ xs. length (items_text n xs)) us (field_cost p) vs (texts_keep n le at p us vs i.0 room e)
many_keeps (Any depth) keep start nothing n le at end p us vs r i room e = values_keep depth n le at end p us vs r i.1 room e
many_keeps k keep start nothing n le at end p us vs r i room e =
    also (Each (InRange k)) (λ xs. length (items_text n (map (spell k) xs))) us (field_cost p) vs (many_message k tt keep start nothing n le at end p us vs r i.0 room e)

-- ---- the empty value

-- a number that is the default is left out
number_nothing : (w : Format) (n : ℕ) → number_field n (number_to w (number_zero w)) ≡ []
unfolding number_field
number_nothing U32 n = refl
number_nothing U64 n = refl
number_nothing I32 n = refl
number_nothing I64 n = refl
number_nothing Flag n = refl

-- and an eight-byte value that is 0
fixed_nothing : (n : ℕ) → fixed_field n 0 ≡ []
unfolding fixed_field
fixed_nothing n = refl

-- and empty bytes
bytes_nothing : (n : ℕ) (b : List ℕ) → b ≡ [] → bytes_field n b ≡ []
unfolding bytes_field
bytes_nothing n b e = ap (bytes_field n) e

-- a singular row of the empty value is left out
one_nothing : (k : Shape) (n : ℕ) → spell k (empty k) ≡ [] → spell_one k (spell k) n (empty k) ≡ []
one_nothing (Number w) n e = number_nothing w n
one_nothing (Index T entry) n e = number_nothing I32 n
one_nothing Fixed n e = fixed_nothing n
one_nothing Bytes n e = bytes_nothing n [] refl
one_nothing Text n e = bytes_nothing n [] refl
one_nothing (Any depth) n e = bytes_nothing n [] refl
one_nothing k n e = bytes_nothing n (spell k (empty k)) e

-- and a repeated row with no elements
many_nothing : (k : Shape) (n : ℕ) → spell_many k (spell k) n [] ≡ []
many_nothing (Number w) n = bytes_nothing n [] refl
many_nothing (Index T entry) n = bytes_nothing n [] refl
many_nothing Fixed n = bytes_nothing n [] refl
many_nothing k n = refl

-- the empty value is spelled by no bytes
pub spells_nothing : (s : Shape) → spell s (empty s) ≡ []
spells_nothing (One n k rest) = ap (λ (x : List ℕ). x ++ spell rest (empty rest)) (one_nothing k n (spells_nothing k)) ∙ spells_nothing rest
spells_nothing (Many n k rest) = ap (λ (x : List ℕ). x ++ spell rest (empty rest)) (many_nothing k n) ∙ spells_nothing rest
spells_nothing s = refl

-- the default is a number of its format
zero_fits : (w : Format) → FitsNumber w (number_zero w)
zero_fits U32 = (omega arith, refl)
zero_fits U64 = (omega arith, refl)
zero_fits I32 = (omega arith, refl)
zero_fits I64 = (omega arith, refl)
zero_fits Flag = (omega arith, refl)

-- no elements are in their range
none_in : (k : Shape) → AlsoIn k []
none_in (Any depth) = tt
none_in k = tt

-- and it is in its range
pub empty_in : (s : Shape) → InRange s (empty s)
empty_in (Number w) = zero_fits w
empty_in (Index T entry) = zero_fits I32
empty_in Fixed = omega arith
empty_in Text = is_utf8-from_IsUtf8 [] IsUtf8-nil
empty_in (Any depth) = inl refl
empty_in (One n k rest) = (empty_in k, empty_in rest)
empty_in (Many n k rest) = (tt, none_in k, empty_in rest)
empty_in s = tt

-- ---- messages

-- each shape keeps its values in their range
pub keeps : (s : Shape) → Keeps s
keeps (One n k rest) = let a = keeps k in let b = keeps rest in record {
  keeps = λ at end f u v r i room e.
      let g = row_keeps (InRange k) (InRange rest) (spell_one k (spell k) n) (spell rest) (f.number == n) (take_one k (take_field k) at end f.payload u.0) (take_field rest at end f u.1) u.0 u.1 (field_cost f.payload) v i.0 i.1 room
      (λ t x room e. one_keeps k a n (subst (λ (m : ℕ). m ≤ greatest_number) (eqb-true f.number n t) r.below) at end f.payload u.0 x r.payload_in i.0 room e)
      (λ y room e. b.keeps at end f u.1 y r i.1 room e) e in
      ((g.0, g.1), g.2);
}
keeps (Many n k rest) = let a = keeps k in let b = keeps rest in record {
  keeps = λ at end f u v r i room e.
      let g = row_keeps (ManyIn k) (InRange rest) (spell_many k (spell k) n) (spell rest) (f.number == n) (take_many k (take_field k) at end f.payload u.0) (take_field rest at end f u.1) u.0 u.1 (field_cost f.payload) v (i.0, i.1) i.2 room
      (λ t x room e. many_keeps k a (empty_in k) (spells_nothing k) n (subst (λ (m : ℕ). m ≤ greatest_number) (eqb-true f.number n t) r.below) at end f.payload u.0 x r.payload_in (i.0, i.1) room e)
      (λ y room e. b.keeps at end f u.1 y r i.2 room e) e in
      ((g.0.0, g.0.1, g.1), g.2);
}
keeps s = record { keeps = λ at end f u v r i room e. stays (InRange s) (size s) u v (field_cost f.payload) (ok_is u v e) i }

-- No control byte is in a line.
use Rattle.std.proofs.Common.{◌≡◌, ℕ, zero, suc, ℤ, pos, negsuc, ◌<◌, ◌+◌, ◌/◌, ◌%◌, ◌⊎◌, List, [], ◌∷◌, ◌++◌, map, length, Bool, true, false, not, ◌&&◌, ◌||◌, ◌==◌, nat_lt, nat_le, cond, if◌then◌else◌, codes, refl, arith, inl, inr, flat_map, count_by}
use Rattle.std.proofs.lemmas.Bool.{and_parts}
use Rattle.std.proofs.lemmas.Bool.Decides.{nat_tests}
use Rattle.std.proofs.lemmas.List.Sums.{sum_by-append}
use Rattle.std.specs.Fmt.{digit_glyph, digits_onto, digits, decimal, signed_decimal}
use Rattle.std.specs.List.{list_all, join_by, repeat}
use Rattle.schema.specs.AnyValue.{AnyValue, Values, NoValues, AddValue, KeyValues, NoPairs, AddPair}
use Rattle.schema.specs.Each.{Each}
use Rattle.schema.specs.Messages.{mapping, location, line, attribute, stack, sample, value_type, profile, scope_profiles, resource_profiles, key_value}
use Rattle.schema.specs.Shape.{Value}
use Rattle.schema_laws.proofs.Lists.{each_append}
use Rattle.shown.specs.Direct.{direct}
use Rattle.shown.specs.Quoted.{hex_digits, hex_text, escaped, quoted, bracketed}
use Rattle.shown.specs.AnyText.{any_shown, values_shown, more_values_shown, pairs_shown, more_pairs_shown}
use Rattle.shown.specs.TextLine.{TextLine, line_content, line_text, lines_text, numbered, IsVisible}
use Rattle.shown.specs.ShowText.{key_value_line, attribute_line, entity_line, mapping_lines, source_line, location_lines, stack_lines, sample_lines, type_text, profile_lines, scope_lines, resource_lines, show_lines, show_of}

-- no control byte is in the bytes, or in the words
abbrev pub AreVisible : List ℕ → Type 0
AreVisible bytes = Each IsVisible bytes

abbrev pub WordsAreVisible : List (List ℕ) → Type 0
WordsAreVisible words = Each AreVisible words

-- a fact before others
infixr 20 ◌&◌
◌&◌ : {A B : Type 0} → A → B → A × B
a & b = (a, b)

-- ---- lists

-- of what a function makes of each element
each-map : {A B : Type 0} (P : B → Type 0) (f : A → B) → ((x : A) → P (f x)) → (xs : List A) → Each P (map f xs)
each-map P f h [] = tt
each-map P f h (x ∷ xs) = (h x, each-map P f h xs)

each-flat : {A B : Type 0} (Q : A → Type 0) (P : B → Type 0) (f : A → List B) → ((x : A) → Q x → Each P (f x)) → (xs : List A) → Each Q xs → Each P (flat_map f xs)
each-flat Q P f h [] q = tt
each-flat Q P f h (x ∷ xs) q = each_append P (f x) (flat_map f xs) (h x q.0) (each-flat Q P f h xs q.1)

each-numbered : {A : Type 0} (P : TextLine → Type 0) (f : ℕ → A → List TextLine) → ((n : ℕ) (x : A) → Each P (f n x)) → (n : ℕ) (xs : List A) → Each P (numbered f n xs)
each-numbered P f h n [] = tt
each-numbered P f h n (x ∷ xs) = each_append P (f n x) (numbered f (suc n) xs) (h n x) (each-numbered P f h (suc n) xs)

-- one text after another
both : (a b : List ℕ) → AreVisible a → AreVisible b → AreVisible (a ++ b)
both a b = each_append IsVisible a b

-- ---- words

-- the test
abbrev is_visible : ℕ → Bool
is_visible b = nat_le 32 b && not (b == 127)

tested : (b : ℕ) → is_visible b ≡ true → IsVisible b
tested b h = let p = and_parts (nat_le 32 b) (not (b == 127)) h in (grind (arith, nat_tests), λ e. grind (arith, nat_tests))

-- a text that is given, and one more behind it
given : (bytes : List ℕ) → list_all is_visible bytes ≡ true → AreVisible bytes
given [] h = tt
given (b ∷ bytes) h = let p = and_parts (is_visible b) (list_all is_visible bytes) h in (tested b p.0, given bytes p.1)

-- digits
glyph : (d : ℕ) → d < 16 → IsVisible (digit_glyph false d)
glyph d h = by_test (nat_lt d 10) refl
  where
    by_test : (t : Bool) → nat_lt d 10 ≡ t → IsVisible (if t then 48 + d else 87 + d)
    by_test true e = (omega arith, λ f. grind (arith, nat_tests))
    by_test false e = (omega arith, λ f. omega arith)

digits-onto : (k n : ℕ) (more : List ℕ) → AreVisible more → AreVisible (digits_onto k 10 false n more)
digits-onto zero n more h = h
digits-onto (suc k) n more h =
    let d : ℕ = n % 10 in
    let shown : AreVisible (digit_glyph false d ∷ more) = (glyph d (omega arith), h) in
    either (n / 10 == 0) (digit_glyph false d ∷ more) (digits_onto k 10 false (n / 10) (digit_glyph false d ∷ more)) shown
    (digits-onto k (n / 10) (digit_glyph false d ∷ more) shown)
  where
    either : (t : Bool) (a b : List ℕ) → AreVisible a → AreVisible b → AreVisible (if t then a else b)
    either true a b p q = p
    either false a b p q = q

of-decimal : (n : ℕ) → AreVisible (decimal n)
unfolding digits
of-decimal n = digits-onto 64 n [] tt

of-signed : (z : ℤ) → AreVisible (signed_decimal z)
of-signed (pos n) = of-decimal n
of-signed (negsuc n) = (tested 45 refl, of-decimal (suc n))

of-hex-digits : (b : ℕ) → AreVisible (hex_digits b)
of-hex-digits b = (glyph (b / 16 % 16) (omega arith) & glyph (b % 16) (omega arith) & tt)

of-hex : (bytes : List ℕ) → AreVisible (hex_text bytes)
of-hex bytes = both (codes "0x") (flat_map hex_digits bytes) (given (codes "0x") refl) (go bytes)
  where
    go : (bytes : List ℕ) → AreVisible (flat_map hex_digits bytes)
    go [] = tt
    go (b ∷ bytes) = both (hex_digits b) (flat_map hex_digits bytes) (of-hex-digits b) (go bytes)

-- texts
of-escaped : (b : ℕ) → AreVisible (escaped b)
of-escaped b = by_tests (b == 92 || b == 34) (nat_lt b 32 || b == 127) refl refl
  where
    by_tests : (x y : Bool) → (b == 92 || b == 34) ≡ x → (nat_lt b 32 || b == 127) ≡ y
        → AreVisible (if x then codes "\\" ++ b ∷ [] else (if y then codes "\\x" ++ hex_digits b else b ∷ []))
    by_tests true y e f = (tested 92 refl & (grind (arith, nat_tests), λ g. grind (arith, nat_tests)) & tt)
    by_tests false true e f = (tested 92 refl & tested 120 refl & of-hex-digits b)
    by_tests false false e f = ((grind (arith, nat_tests), λ g. grind (arith, nat_tests)), tt)

of-quoted : (text : List ℕ) → AreVisible (quoted text)
of-quoted text = (tested 34 refl, both (flat_map escaped text) (codes "\"") (go text) (given (codes "\"") refl))
  where
    go : (text : List ℕ) → AreVisible (flat_map escaped text)
    go [] = tt
    go (b ∷ text) = both (escaped b) (flat_map escaped text) (of-escaped b) (go text)

-- lists
of-joined : (words : List (List ℕ)) → WordsAreVisible words → AreVisible (join_by (λ word. word) (codes " ") words)
of-joined [] h = tt
of-joined (w ∷ ws) h = both w (flat_map (λ y. codes " " ++ y) ws) h.0 (each-flat AreVisible IsVisible (λ y. codes " " ++ y) (λ y v. (tested 32 refl, v)) ws h.1)

of-bracketed : (words : List (List ℕ)) → WordsAreVisible words → AreVisible (bracketed words)
of-bracketed words h = (tested 91 refl, both (join_by (λ word. word) (codes " ") words) (codes "]") (of-joined words h) (given (codes "]") refl))

-- ---- AnyValues

of-flag : (x : Bool) → AreVisible (if x then codes "flag true" else codes "flag false")
of-flag true = given (codes "flag true") refl
of-flag false = given (codes "flag false") refl

mutual
  of-any : (v : AnyValue) → AreVisible (any_shown v)
  of-any AnyValue.Empty = given (codes "empty") refl
  of-any (AnyValue.Text b) = both (codes "text ") (quoted b) (given (codes "text ") refl) (of-quoted b)
  of-any (AnyValue.Flag x) = of-flag x
  of-any (AnyValue.Int z) = both (codes "int ") (signed_decimal z) (given (codes "int ") refl) (of-signed z)
  of-any (AnyValue.Double b) = both (codes "double ") (hex_text b) (given (codes "double ") refl) (of-hex b)
  of-any (AnyValue.Items vs) =
      both (codes "items [") (values_shown vs ++ codes "]") (given (codes "items [") refl) (both (values_shown vs) (codes "]") (of-values vs) (given (codes "]") refl))
  of-any (AnyValue.Pairs kvs) =
      both (codes "pairs {") (pairs_shown kvs ++ codes "}") (given (codes "pairs {") refl) (both (pairs_shown kvs) (codes "}") (of-pairs kvs) (given (codes "}") refl))
  of-any (AnyValue.Raw b) = both (codes "bytes ") (hex_text b) (given (codes "bytes ") refl) (of-hex b)

  of-values : (vs : Values) → AreVisible (values_shown vs)
  of-values NoValues = tt
  of-values (AddValue v vs) = both (any_shown v) (more_values_shown vs) (of-any v) (of-more-values vs)

  of-more-values : (vs : Values) → AreVisible (more_values_shown vs)
  of-more-values NoValues = tt
  of-more-values (AddValue v vs) =
      both (codes ", ") (any_shown v ++ more_values_shown vs) (given (codes ", ") refl) (both (any_shown v) (more_values_shown vs) (of-any v) (of-more-values vs))

  of-pairs : (kvs : KeyValues) → AreVisible (pairs_shown kvs)
  of-pairs NoPairs = tt
  of-pairs (AddPair k v kvs) =
      both (quoted k) (codes ": " ++ (any_shown v ++ more_pairs_shown kvs)) (of-quoted k)
      (both (codes ": ") (any_shown v ++ more_pairs_shown kvs) (given (codes ": ") refl) (both (any_shown v) (more_pairs_shown kvs) (of-any v) (of-more-pairs kvs)))

  of-more-pairs : (kvs : KeyValues) → AreVisible (more_pairs_shown kvs)
  of-more-pairs NoPairs = tt
  of-more-pairs (AddPair k v kvs) =
      both (codes ", ") (quoted k ++ (codes ": " ++ (any_shown v ++ more_pairs_shown kvs))) (given (codes ", ") refl)
      (both (quoted k) (codes ": " ++ (any_shown v ++ more_pairs_shown kvs)) (of-quoted k)
      (both (codes ": ") (any_shown v ++ more_pairs_shown kvs) (given (codes ": ") refl) (both (any_shown v) (more_pairs_shown kvs) (of-any v) (of-more-pairs kvs))))

-- ---- lines

abbrev Shown : TextLine → Type 0
Shown l = WordsAreVisible l.words

of-key-value : (k : ℕ) (a : Value (direct (key_value 1))) → Shown (key_value_line k a)
of-key-value k a = (given (codes "attr") refl & of-quoted a.0 & of-any a.1.0 & tt)

of-attribute : (k : ℕ) (a : Value (direct attribute)) → Shown (attribute_line k a)
of-attribute k a = (given (codes "attr") refl & of-quoted a.0 & of-any a.1.0 & given (codes "unit") refl & of-quoted a.1.1.0 & tt)

of-attributes : (k : ℕ) (xs : List (Value (direct attribute))) → Each Shown (map (attribute_line k) xs)
of-attributes k xs = each-map Shown (attribute_line k) (of-attribute k) xs

of-entity : (b : List ℕ) → Shown (entity_line b)
of-entity b = (given (codes "entity") refl & of-hex b & tt)

of-mapping : (m : Value (direct mapping)) → Each Shown (mapping_lines m)
of-mapping m =
    ((given (codes "mapping") refl & of-decimal m.0 & of-decimal m.1.0 & of-decimal m.1.1.0 & of-quoted m.1.1.1.0 & tt), of-attributes 6 m.1.1.1.1.0)

of-source : (l : Value (direct line)) → Shown (source_line l)
of-source l =
    (given (codes "line") refl & of-signed l.1.0 & of-signed l.1.1.0 & given (codes "start") refl & of-signed l.0.1.1.1.0 & given (codes "name") refl & of-quoted l.0.0 &
    given (codes "system") refl & of-quoted l.0.1.0 & given (codes "file") refl & of-quoted l.0.1.1.0 & tt)

of-location : (n : ℕ) (l : Value (direct location)) → Each Shown (location_lines n l)
of-location n l = (
  (given (codes "location") refl & of-decimal n & given (codes "address") refl & of-decimal l.1.0 & tt),
  each_append Shown (mapping_lines l.0) (map source_line l.1.1.0 ++ map (attribute_line 5) l.1.1.1.0) (of-mapping l.0)
      (each_append Shown (map source_line l.1.1.0) (map (attribute_line 5) l.1.1.1.0) (each-map Shown source_line of-source l.1.1.0) (of-attributes 5 l.1.1.1.0)),
)

of-stack : (s : Value (direct stack)) → Each Shown (stack_lines s)
of-stack s = each-numbered Shown location_lines of-location 0 s.0

of-sample : (n : ℕ) (s : Value (direct sample)) → Each Shown (sample_lines n s)
of-sample n s = (
  (given (codes "sample") refl & of-decimal n & given (codes "values") refl & of-bracketed (map signed_decimal s.1.0) (each-map AreVisible signed_decimal of-signed s.1.0) &
      given (codes "times") refl & of-bracketed (map decimal s.1.1.1.1.0) (each-map AreVisible decimal of-decimal s.1.1.1.1.0) &
      given (codes "link") refl & of-hex s.1.1.1.0.0 & of-hex s.1.1.1.0.1.0 & tt),
  each_append Shown (map (attribute_line 4) s.1.1.0) (stack_lines s.0) (of-attributes 4 s.1.1.0) (of-stack s.0),
)

of-type : (t : Value (direct value_type)) → AreVisible (type_text t)
of-type t = both (quoted t.0) (codes "/" ++ quoted t.1.0) (of-quoted t.0) (both (codes "/") (quoted t.1.0) (given (codes "/") refl) (of-quoted t.1.0))

of-profile : (n : ℕ) (p : Value (direct profile)) → Each Shown (profile_lines n p)
of-profile n p = (
  (given (codes "profile") refl & of-decimal n & given (codes "type") refl & of-type p.0 & given (codes "period") refl & of-type p.1.1.1.1.0 & of-signed p.1.1.1.1.1.0 &
      given (codes "time") refl & of-decimal p.1.1.0 & given (codes "duration") refl & of-decimal p.1.1.1.0 & given (codes "id") refl & of-hex p.1.1.1.1.1.1.0 &
      given (codes "dropped") refl & of-decimal p.1.1.1.1.1.1.1.0 & given (codes "format") refl & of-quoted p.1.1.1.1.1.1.1.1.0 & given (codes "payload") refl & of-hex p.1.1.1.1.1.1.1.1.1.0 & tt),
  each_append Shown (map (attribute_line 3) p.1.1.1.1.1.1.1.1.1.1.0) (numbered sample_lines 0 p.1.0) (of-attributes 3 p.1.1.1.1.1.1.1.1.1.1.0) (each-numbered Shown sample_lines of-sample 0 p.1.0),
)

of-scope : (n : ℕ) (r : Value (direct scope_profiles)) → Each Shown (scope_lines n r)
of-scope n r = (
  (given (codes "scope") refl & of-decimal n & given (codes "name") refl & of-quoted r.0.0 & given (codes "version") refl & of-quoted r.0.1.0 &
      given (codes "dropped") refl & of-decimal r.0.1.1.1.0 & given (codes "schema") refl & of-quoted r.1.1.0 & tt),
  each_append Shown (map (key_value_line 2) r.0.1.1.0) (numbered profile_lines 0 r.1.0) (each-map Shown (key_value_line 2) (of-key-value 2) r.0.1.1.0) (each-numbered Shown profile_lines of-profile 0 r.1.0),
)

of-resource : (n : ℕ) (r : Value (direct resource_profiles)) → Each Shown (resource_lines n r)
of-resource n r = (
  (given (codes "resource") refl & of-decimal n & given (codes "dropped") refl & of-decimal r.0.1.0 & given (codes "schema") refl & of-quoted r.1.1.0 & tt),
  each_append Shown (map (key_value_line 1) r.0.0) (map entity_line r.0.1.1.0 ++ numbered scope_lines 0 r.1.0) (each-map Shown (key_value_line 1) (of-key-value 1) r.0.0)
      (each_append Shown (map entity_line r.0.1.1.0) (numbered scope_lines 0 r.1.0) (each-map Shown entity_line of-entity r.0.1.1.0) (each-numbered Shown scope_lines of-scope 0 r.1.0)),
)

-- ---- what stands in a line

content : (l : TextLine) → Shown l → AreVisible (line_content l)
content l h = both (repeat l.level (codes "  ")) (join_by (λ word. word) (codes " ") l.words) (indent l.level) (of-joined l.words h)
  where
    indent : (n : ℕ) → AreVisible (repeat n (codes "  "))
    indent zero = tt
    indent (suc n) = (tested 32 refl & tested 32 refl & indent n)

contents : (ls : List TextLine) → Each Shown ls → Each (λ l. AreVisible (line_content l)) ls
contents [] h = tt
contents (l ∷ ls) h = (content l h.0, contents ls h.1)

pub lines-visible : (rs : List (Value (direct resource_profiles))) → Each (λ l. Each IsVisible (line_content l)) (show_lines rs)
lines-visible rs = contents (show_lines rs) (each-numbered Shown resource_lines of-resource 0 rs)

-- ---- bytes of the text

abbrev IsShownByte : ℕ → Type 0
IsShownByte b = (b ≡ 10) ⊎ IsVisible b

shown-bytes : (bytes : List ℕ) → AreVisible bytes → Each IsShownByte bytes
shown-bytes [] h = tt
shown-bytes (b ∷ bytes) h = (inr h.0, shown-bytes bytes h.1)

pub bytes-shown : (rs : List (Value (direct resource_profiles))) → Each (λ b. (b ≡ 10) ⊎ IsVisible b) (show_of rs)
bytes-shown rs =
    each-flat (λ l. AreVisible (line_content l)) IsShownByte line_text
    (λ l h. each_append IsShownByte (line_content l) (codes "\n") (shown-bytes (line_content l) h) (inl refl, tt))
    (show_lines rs) (lines-visible rs)

-- ---- line feeds

abbrev is_feed : ℕ → Bool
is_feed b = b == 10

count-append : (xs ys : List ℕ) → count_by is_feed (xs ++ ys) ≡ count_by is_feed xs + count_by is_feed ys
count-append xs ys = sum_by-append (λ b. cond (is_feed b) 1 0) xs ys

no-feeds : (bytes : List ℕ) → AreVisible bytes → count_by is_feed bytes ≡ 0
no-feeds [] h = refl
no-feeds (b ∷ bytes) h =
    let e : (b == 10) ≡ false = grind (arith, nat_tests, h.0) in
    let one : count_by is_feed (b ∷ []) ≡ 0 = rw e refl in
    omega (arith, count-append (b ∷ []) bytes, one, no-feeds bytes h.1)

feeds : (ls : List TextLine) → Each (λ l. AreVisible (line_content l)) ls → count_by is_feed (lines_text ls) ≡ length ls
feeds [] h = refl
feeds (l ∷ ls) h =
    omega (arith, count-append (line_text l) (lines_text ls), count-append (line_content l) (codes "\n"), no-feeds (line_content l) h.0, feeds ls h.1)

pub feeds-are-lines : (rs : List (Value (direct resource_profiles))) → count_by (λ b. b == 10) (show_of rs) ≡ length (show_lines rs)
feeds-are-lines rs = feeds (show_lines rs) (lines-visible rs)

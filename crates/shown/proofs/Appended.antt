-- Texts one after the other, and their lengths.
use Rattle.std.proofs.Common.{◌≡◌, ℕ, suc, ◌+◌, List, [], ◌∷◌, ◌++◌, map, length, codes, refl, ap, sym, ◌∙◌, arith, append_assoc, flat_map}
use Rattle.std.proofs.lemmas.Grind.{flat_map-append}
use Rattle.std.proofs.lemmas.List.{length-append}
use Rattle.std.specs.Fmt.{decimal, signed_decimal}
use Rattle.std.specs.List.{repeat}
use Rattle.schema.specs.Messages.{location, sample, resource_profiles, message}
use Rattle.schema.specs.Shape.{Value}
use Rattle.meaning.specs.Tree.{tree, value}
use Rattle.meaning.specs.Meaning.{resolve}
use Rattle.meaning.specs.Message.{tables_in}
use Rattle.shown.specs.Direct.{direct, meant}
use Rattle.shown.specs.Quoted.{hex_text, bracketed}
use Rattle.shown.specs.TextLine.{TextLine, at_level, line_text, lines_text, numbered}
use Rattle.shown.specs.ShowText.{attribute_line, mapping_lines, source_line, location_lines, stack_lines, sample_line, sample_lines, show_of, show_text}
use Rattle.shown.proofs.Meant.{meant-is}

-- ---- texts of lists

pub lines-append : (ls ms : List TextLine) → lines_text (ls ++ ms) ≡ lines_text ls ++ lines_text ms
lines-append ls ms = flat_map-append line_text ls ms

-- the positions of a second list go on
pub numbered-append : {A : Type 0} (f : ℕ → A → List TextLine) (n : ℕ) (xs ys : List A)
    → lines_text (numbered f n (xs ++ ys)) ≡ lines_text (numbered f n xs) ++ lines_text (numbered f (n + length xs) ys)
numbered-append f n [] ys = ap (λ m. lines_text (numbered f m ys)) (omega arith)
numbered-append f n (x ∷ xs) ys =
    let e : suc n + length xs ≡ n + suc (length xs) = omega arith in
    lines-append (f n x) (numbered f (suc n) (xs ++ ys))
    ∙ ap (λ l. lines_text (f n x) ++ l) (numbered-append f (suc n) xs ys ∙ ap (λ m. lines_text (numbered f (suc n) xs) ++ lines_text (numbered f m ys)) e)
    ∙ sym (append_assoc (lines_text (f n x)) (lines_text (numbered f (suc n) xs)) (lines_text (numbered f (n + suc (length xs)) ys)))
    ∙ ap (λ l. l ++ lines_text (numbered f (n + suc (length xs)) ys)) (sym (lines-append (f n x) (numbered f (suc n) xs)))

-- ---- a sample

pub sample-text : (n : ℕ) (s : Value (direct sample))
    → lines_text (sample_lines n s) ≡ line_text (sample_line n s) ++ (lines_text (map (attribute_line 4) s.1.1.0) ++ lines_text (stack_lines s.0))
sample-text n s = ap (λ l. line_text (sample_line n s) ++ l) (lines-append (map (attribute_line 4) s.1.1.0) (stack_lines s.0))

pub sample-length : (n : ℕ) (s : Value (direct sample))
    → length (lines_text (sample_lines n s)) ≡ length (line_text (sample_line n s)) + (length (lines_text (map (attribute_line 4) s.1.1.0)) + length (lines_text (stack_lines s.0)))
sample-length n s =
    ap length (sample-text n s)
    ∙ length-append (line_text (sample_line n s)) (lines_text (map (attribute_line 4) s.1.1.0) ++ lines_text (stack_lines s.0))
    ∙ ap (λ k. length (line_text (sample_line n s)) + k) (length-append (lines_text (map (attribute_line 4) s.1.1.0)) (lines_text (stack_lines s.0)))

-- ---- positions

-- the length of a line whose second word is this one
second-word : (k : ℕ) (a p : List ℕ) (ws : List (List ℕ)) → length (line_text (at_level k (a ∷ p ∷ ws))) ≡ length p + length (line_text (at_level k (a ∷ [] ∷ ws)))
second-word k a p ws =
    let more : List ℕ = flat_map (λ y. codes " " ++ y) ws in
    let indent : List ℕ = repeat k (codes "  ") in
    omega (
      arith,
      length-append (indent ++ (a ++ (32 ∷ (p ++ more)))) (codes "\n"),
      length-append indent (a ++ (32 ∷ (p ++ more))),
      length-append a (32 ∷ (p ++ more)),
      length-append p more,
      length-append (indent ++ (a ++ (32 ∷ more))) (codes "\n"),
      length-append indent (a ++ (32 ∷ more)),
      length-append a (32 ∷ more),
    )

-- a text that begins with such a line
numbered-length : (k m n : ℕ) (a : List ℕ) (ws : List (List ℕ)) (ls : List TextLine)
    → length (lines_text (at_level k (a ∷ decimal n ∷ ws) ∷ ls)) + length (decimal m) ≡ length (lines_text (at_level k (a ∷ decimal m ∷ ws) ∷ ls)) + length (decimal n)
numbered-length k m n a ws ls =
    omega (
      arith,
      length-append (line_text (at_level k (a ∷ decimal n ∷ ws))) (lines_text ls),
      length-append (line_text (at_level k (a ∷ decimal m ∷ ws))) (lines_text ls),
      second-word k a (decimal n) ws,
      second-word k a (decimal m) ws,
    )

pub sample-positions : (m n : ℕ) (s : Value (direct sample))
    → length (lines_text (sample_lines n s)) + length (decimal m) ≡ length (lines_text (sample_lines m s)) + length (decimal n)
sample-positions m n s =
    numbered-length 3 m n (codes "sample") (codes "values" ∷ bracketed (map signed_decimal s.1.0) ∷ codes "times" ∷ bracketed (map decimal s.1.1.1.1.0)
    ∷ codes "link" ∷ hex_text s.1.1.1.0.0 ∷ hex_text s.1.1.1.0.1.0 ∷ []) (map (attribute_line 4) s.1.1.0 ++ stack_lines s.0)

pub location-positions : (m n : ℕ) (l : Value (direct location))
    → length (lines_text (location_lines n l)) + length (decimal m) ≡ length (lines_text (location_lines m l)) + length (decimal n)
location-positions m n l =
    numbered-length 4 m n (codes "location") (codes "address" ∷ decimal l.1.0 ∷ []) (mapping_lines l.0 ++ (map source_line l.1.1.0 ++ map (attribute_line 5) l.1.1.1.0))

-- ---- messages

map-same : {A B C : Type 0} (f : A → B) (g : B → C) (m : A → C) → ((x : A) → m x ≡ g (f x)) → (xs : List A) → map g (map f xs) ≡ map m xs
map-same f g m e [] = refl
map-same f g m e (x ∷ xs) = let a : m x ≡ g (f x) = e x in let b = map-same f g m e xs in cc

pub message-text : (x : Value (message resource_profiles)) → show_text x ≡ show_of (map (meant (tables_in x.1.0) resource_profiles) x.0)
message-text x =
    ap show_of (map-same (λ r. resolve (tables_in x.1.0) resource_profiles (tree resource_profiles r)) (value (direct resource_profiles))
    (meant (tables_in x.1.0) resource_profiles) (meant-is (tables_in x.1.0) resource_profiles) x.0)

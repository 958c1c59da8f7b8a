-- Lines as the pieces that they are put from.
use Rattle.std.proofs.Common.{◌≡◌, ℕ, List, [], ◌∷◌, ◌++◌, codes, map, refl, sym, ap, ◌∙◌, append_assoc}
use Rattle.std.specs.Fmt.{decimal, signed_decimal}
use Rattle.std.specs.List.{flat_map, join_by, repeat}
use Rattle.std.proofs.lemmas.Grind.{flat_map-append}
use Rattle.std.proofs.lemmas.List.{append-nil}
use Rattle.schema.specs.Messages.{location, line, function}
use Rattle.schema.specs.Shape.{Value}
use Rattle.shown.specs.Direct.{direct}
use Rattle.shown.specs.Quoted.{quoted}
use Rattle.shown.specs.TextLine.{at_level, line_text, lines_text}
use Rattle.shown.specs.ShowText.{attribute_line, mapping_lines, source_line, location_lines}
use Rattle.entry_text.specs.EntryTexts.{function_words, location_rest}

-- words, each behind a space, before a text
abbrev pub words_before : List (List ℕ) → List ℕ → List ℕ
words_before [] rest = rest
words_before (w ∷ ws) rest = codes " " ++ (w ++ words_before ws rest)

pub words-append : (ws : List (List ℕ)) (rest : List ℕ) → flat_map (λ w. codes " " ++ w) ws ++ rest ≡ words_before ws rest
words-append [] rest = refl
words-append (w ∷ ws) rest =
    append_assoc (codes " " ++ w) (flat_map (λ w. codes " " ++ w) ws) rest
    ∙ append_assoc (codes " ") w (flat_map (λ w. codes " " ++ w) ws ++ rest)
    ∙ ap (λ (l : List ℕ). codes " " ++ (w ++ l)) (words-append ws rest)

-- words with a space between them, before a text
pub joined_before : (w : List ℕ) (ws : List (List ℕ)) (rest : List ℕ) → join_by (λ word. word) (codes " ") (w ∷ ws) ++ rest ≡ w ++ words_before ws rest
joined_before w ws rest = append_assoc w (flat_map (λ w. codes " " ++ w) ws) rest ∙ ap (λ (l : List ℕ). w ++ l) (words-append ws rest)

pub line_pieces : (level : ℕ) (w : List ℕ) (ws : List (List ℕ))
    → line_text (at_level level (w ∷ ws)) ≡ repeat level (codes "  ") ++ (w ++ words_before ws (codes "\n"))
line_pieces level w ws =
    append_assoc (repeat level (codes "  ")) (join_by (λ word. word) (codes " ") (w ∷ ws)) (codes "\n")
    ∙ ap (λ (l : List ℕ). repeat level (codes "  ") ++ l) (joined_before w ws (codes "\n"))

-- ---- entries

pub function_pieces : (f : Value (direct function))
    → function_words f ≡ codes "start " ++ (signed_decimal f.1.1.1.0 ++ (codes " name " ++ (quoted f.0 ++ (codes " system " ++ (quoted f.1.0 ++ (codes " file " ++ quoted f.1.1.0))))))
function_pieces f =
    sym (append-nil (function_words f))
    ∙ joined_before (codes "start") (signed_decimal f.1.1.1.0 ∷ codes "name" ∷ quoted f.0 ∷ codes "system" ∷ quoted f.1.0 ∷ codes "file" ∷ quoted f.1.1.0 ∷ []) []
    ∙ ap (λ (l : List ℕ). codes "start " ++ (signed_decimal f.1.1.1.0 ++ (codes " name " ++ (quoted f.0 ++ (codes " system " ++ (quoted f.1.0 ++ (codes " file " ++ l))))))) (append-nil (quoted f.1.1.0))

pub source_pieces : (l : Value (direct line))
    → line_text (source_line l) ≡ codes "          line " ++ (signed_decimal l.1.0 ++ (codes " " ++ (signed_decimal l.1.1.0 ++ (codes " " ++ (function_words l.0 ++ codes "\n")))))
source_pieces l =
    line_pieces 5 (codes "line") (signed_decimal l.1.0 ∷ signed_decimal l.1.1.0 ∷ codes "start" ∷ words)
    ∙ ap (λ (t : List ℕ). codes "          line " ++ (signed_decimal l.1.0 ++ (codes " " ++ (signed_decimal l.1.1.0 ++ (codes " " ++ t))))) (sym (joined_before (codes "start") words (codes "\n")))
  where
    words : List (List ℕ)
    words = signed_decimal l.0.1.1.1.0 ∷ codes "name" ∷ quoted l.0.0 ∷ codes "system" ∷ quoted l.0.1.0 ∷ codes "file" ∷ quoted l.0.1.1.0 ∷ []

pub location_pieces : (l : Value (direct location))
    → location_rest l ≡ codes " address " ++ (decimal l.1.0 ++ (codes "\n" ++ (lines_text (mapping_lines l.0) ++ (lines_text (map source_line l.1.1.0) ++ lines_text (map (attribute_line 5) l.1.1.1.0)))))
location_pieces l =
    ap (λ (t : List ℕ). codes " address " ++ (decimal l.1.0 ++ (codes "\n" ++ t)))
    (flat_map-append line_text (mapping_lines l.0) (map source_line l.1.1.0 ++ map (attribute_line 5) l.1.1.1.0)
    ∙ ap (λ (t : List ℕ). lines_text (mapping_lines l.0) ++ t) (flat_map-append line_text (map source_line l.1.1.0) (map (attribute_line 5) l.1.1.1.0)))

-- a location of a stack is its position and what its entry puts
pub numbered_location : (n : ℕ) (l : Value (direct location)) → lines_text (location_lines n l) ≡ codes "        location " ++ (decimal n ++ location_rest l)
numbered_location n l =
    ap (λ (t : List ℕ). t ++ held) (line_pieces 4 (codes "location") (decimal n ∷ codes "address" ∷ decimal l.1.0 ∷ []))
    ∙ ap (λ (t : List ℕ). codes "        location " ++ t) (append_assoc (decimal n) (codes " address " ++ (decimal l.1.0 ++ codes "\n")) held)
    ∙ ap (λ (t : List ℕ). codes "        location " ++ (decimal n ++ (codes " address " ++ t))) (append_assoc (decimal l.1.0) (codes "\n") held)
  where
    held : List ℕ
    held = lines_text (mapping_lines l.0 ++ (map source_line l.1.1.0 ++ map (attribute_line 5) l.1.1.1.0))

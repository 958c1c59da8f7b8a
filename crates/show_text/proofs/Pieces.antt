-- Lines, piece by piece.
use Rattle.std.proofs.Common.{◌≡◌, ℕ, List, [], ◌∷◌, ◌++◌, codes, map, refl, ap, ◌∙◌, sym, append_assoc}
use Rattle.std.specs.Fmt.{decimal, signed_decimal}
use Rattle.std.specs.List.{repeat}
use Rattle.schema.specs.Messages.{key_value, sample, profile, scope_profiles, resource_profiles}
use Rattle.schema.specs.Shape.{Value}
use Rattle.shown.specs.Direct.{direct}
use Rattle.shown.specs.Quoted.{hex_text, quoted, bracketed}
use Rattle.shown.specs.AnyText.{any_shown}
use Rattle.shown.specs.TextLine.{at_level, line_text, lines_text, numbered}
use Rattle.shown.specs.ShowText.{attribute_line, key_value_line, entity_line, sample_line, sample_lines, type_text, profile_line, profile_lines, scope_line, scope_lines, resource_line, resource_lines}
use Rattle.shown.proofs.Appended.{lines-append}
use Rattle.entry_text.proofs.Pieces.{words_before, line_pieces}
use Rattle.show_text.specs.ProfileLine.{profile_front, profile_back}

pieces : (level : ℕ) (w : List ℕ) (ws : List (List ℕ)) → repeat level (codes "  ") ++ (w ++ words_before ws (codes "\n")) ≡ line_text (at_level level (w ∷ ws))
pieces level w ws = sym (line_pieces level w ws)

-- ---- the lines of a message

pub key_value_pieces : (level : ℕ) (a : Value (direct (key_value 1)))
    → repeat level (codes "  ") ++ (codes "attr " ++ (quoted a.0 ++ (codes " " ++ (any_shown a.1.0 ++ codes "\n")))) ≡ line_text (key_value_line level a)
key_value_pieces level a = pieces level (codes "attr") (quoted a.0 ∷ any_shown a.1.0 ∷ [])

pub entity_pieces : (bytes : List ℕ) → codes "  entity " ++ (hex_text bytes ++ codes "\n") ≡ line_text (entity_line bytes)
entity_pieces bytes = pieces 1 (codes "entity") (hex_text bytes ∷ [])

pub sample_pieces : (n : ℕ) (s : Value (direct sample)) → let link = s.1.1.1.0 in
    codes "      sample " ++ (decimal n ++ (codes " values " ++ (bracketed (map signed_decimal s.1.0) ++ (codes " times " ++ (bracketed (map decimal s.1.1.1.1.0)
    ++ (codes " link " ++ ((hex_text link.0 ++ (codes " " ++ hex_text link.1.0)) ++ codes "\n")))))))
    ≡ line_text (sample_line n s)
sample_pieces n s =
    ap (λ (l : List ℕ). codes "      sample " ++ (decimal n ++ (codes " values " ++ (bracketed (map signed_decimal s.1.0) ++ (codes " times " ++ (bracketed (map decimal s.1.1.1.1.0) ++ (codes " link " ++ l)))))))
    (append_assoc (hex_text s.1.1.1.0.0) (codes " " ++ hex_text s.1.1.1.0.1.0) (codes "\n"))
    ∙ pieces 3 (codes "sample") (decimal n ∷ codes "values" ∷ bracketed (map signed_decimal s.1.0) ∷ codes "times" ∷ bracketed (map decimal s.1.1.1.1.0)
    ∷ codes "link" ∷ hex_text s.1.1.1.0.0 ∷ hex_text s.1.1.1.0.1.0 ∷ [])

pub scope_pieces : (n : ℕ) (r : Value (direct scope_profiles)) → let s = r.0 in
    codes "  scope " ++ (decimal n ++ (codes " name " ++ (quoted s.0 ++ (codes " version " ++ (quoted s.1.0 ++ (codes " dropped " ++ (decimal s.1.1.1.0
    ++ (codes " schema " ++ (quoted r.1.1.0 ++ codes "\n")))))))))
    ≡ line_text (scope_line n r)
scope_pieces n r = let s = r.0 in
    pieces 1 (codes "scope") (decimal n ∷ codes "name" ∷ quoted s.0 ∷ codes "version" ∷ quoted s.1.0 ∷ codes "dropped" ∷ decimal s.1.1.1.0 ∷ codes "schema" ∷ quoted r.1.1.0 ∷ [])

pub resource_pieces : (n : ℕ) (r : Value (direct resource_profiles))
    → codes "resource " ++ (decimal n ++ (codes " dropped " ++ (decimal r.0.1.0 ++ (codes " schema " ++ (quoted r.1.1.0 ++ codes "\n"))))) ≡ line_text (resource_line n r)
resource_pieces n r = pieces 0 (codes "resource") (decimal n ∷ codes "dropped" ∷ decimal r.0.1.0 ∷ codes "schema" ∷ quoted r.1.1.0 ∷ [])

-- the line of a profile has two parts
front_then : (n t p s rest : List ℕ)
    → (codes "    profile " ++ (n ++ (codes " type " ++ (t ++ (codes " period " ++ (p ++ (codes " " ++ s))))))) ++ rest
    ≡ codes "    profile " ++ (n ++ (codes " type " ++ (t ++ (codes " period " ++ (p ++ (codes " " ++ (s ++ rest)))))))
front_then n t p s rest = ap (λ (l : List ℕ). codes "    profile " ++ l) (
    append_assoc n (codes " type " ++ (t ++ (codes " period " ++ (p ++ (codes " " ++ s))))) rest
    ∙ ap (λ (l : List ℕ). n ++ (codes " type " ++ l)) (append_assoc t (codes " period " ++ (p ++ (codes " " ++ s))) rest
    ∙ ap (λ (l : List ℕ). t ++ (codes " period " ++ l)) (append_assoc p (codes " " ++ s) rest)))

pub profile_parts : (n : ℕ) (p : Value (direct profile)) → profile_front n p ++ profile_back p ≡ line_text (profile_line n p)
profile_parts n p = let period = p.1.1.1.1 in let last = period.1.1 in
    front_then (decimal n) (type_text p.0) (type_text period.0) (signed_decimal period.1.0) (profile_back p)
    ∙ pieces 2 (codes "profile") (decimal n ∷ codes "type" ∷ type_text p.0 ∷ codes "period" ∷ type_text period.0 ∷ signed_decimal period.1.0
    ∷ codes "time" ∷ decimal p.1.1.0 ∷ codes "duration" ∷ decimal p.1.1.1.0 ∷ codes "id" ∷ hex_text last.0
    ∷ codes "dropped" ∷ decimal last.1.0 ∷ codes "format" ∷ quoted last.1.1.0 ∷ codes "payload" ∷ hex_text last.1.1.1.0 ∷ [])

-- ---- records and what they hold

pub profile_text : (n : ℕ) (p : Value (direct profile))
    → line_text (profile_line n p) ++ (lines_text (map (attribute_line 3) p.1.1.1.1.1.1.1.1.1.1.0) ++ lines_text (numbered sample_lines 0 p.1.0)) ≡ lines_text (profile_lines n p)
profile_text n p = ap (λ (l : List ℕ). line_text (profile_line n p) ++ l) (sym (lines-append (map (attribute_line 3) p.1.1.1.1.1.1.1.1.1.1.0) (numbered sample_lines 0 p.1.0)))

pub scope_text : (n : ℕ) (r : Value (direct scope_profiles))
    → line_text (scope_line n r) ++ (lines_text (map (key_value_line 2) r.0.1.1.0) ++ lines_text (numbered profile_lines 0 r.1.0)) ≡ lines_text (scope_lines n r)
scope_text n r = ap (λ (l : List ℕ). line_text (scope_line n r) ++ l) (sym (lines-append (map (key_value_line 2) r.0.1.1.0) (numbered profile_lines 0 r.1.0)))

pub resource_text : (n : ℕ) (r : Value (direct resource_profiles))
    → line_text (resource_line n r) ++ (lines_text (map (key_value_line 1) r.0.0) ++ (lines_text (map entity_line r.0.1.1.0) ++ lines_text (numbered scope_lines 0 r.1.0))) ≡ lines_text (resource_lines n r)
resource_text n r = ap (λ (l : List ℕ). line_text (resource_line n r) ++ l) (sym (
    lines-append (map (key_value_line 1) r.0.0) (map entity_line r.0.1.1.0 ++ numbered scope_lines 0 r.1.0)
    ∙ ap (λ (l : List ℕ). lines_text (map (key_value_line 1) r.0.0) ++ l) (lines-append (map entity_line r.0.1.1.0) (numbered scope_lines 0 r.1.0))))

-- ---- numbers

mapped : {A B C D : Type 0} (f : C → D) (g : B → C) (h : A → B) (xs : List A) → map (λ x. f (g (h x))) xs ≡ map f (map g (map h xs))
mapped f g h [] = refl
mapped f g h (x ∷ xs) = ap (λ l. f (g (h x)) ∷ l) (mapped f g h xs)

plain_mapped : {A C D : Type 0} (f : C → D) (g : A → C) (xs : List A) → map (λ x. f (g x)) xs ≡ map f (map g xs)
plain_mapped f g [] = refl
plain_mapped f g (x ∷ xs) = ap (λ l. f (g x) ∷ l) (plain_mapped f g xs)

pub same_numbers : {A B C : Type 0} (f : C → List ℕ) (g : B → C) (h : A → B) (xs : List A) → bracketed (map (λ x. f (g (h x))) xs) ≡ bracketed (map f (map g (map h xs)))
same_numbers f g h xs = ap bracketed (mapped f g h xs)

pub same_plain_numbers : {A C : Type 0} (f : C → List ℕ) (g : A → C) (xs : List A) → bracketed (map (λ x. f (g x)) xs) ≡ bracketed (map f (map g xs))
same_plain_numbers f g xs = ap bracketed (plain_mapped f g xs)
